-- A name laid into its slot, and the variable that points there put at its place. What lies before and behind the slot stays.
use mathlib.Core.Path.{◌≡◌, refl, sym, ap, ap₂, ◌∙◌}
use mathlib.Core.List.{List, [], ◌∷◌, ◌++◌, append_assoc}
use Prim.Native.Nat.{ℕ, ◌+◌, ◌*◌, ◌-◌, ◌≤◌, ◌<◌}
use native.Mathlib.Omega.{arith}
use lib.Dec.{eqb}
use lib.ListN.{length, take, drop, get_or, set, replicate, length-set, length-append, length-replicate, length-take, length-drop, get_or-replicate, get_or-append}
use lib.Seq.{paste, drop-drop, length-paste, drop-paste, length-take-le, take_at, drop_at, take-take, take-append-le, take-append_seam, get_or-take, get_or-drop, get_or-append-add, get_or-set_same, get_or-set_other}
use borrow.Rule.Slice.PartMut.{put_mid}
use Rattle.std.proofs.lemmas.Slice.{take-put_mid, drop-put_mid}
use Rattle.std.proofs.lemmas.List.Edits.{paste_all}
use borrow.Author.Tests.{eqb-true, eqb-false}
use Rattle.definitions.specs.Bytes.{Bytes}
use Rattle.text.specs.declared.table.Table.{Table}
use Rattle.definitions.specs.Syntax.{Name}
use Rattle.definitions.proofs.Laws.Bools.{by_cases}
use Rattle.text.specs.Words.{Token, var_token, kind_of_word, spell, tokens}
use Rattle.text.specs.WordLaws.{variable_word}
use Rattle.prenex.specs.Tables.{slot_word, padded, Slot, Known, AllKnown, Places}
use Rattle.prenex.specs.Writing.{Between, Laid, text_name}
use Rattle.prenex.proofs.Words.{tokens_kept}
use Rattle.prenex.proofs.Putting.{set_known}
use Rattle.prenex.proofs.Growing.{slot_kind, slot_length, slot_start, slot_spell}
use Rattle.prenex.proofs.Appending.{one_written}

pub padded_length : (x : Name) → length x ≤ 24 → length (padded x) ≡ 25
padded_length x h = simp (length-append, length-replicate) (omega arith)

-- the name x written from `from` on, and backticks behind it
pub slot_laid : (M : Bytes) (from : ℕ) (x : Name) {y z : Bytes} {n k : ℕ} → from + 25 ≤ length M → length x ≤ 24 → n ≡ length x → k ≡ 25 - length x
    → y ≡ x → z ≡ replicate (length (take k (drop (from + length x) (put_mid from n M y)))) 96
    → put_mid (from + length x) k (put_mid from n M y) z ≡ paste M from (padded x) 25
slot_laid M from x {y} {z} {n} {k} room short b c a e =
    let m : length (take k (drop (from + length x) (put_mid from n M x))) ≡ 25 - length x = simp (length-take, length-drop, length-append) (omega arith) in
    let t : z ≡ replicate (25 - length x) 96 = rw a at e ∙ ap (λ (j : ℕ). replicate j 96) m in
    let q : from + length x + k ≡ from + 25 = omega arith in
    rw (a, t)
    (ap₂ (λ (p q : Bytes). p ++ (replicate (25 - length x) 96 ++ q)) (take-put_mid from n M x (from + length x) refl (omega arith))
    (drop-drop k (from + length x) (put_mid from n M x) ∙ drop-put_mid from n M x (from + length x + k) (omega arith) (omega arith) (sym b) ∙ ap (λ (j : ℕ). drop j M) q)
    ∙ append_assoc (take from M) x (replicate (25 - length x) 96 ++ drop (from + 25) M)
    ∙ ap (λ (l : Bytes). take from M ++ l) (sym (append_assoc x (replicate (25 - length x) 96) (drop (from + 25) M)))
    ∙ sym (paste_all M from (padded x) 25 (sym (padded_length x short))))

pub known_more : {n m : ℕ} (W : List ℕ) → n ≤ m → AllKnown n W → AllKnown m W
known_more W h a i z = omega (arith, a i z)

module _ (M : Bytes) (at : ℕ) (x : Name) (room : 25 * at + 25 ≤ length M) (short : length x ≤ 24) where
  abbrev N : Bytes
  N = paste M (25 * at) (padded x) 25

  fit : length (take 25 (padded x)) ≡ 25
  fit = length-take-le 25 (padded x) (omega (arith, padded_length x short))

  pub laid_size : length N ≡ length M
  laid_size = length-paste M (25 * at) (padded x) 25 room (omega (arith, padded_length x short))

  pub laid_before : take (25 * at) N ≡ take (25 * at) M
  laid_before = rw append_assoc (take_at (take (25 * at) M) (take 25 (padded x) ++ drop (25 * at + 25) M) (25 * at) (length-take-le (25 * at) M (omega arith)))

  pub laid_after : drop (25 * at + 25) N ≡ drop (25 * at + 25) M
  laid_after = drop-paste M (25 * at) (padded x) 25 (omega arith) (omega (arith, padded_length x short))

  slot_from : drop (25 * at) N ≡ take 25 (padded x) ++ drop (25 * at + 25) M
  slot_from = rw append_assoc (drop_at (take (25 * at) M) (take 25 (padded x) ++ drop (25 * at + 25) M) (25 * at) (length-take-le (25 * at) M (omega arith)))

  laid_name : take (length x) (drop (25 * at) N) ≡ x
  laid_name =
      ap (take (length x)) slot_from ∙ take-append-le (length x) (take 25 (padded x)) (drop (25 * at + 25) M) (omega (arith, fit))
      ∙ take-take (length x) 25 (padded x) (omega arith) ∙ take-append_seam x (replicate (25 - length x) 96)

  laid_ticks : (j : ℕ) → length x ≤ j → j < 25 → get_or N (25 * at + j) 0 ≡ 96
  laid_ticks j h k =
      let z : length x + (j - length x) ≡ j = omega arith in
      sym (get_or-drop (25 * at) N j 0) ∙ ap (λ (l : List ℕ). get_or l j 0) slot_from
      ∙ get_or-append (take 25 (padded x)) (drop (25 * at + 25) M) 0 j (omega (arith, fit)) ∙ get_or-take 25 (padded x) j 0 k
      ∙ ap (λ (i : ℕ). get_or (padded x) i 0) (sym z) ∙ get_or-append-add x (replicate (25 - length x) 96) (j - length x) 0
      ∙ get_or-replicate (25 - length x) (j - length x) 96 0 (omega arith)

  laid_spell : (T : Bytes) → at < 1024 → spell T N (slot_word at (length x)) ≡ x
  laid_spell T h = slot_spell at (length x) h (omega arith) T N ∙ laid_name

  pub laid_slot : Slot N at (slot_word at (length x))
  laid_slot = record { size = length x; word = refl; short = short; ticks = laid_ticks }

  -- what lies before the slot is as it was
  byte_before : (k : ℕ) → k < 25 * at → get_or N k 0 ≡ get_or M k 0
  byte_before k h = sym (get_or-take (25 * at) N k 0 h) ∙ ap (λ (l : List ℕ). get_or l k 0) laid_before ∙ get_or-take (25 * at) M k 0 h

  slot_before : {i w : ℕ} → i < at → Slot M i w → Slot N i w
  slot_before {i} {w} h s = record { size = s.size; word = s.word; short = s.short; ticks = λ j a b. byte_before (25 * i + j) (omega arith) ∙ s.ticks j a b }

  module _ (T : Bytes) {P : List ℕ} (places : Places M P at) (below : at < 1024) where
    abbrev w : ℕ
    w = slot_word at (length x)

    w_kind : kind_of_word w ≡ 12
    w_kind = slot_kind at (length x) below (omega arith)

    pub laid_places : Places N (set P at w) (at + 1)
    laid_places = record {
      room = omega (arith, laid_size, places.room);
      size = simp length-set places.size;
      used = omega arith;
      slots = slots;
      known = set_known (25 * (at + 1)) at w P known (known_more P (omega arith) places.known);
    }
      where
        known : Known (25 * (at + 1)) w
        known z = omega (arith, slot_length at (length x) below (omega arith), slot_start at (length x) below (omega arith))

        slots : (i : ℕ) → i < at + 1 → kind_of_word (get_or (set P at w) i 0) ≡ 12 → Slot N i (get_or (set P at w) i 0)
        slots i h k =
            by_cases (eqb i at)
            (λ t. let e = eqb-true i at t in rw (e, get_or-set_same P at w 0 (omega (arith, places.size))) laid_slot)
            (λ f. let n = eqb-false i at f in
            let e : get_or (set P at w) i 0 ≡ get_or P i 0 = get_or-set_other P at i w 0 n in
            rw e (slot_before (omega arith) (places.slots i (omega arith) (rw e at k))))

    pub laid_between : Between M at (at + 1) N
    laid_between =
        let z : 25 * (at + 1) ≡ 25 * at + 25 = omega arith in
        record { more = omega arith; size = laid_size; before = laid_before; after = rw z laid_after }

    pub laid_named : take (at + 1) (tokens T N (set P at w)) ≡ take at (tokens T M P) ++ (var_token x ∷ [])
    laid_named =
        one_written T N P at w (omega (arith, places.size))
        ∙ ap₂ (λ (a : List Token) (t : Token). take at a ++ (t ∷ [])) (tokens_kept T N M (25 * at) laid_before P places.known) (variable_word T N w w_kind ∙ ap var_token (laid_spell T below))

-- what `variable` says, where there is room for the name
pub lays : (T M : Bytes) (P : Table) (v n : ℕ) {N : Bytes} {P' : List ℕ} → Places M P.nodes P.used → P.used < 1024 → n ≡ length (text_name T v) → n < 25
    → N ≡ paste M (25 * P.used) (padded (text_name T v)) 25 → P' ≡ set P.nodes P.used (slot_word P.used n)
    → Laid T M P v N (record { nodes = P'; used = P.used + 1 })
lays T M P v n {N} {P'} p h e l a b =
    let x = text_name T v in
    let room : 25 * P.used + 25 ≤ length M = omega (arith, p.room) in
    let c : P' ≡ set P.nodes P.used (slot_word P.used (length x)) = b ∙ ap (λ (k : ℕ). set P.nodes P.used (slot_word P.used k)) e in
    rw (a, c) (record {
      used = refl;
      places = laid_places M P.used x room (omega arith) T p h;
      between = laid_between M P.used x room (omega arith) T p h;
      named = laid_named M P.used x room (omega arith) T p h;
    })
