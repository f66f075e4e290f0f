-- One more clause in the table: a part behind those that are there leaves them as they are.
use mathlib.Core.Path.{◌≡◌, refl, sym, ap, ap₂, ◌∙◌}
use mathlib.Core.List.{List, [], ◌∷◌, ◌++◌, map}
use Prim.Native.Nat.{ℕ, zero, suc, ◌+◌, ◌-◌, ◌/◌, ◌%◌, ◌<◌, ◌≤◌, compare}
use native.Mathlib.Omega.{arith}
use borrow.Rule.Slice.PartMut.{put_mid}
use Rattle.std.proofs.lemmas.Slice.{take-put_mid}
use lib.ListN.{length, length-take, take, drop, length-append, drop_of_length-le, take-append-drop}
use lib.Seq.{length-take-le, take-add, take_at, drop_at, take-take, drop-cons}
use Rattle.definitions.specs.Order.{insert, set_of}
use Rattle.definitions.proofs.Laws.Sorted.{set_of_length}
use Rattle.clauses.specs.Plans.{Plan, made, words}
use Rattle.clauses.specs.Ranks.{part, part_word}
use Rattle.clauses.specs.Sets.{entries, cmp_numbers, sets_of}
use Rattle.clauses.specs.Steps.{Walked, total, Within, GrownBy, Grows}
use Rattle.clauses.specs.declared.set.Set.{Set}
use Rattle.clauses.proofs.Planned.{words_length}
use Rattle.clauses.proofs.Raw.{nth, clause_short}

-- a part of the store written over, by the first numbers of a clause
pub copied : (D C Y : List ℕ) (used size k : ℕ) → used + size ≤ length D → Y ≡ take size C → size ≤ length C
    → (take (used + size) (put_mid used k D Y) ≡ take used D ++ Y) × (used + size ≤ length (put_mid used k D Y))
copied D C Y used size k h e l =
    let m : length Y ≡ size = ap length e ∙ length-take-le size C l in
    let f : take (used + size) (put_mid used k D Y) ≡ take used D ++ Y = take-put_mid used k D Y (used + size) (omega arith) (omega arith) in
    (f, omega (arith, ap length f, length-take (used + size) (put_mid used k D Y), length-append (take used D) Y, length-take-le used D (omega arith)))

-- words within the first of the store
within_more : (u v : ℕ) (l : List ℕ) → u ≤ v → Within u l → Within v l
unfolding Within
within_more u v [] h w = tt
within_more u v (x ∷ l) h w = (omega (arith, w.0), within_more u v l h w.1)

within_insert : (u x : ℕ) (a b : List ℕ) → x % 4096 + x / 4096 ≤ u → Within u (a ++ b) → Within u (a ++ (x ∷ b))
unfolding Within
within_insert u x [] b h w = (h, w)
within_insert u x (y ∷ a) b h w = (w.0, within_insert u x a b h w.1)

pub within_put : (u x i n : ℕ) (X Y : List ℕ) → i ≤ n → take (n + 1) Y ≡ take i X ++ (x ∷ drop i (take n X)) → x % 4096 + x / 4096 ≤ u
    → Within u (take n X) → Within u (take (n + 1) Y)
within_put u x i n X Y l e h w =
    let f : take n X ≡ take i X ++ drop i (take n X) = sym (take-append-drop i (take n X)) ∙ rw (take-take i n X l) in
    rw e (within_insert u x (take i X) (drop i (take n X)) h (rw f at w))

-- a part within the first of the store is as they are
part_first : (D : List ℕ) (s l : ℕ) → s ≤ length D → take l (drop s D) ≡ drop s (take (s + l) D)
part_first D s l h = rw (take-add s l D) (sym (drop_at (take s D) (take l (drop s D)) s (length-take-le s D h)))

part_kept : (D D' : List ℕ) (used w : ℕ) → used ≤ length D → used ≤ length D' → take used D ≡ take used D' → w % 4096 + w / 4096 ≤ used → part D w ≡ part D' w
part_kept D D' used w h h' e l =
    part_first D (w % 4096) (w / 4096) (omega arith)
    ∙ ap (drop (w % 4096)) (sym (take-take (w % 4096 + w / 4096) used D l) ∙ ap (take (w % 4096 + w / 4096)) e ∙ take-take (w % 4096 + w / 4096) used D' l)
    ∙ sym (part_first D' (w % 4096) (w / 4096) (omega arith))

parts_kept : (D D' X : List ℕ) (used : ℕ) → used ≤ length D → used ≤ length D' → take used D ≡ take used D' → Within used X → map (part D) X ≡ map (part D') X
unfolding Within
parts_kept D D' [] used h h' e w = refl
parts_kept D D' (x ∷ X) used h h' e w = ap₂ (◌∷◌) (part_kept D D' used x h h' e w.0) (parts_kept D D' X used h h' e w.1)

module _ (D D' c : List ℕ) (used size : ℕ) (h : used + size ≤ length D') (h₀ : used ≤ length D) (copied : take (used + size) D' ≡ take used D ++ c) where
  kept : take used D ≡ take used D'
  kept = sym (sym (take-take used (used + size) D' (omega arith)) ∙ ap (take used) copied ∙ take_at (take used D) c used (length-take-le used D h₀))

  new_part : take size (drop used D') ≡ c
  new_part = part_first D' used size (omega arith) ∙ ap (drop used) copied ∙ drop_at (take used D) c used (length-take-le used D h₀)

  new_entry : used ≤ 2048 → part D' (part_word used size) ≡ c
  new_entry l =
      let a : part_word used size / 4096 ≡ size = omega arith in
      let b : part_word used size % 4096 ≡ used = omega arith in
      rw (a, b) new_part

  pub grown : (s s' : Set) (l : List ℕ) → D ≡ s.literals → s'.literals ≡ D' → used ≤ 2048 → c ≡ set_of compare l → size ≤ length l
      → ((u : ℕ) → Within u (take s.count s.index) → part_word used size % 4096 + part_word used size / 4096 ≤ u → Within u (take s'.count s'.index))
      → entries s' ≡ insert cmp_numbers (part D' (part_word used size)) (map (part D') (take s.count s.index))
      → Within used (take s.count s.index)
      → GrownBy s used s' (used + size) l
  grown s s' l d d' small e n in_set does w =
      let same : entries s ≡ map (part D') (take s.count s.index) = rw (← d) (parts_kept D D' (take s.count s.index) used h₀ (omega arith) kept w) in
      record {
        within = in_set (used + size) (within_more used (used + size) (take s.count s.index) (omega arith) w) (omega arith);
        used_by = omega arith;
        holds = does ∙ ap₂ (insert cmp_numbers) (new_entry small ∙ e) (sym same);
      }

-- what the walk from an empty clause made
module _ (O O' : List ℕ) (n : ℕ) (c : List ℕ) (len : length O' ≡ 1024) (fit : n ≤ 1024) (short : length c ≤ 1024) (walked : Walked O 0 O' n c) where
  pub got : take n O' ≡ set_of compare c
  unfolding set_of
  got = walked.sorts [] (omega arith) refl

  pub got_length : n ≤ length c
  got_length = omega (arith, sym (length-take-le n O' (omega arith)) ∙ ap length got, set_of_length compare c)

-- the set after the raw clauses from k on
pub record Gathered (s : Set) (used : ℕ) (l : List (List ℕ)) : Type 0 where
  pub within_first : Within used (take s.count s.index)
  pub used_by : used ≤ total l
  pub lists : entries s ≡ sets_of l

pub gathered_none : (s : Set) (l : List (List ℕ)) (k : ℕ) → s.count ≡ 0 → k ≡ length l → Gathered s 0 (drop k l)
unfolding Within set_of
gathered_none s l k n e =
    let z : drop k l ≡ [] = drop_of_length-le l {i = k} (omega arith) in
    record { within_first = rw n tt; used_by = omega arith; lists = rw (z, n) }

total_drop : (l : List (List ℕ)) (k : ℕ) → total (drop k l) ≤ total l
unfolding total
total_drop [] zero = omega arith
total_drop [] (suc k) = omega arith
total_drop (c ∷ l) zero = omega arith
total_drop (c ∷ l) (suc k) = omega (arith, total_drop l k)

pub gathered_more : (s s' : Set) (used used' : ℕ) (l : List (List ℕ)) (k : ℕ) → 0 < k → k ≤ length l → length (nth l (k - 1)) ≤ 1024 → total l ≤ 2048
    → Gathered s used (drop k l) → Grows s used s' used' (nth l (k - 1)) → Gathered s' used' (drop (k - 1) l)
unfolding total set_of
gathered_more s s' used used' l k p h short t d go =
    let z : suc (k - 1) ≡ k = omega arith in
    let e : drop (k - 1) l ≡ nth l (k - 1) ∷ drop k l = rw z at (drop-cons l (k - 1) [] (omega arith)) in
    let f : total (drop (k - 1) l) ≡ length (nth l (k - 1)) + total (drop k l) = ap total e in
    let b = go.grows short (omega (arith, f, d.used_by, total_drop l (k - 1))) d.within_first in
    record { within_first = b.within; used_by = omega (arith, f, b.used_by, d.used_by); lists = b.holds ∙ rw (d.lists, e) }

-- no raw clause of a plan in the table is too long for it
pub short_enough : (W : List ℕ) (a : Plan) (rest : List ℕ) → length W ≤ 1024 → W ≡ words a ++ rest → (k : ℕ) → length (nth (made a) k) ≤ 1024
short_enough W a rest len x k = omega (arith, clause_short a k, words_length a, ap length x, length-append (words a) rest)
