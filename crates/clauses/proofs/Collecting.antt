-- The loops that collect the atoms, and that put ranks for places: one word more from the back.
use mathlib.Core.Path.{◌≡◌, sym, ap, ap₂, ◌∙◌}
use mathlib.Core.Bool.{Bool, true, cond}
use mathlib.Core.List.{List, [], ◌∷◌, ◌++◌, map}
use Prim.Native.Nat.{ℕ, zero, suc, ◌+◌, ◌-◌, ◌<◌, ◌≤◌, Ordering}
use native.Mathlib.Omega.{arith}
use native.Mathlib.Numerals.{add-one}
use lib.Dec.{leb}
use lib.ListN.{length, take, drop, get_or, set, length-set, length-map, length-drop, drop_of_length-le}
use lib.Seq.{take_all, take-suc, take-suc-set, drop-cons, drop-set-lt, get_or-drop}
use Rattle.definitions.specs.Bytes.{Bytes}
use Rattle.definitions.specs.Order.{Atom, insert, set_of}
use Rattle.definitions.proofs.Laws.Bools.{by_cases, clash}
use Rattle.definitions.proofs.Laws.Order.{atom_orders}
use Rattle.definitions.proofs.Laws.Sorted.{set_of_sorted}
use Rattle.text.specs.Words.{kind_of_word}
use Rattle.clauses.specs.Each.{Each, more, All}
use Rattle.clauses.specs.Laying.{atomic}
use Rattle.clauses.specs.Ranks.{cmp_parts, part_word, lead, spots}
use Rattle.clauses.specs.Search.{Falls}
use Rattle.clauses.specs.Sets.{Spelled}
use Rattle.clauses.proofs.Related.{map_append, each_set}
use Rattle.clauses.proofs.Ranked.{parts_agree}
use Rattle.clauses.proofs.Searching.{sorted_falls}

lead_length : (l : List ℕ) → lead l ≤ length l
unfolding lead
lead_length [] = omega arith
lead_length (k ∷ l) = by_cases (leb k 10) (λ t. rw t (omega arith)) (λ t. rw t (omega (arith, lead_length l)))

module _ (S : List ℕ) where
  abbrev pub kinds_from : ℕ → List ℕ
  kinds_from at = map kind_of_word (drop at S)

  pub lead_fits : (at : ℕ) → at ≤ length S → at + lead (kinds_from at) ≤ length S
  lead_fits at h = omega (arith, lead_length (kinds_from at), length-map (drop at S) kind_of_word, length-drop at S)

  -- nothing is found behind the last word
  none_left : drop (length S) S ≡ []
  none_left = drop_of_length-le S {i = length S} (omega arith)

  pub none_leads : length S ≡ length S + lead (kinds_from (length S))
  unfolding lead
  none_leads = rw none_left (omega arith)

  pub none_found : (cmp : ℕ → ℕ → Ordering) (X : List ℕ) → take 0 X ≡ set_of cmp (spots (length S) (kinds_from (length S)))
  unfolding set_of spots
  none_found cmp X = rw none_left

  module _ (at : ℕ) (some : 0 < at) (inside : at ≤ length S) where
    one_more : kinds_from (at - 1) ≡ kind_of_word (get_or S (at - 1) 0) ∷ kinds_from at
    one_more =
        let z : suc (at - 1) ≡ at = omega arith in
        let m : drop (at - 1) S ≡ get_or S (at - 1) 0 ∷ drop at S = rw z at (drop-cons S (at - 1) 0 (omega arith)) in
        ap (map kind_of_word) m

    -- where the terms end
    pub leads_more : (end : ℕ) → end ≡ at + lead (kinds_from at) → cond (leb (kind_of_word (get_or S (at - 1) 0)) 10) (at - 1) end ≡ at - 1 + lead (kinds_from (at - 1))
    unfolding lead
    leads_more end e = rw one_more (by_cases (leb (kind_of_word (get_or S (at - 1) 0)) 10) (λ t. rw t (omega arith)) (λ t. rw t (omega arith)))

    abbrev new : ℕ → ℕ
    new end = part_word (at - 1) (end - (at - 1))

    abbrev is_new : Bool
    is_new = atomic (kind_of_word (get_or S (at - 1) 0))

    spots_more : (end : ℕ) → end ≡ at + lead (kinds_from at)
        → spots (at - 1) (kinds_from (at - 1)) ≡ cond is_new (new end ∷ spots at (kinds_from at)) (spots at (kinds_from at))
    unfolding spots
    spots_more end e =
        let y : suc (at - 1) ≡ at = omega arith in
        let z : end - (at - 1) ≡ suc (lead (kinds_from at)) = omega arith in
        rw (one_more, y, z)

    -- the atoms found, with one more if the word is an atom's: where all are spelled, the table falls for it
    module _ (T M : Bytes) (end n r : ℕ) (X Y : List ℕ) (e : end ≡ at + lead (kinds_from at))
        (had : (found : List Atom) → Each (Spelled T M S) (spots at (kinds_from at)) found
        → take n X ≡ set_of (cmp_parts T M S) (spots at (kinds_from at)))
        (put : (is_new ≡ true → Falls (cmp_parts T M S (new end)) (take n X))
        → take r Y ≡ cond is_new (insert (cmp_parts T M S) (new end) (take n X)) (take n X)) where
      one_new : is_new ≡ true → {found : List Atom} → Each (Spelled T M S) (new end ∷ spots at (kinds_from at)) found
          → take r Y ≡ insert (cmp_parts T M S) (new end) (set_of (cmp_parts T M S) (spots at (kinds_from at)))
      one_new t (more {a = a} {m = found} h rest) =
          let x = had found rest in
          let f : Falls (cmp_parts T M S (new end)) (take n X) =
          sorted_falls atom_orders (cmp_parts T M S (new end)) a (λ w b k. parts_agree T M S (new end) w a b h k) (set_of_sorted atom_orders found)
          (rw x (each_set (parts_agree T M S) rest)) in
          put (λ k. f) ∙ rw t (ap (insert (cmp_parts T M S) (new end)) x)

      pub found_more : (found : List Atom) → Each (Spelled T M S) (spots (at - 1) (kinds_from (at - 1))) found
          → take r Y ≡ set_of (cmp_parts T M S) (spots (at - 1) (kinds_from (at - 1)))
      unfolding set_of
      found_more found h =
          by_cases is_new
          (λ t. rw (spots_more end e, t) (one_new t (rw (spots_more end e, t) at h)))
          (λ t. rw (spots_more end e, t) (put (λ k. clash k t) ∙ rw t (had found (rw (spots_more end e, t) at h))))

-- a table mapped in place, as far as i, where all of it has P
pub record Mapped (P : ℕ → Type 0) (f : ℕ → ℕ) (O : List ℕ) (i : ℕ) (Q : List ℕ) : Type 0 where
  pub len : length Q ≡ length O
  pub rest : drop i Q ≡ drop i O
  pub done : All P O → take i Q ≡ map f (take i O)

all_at : (P : ℕ → Type 0) (l : List ℕ) (i : ℕ) → i < length l → All P l → P (get_or l i 0)
unfolding All
all_at P [] i h k = absurd (omega arith)
all_at P (x ∷ l) zero h k = k.0
all_at P (x ∷ l) (suc i) h k = all_at P l i (omega arith) k.1

pub mapped_more : (P : ℕ → Type 0) (f : ℕ → ℕ) (O Q : List ℕ) (i v : ℕ) → i < length O → Mapped P f O i Q
    → (P (get_or Q i 0) → v ≡ f (get_or Q i 0)) → Mapped P f O (i + 1) (set Q i v)
mapped_more P f O Q i v h m e =
    let z : i + 0 ≡ i = omega arith in
    let l : length Q ≡ length O = m.len in
    let same : get_or Q i 0 ≡ get_or O i 0 =
    rw z at (sym (get_or-drop i Q 0 0) ∙ ap (λ (X : List ℕ). get_or X 0 0) m.rest ∙ get_or-drop i O 0 0) in
    record {
      len = length-set Q i v ∙ l;
      rest = rw (add-one, drop-set-lt (suc i) Q i v (omega arith)) (ap (drop 1) (sym (drop-cons Q i 0 (omega arith)) ∙ m.rest ∙ drop-cons O i 0 h));
      done = λ k.
          rw (add-one, take-suc-set Q i v (omega arith), take-suc O i 0 h, map_append f (take i O) (get_or O i 0 ∷ []))
          (ap₂ (λ a w. a ++ (w ∷ [])) (m.done k) (e (rw same (all_at P O i h k)) ∙ ap f same));
    }

pub mapped_all : (P : ℕ → Type 0) (f : ℕ → ℕ) (O Q : List ℕ) (i : ℕ) → i ≡ length O → Mapped P f O i Q → All P O → Q ≡ map f O
mapped_all P f O Q i z m k = sym (take_all i Q (omega (arith, m.len))) ∙ m.done k ∙ ap (map f) (take_all i O (omega arith))
