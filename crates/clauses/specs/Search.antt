-- Search in a sorted list. What is sought is known by how it compares with the elements: c w is the answer for the element w.
use Rattle.std.specs.Prelude.{◌≡◌, ◌⊎◌, List, length, get_or, Result, MatchResult}
use Prim.Native.Nat.{ℕ, ◌%◌, ◌≤◌, ◌<◌, Ordering}
use Rattle.definitions.specs.Bytes.{Bytes}
use Rattle.clauses.specs.Plans.{form_of, number_of}
use Rattle.clauses.specs.Ranks.{cmp_places, start_of}

-- Of two elements, the sought one comes after the first or before the second: the answers fall from `gt` to `lt`, with one `eq` between
-- them at most. A sorted list falls, for each thing of its order (proofs/Searching).
pub record Falls (c : ℕ → Ordering) (l : List ℕ) : Type 0 where
  pub either : (i j : ℕ) → i < j → j < length l → (c (get_or l i 0) ≡ Ordering.gt) ⊎ (c (get_or l j 0) ≡ Ordering.lt)

-- The sought one stands at i, and comes after all that stand before.
pub record Found (c : ℕ → Ordering) (l : List ℕ) (i : ℕ) : Type 0 where
  pub inside : i < length l
  pub same : c (get_or l i 0) ≡ Ordering.eq
  pub after : (k : ℕ) → k < i → c (get_or l k 0) ≡ Ordering.gt

-- It stands nowhere: it comes after all that stand before i, and before all that stand from i on.
pub record Missing (c : ℕ → Ordering) (l : List ℕ) (i : ℕ) : Type 0 where
  pub after : (k : ℕ) → k < i → c (get_or l k 0) ≡ Ordering.gt
  pub before : (k : ℕ) → i ≤ k → k < length l → c (get_or l k 0) ≡ Ordering.lt

-- What a search answers: where the sought one stands, or is to be put.
abbrev pub Finds : (ℕ → Ordering) → List ℕ → Result ℕ ℕ → Type 0
Finds c l r = MatchResult r (Found c l) (Missing c l)

-- how the atom at a place of a table compares with that of a part
abbrev pub at_place : Bytes → Bytes → List ℕ → ℕ → ℕ → Ordering
at_place T M S i w = cmp_places T M S i (start_of w)

-- the parts fall for the atom of a plan's word, if the word is a literal's
abbrev pub Findable : Bytes → Bytes → List ℕ → List ℕ → ℕ → Type 0
Findable T M S parts w = form_of w ≡ 1 → Falls (at_place T M S (number_of w % 2048 % 1024)) parts
