-- What the functions of this crate do to the tables that they are lent.
use Rattle.std.specs.Prelude.{◌≡◌, List, [], ◌∷◌, ◌++◌, length, take, drop}
use Prim.Native.Nat.{ℕ, ◌+◌, ◌/◌, ◌%◌, ◌≤◌, compare}
use Rattle.definitions.specs.Limits.{house}
use Rattle.definitions.specs.Order.{insert, set_of}
use Rattle.clauses.specs.Sets.{entries, cmp_numbers}
use Rattle.clauses.specs.declared.set.Set.{Set}

-- a plan that began at p begins at r, with the words l, and one place earlier at most
pub record Laid (p : ℕ) (O : List ℕ) (r : ℕ) (l : List ℕ) : Type 0 where
  pub near : p ≤ r + 1
  pub fits : r ≤ house.weight
  pub are : drop r O ≡ l

-- the literals c, behind those of the clause C: the sorted set of both stands in the table, where that has room for them
pub record Walked (O : List ℕ) (used : ℕ) (O' : List ℕ) (r : ℕ) (c : List ℕ) : Type 0 where
  pub sorts : (C : List ℕ) → length C + length c ≤ house.weight → take used O ≡ set_of compare C → take r O' ≡ set_of compare (C ++ c)

-- how many numbers stand in the lists
unfoldable pub total : List (List ℕ) → ℕ
total [] = 0
total (c ∷ l) = length c + total l

-- the words name parts of the first `used` of the store
unfoldable pub Within : ℕ → List ℕ → Type 0
Within used [] = Unit {0}
Within used (w ∷ l) = (w % 4096 + w / 4096 ≤ used) × Within used l

-- where there is room for the literals l behind the first `used`, their clause is put into the set
pub record GrownBy (s : Set) (used : ℕ) (s' : Set) (used' : ℕ) (l : List ℕ) : Type 0 where
  pub within : Within used' (take s'.count s'.index)
  pub used_by : used' ≤ used + length l
  pub holds : entries s' ≡ insert cmp_numbers (set_of compare l) (entries s)

pub record Grows (s : Set) (used : ℕ) (s' : Set) (used' : ℕ) (l : List ℕ) : Type 0 where
  pub grows : length l ≤ house.weight → used + length l ≤ house.literals → Within used (take s.count s.index) → GrownBy s used s' used' l
