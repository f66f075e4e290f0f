-- The raw counts, which refusal 8 looks at, are those of the raw clauses that the distribution makes: their number, and the number of their
-- literals together. Nothing is counted that is not made, and sorting only merges.
use Rattle.std.specs.Prelude.{List, [], ◌∷◌, length}
use Prim.Native.Nat.{ℕ, ◌+◌}
use Rattle.definitions.specs.Order.{Clause}
use Rattle.definitions.specs.Clauses.{Raw, raw_of}

-- how many literals the clauses have together
unfoldable pub total : List Clause → ℕ
total [] = 0
total (c ∷ cs) = length c + total cs

-- the counts of given clauses
abbrev pub counted : List Clause → Raw
counted cs = raw_of (length cs) (total cs)
