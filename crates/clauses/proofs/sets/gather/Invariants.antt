use Prim.Native.Nat.{ℕ, ◌+◌, ◌≤◌}
use mathlib.Core.Path.{◌≡◌}
use mathlib.Core.List.{List, ◌++◌}
use lib.ListN.{length, drop}
use Rattle.clauses.specs.Plans.{Plan, made, words}
use Rattle.clauses.specs.Steps.{total}
use Rattle.clauses.proofs.Growing.{Gathered}
use Rattle.clauses.proofs.sets.gather.Given as goal

abbrev pub invariant-loop-k : goal.invariant-loop-k
invariant-loop-k l =
    (l.set.count + l.k ≤ l.n) × (l.used ≤ 2048) × (l.set.atoms ≡ l.fn.set.atoms)
    × (length l.set.literals ≡ length l.fn.set.literals) × (length l.set.index ≡ length l.fn.set.index)
    × ((a : Plan) (rest : List ℕ) → l.plan ≡ words a ++ rest → l.n ≡ length (made a) → total (made a) ≤ 2048 → Gathered l.set l.used (drop l.k (made a)))
