use Prim.Native.Nat.{◌≤◌}
use mathlib.Core.Path.{◌≡◌}
use mathlib.Core.List.{map}
use lib.ListN.{drop}
use Rattle.text.specs.Words.{kind_of_word}
use Rattle.clauses.specs.Laying.{marked, laid}
use Rattle.clauses.proofs.plan.lay_out.Given as goal

abbrev pub invariant-loop-at : goal.invariant-loop-at
invariant-loop-at l =
    (l.at ≤ l.p) × (l.p ≤ 1024) × (drop l.p l.plan ≡ laid (marked l.conjunctive) l.at (map kind_of_word (drop l.at l.matrix)))
