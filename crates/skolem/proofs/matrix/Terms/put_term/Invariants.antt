use mathlib.Core.List.{[], ◌∷◌, ◌++◌}
use lib.ListN.{take}
use Rattle.skolem.specs.Filling.{Added}
use Rattle.skolem.proofs.matrix.Terms.put_term.Given as goal

abbrev pub invariant-loop-word : goal.invariant-loop-word
invariant-loop-word l = Added l.fn.out l.fn.used l.out l.end ((l.head ∷ []) ++ take l.word-index l.word-items)
