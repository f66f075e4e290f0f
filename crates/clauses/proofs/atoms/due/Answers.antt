use mathlib.Core.Path.{◌∙◌}
use native.Mathlib.Omega.{arith}
use Rattle.clauses.proofs.Ordered.{due_same, due_least}
use Rattle.clauses.proofs.atoms.due.Goals as goal

pub returns-then-m-n : goal.returns-then-m-n
returns-then-m-n c = (due_same _ _ _ c.if-m-n.true, omega arith)

pub returns-else-m-n : goal.returns-else-m-n
returns-else-m-n c = (c.min.ensures ∙ due_least _ _ _ c.if-m-n.false, omega arith)
