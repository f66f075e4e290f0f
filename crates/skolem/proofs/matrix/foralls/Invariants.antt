use lib.ListN.{take}
use Rattle.skolem.specs.Filling.{Keeps}
use Rattle.skolem.proofs.matrix.foralls.Given as goal

abbrev pub invariant-loop-head : goal.invariant-loop-head
invariant-loop-head l = Keeps (take l.head-index l.heads) l.out l.n
