use Rattle.skolem.proofs.Drawing.{Naming}
use Rattle.skolem.proofs.heads.name_all.Given as goal

abbrev pub invariant-loop-head : goal.invariant-loop-head
invariant-loop-head l = Naming l.initial.heads l.initial.made l.start l.initial.counters l.heads l.made l.at l.counters l.head-index
