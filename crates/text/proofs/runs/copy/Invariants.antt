use Rattle.text.proofs.Copies.{Copying}
use Rattle.text.proofs.runs.copy.Given as goal

abbrev pub invariant-loop-i : goal.invariant-loop-i
invariant-loop-i g l = Copying l.initial.to l.from l.i l.to
