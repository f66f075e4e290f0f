use Rattle.std.proofs.Common.{length}
use Rattle.negation.proofs.TermLaws.{Looping}
use Rattle.negation.proofs.terms.Given as goal

abbrev pub invariant-loop-left : goal.invariant-loop-left
invariant-loop-left l = Looping l.fn.words l.due l.initial.out l.rest l.left l.out

abbrev pub decreases-loop-left : goal.decreases-loop-left
decreases-loop-left l = length l.rest
