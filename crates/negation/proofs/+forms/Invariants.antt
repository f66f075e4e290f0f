use Rattle.std.proofs.Common.{◌+◌, ◌*◌, length}
use Rattle.negation.proofs.+forms.Given as goal

abbrev pub decreases-side : goal.decreases-side
decreases-side l = 5 * length l.words.now + 1

abbrev pub decreases-push_not : goal.decreases-push_not
decreases-push_not l = 5 * length l.words.now

abbrev pub decreases-nnf : goal.decreases-nnf
decreases-nnf l = 5 * length l.words.now

abbrev pub decreases-four : goal.decreases-four
decreases-four l = 5 * length l.words.now + 3

abbrev pub decreases-both : goal.decreases-both
decreases-both l = 5 * length l.words.now + 2

abbrev pub decreases-block : goal.decreases-block
decreases-block l = 5 * length l.words.now + 2
