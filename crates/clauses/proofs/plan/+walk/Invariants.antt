use lib.ListN.{length}
use Rattle.clauses.proofs.plan.+walk.Given as goal

abbrev pub decreases-walk : goal.decreases-walk
decreases-walk l = length l.plan.now
