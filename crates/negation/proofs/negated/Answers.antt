-- `negation::negated` meets its contract: a word that is written, then the run behind it.
use Rattle.negation.proofs.RunLaws.{written}
use Rattle.negation.proofs.negated.Goals as goal

pub returns-clause-does : goal.returns-clause-does
returns-clause-does c = λ T M ts e. rw c.from.ensures at (written c.in_ok-push.ensures (c.with_terms.ensures.does T M ts e))
