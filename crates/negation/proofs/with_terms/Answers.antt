-- `negation::with_terms` meets its contract: a word that is written, then the run behind it.
use Rattle.negation.proofs.RunLaws.{written}
use Rattle.negation.proofs.with_terms.Goals as goal

pub returns-clause-does : goal.returns-clause-does
returns-clause-does c = λ T M ts e. written c.in_ok-push.ensures (c.terms.ensures.does T M ts e)
