-- `Source::copy` meets its contract.
use Rattle.std.proofs.Common.{arith}
use Rattle.simplify.proofs.Reducing.{copies, copied}
use Rattle.simplify.proofs.Source.copy.Goals as goal

pub returns-clause-safe : goal.returns-clause-safe
returns-clause-safe c = copies (omega arith) (omega arith) c.terms_span.ensures c.paste.ensures c.requires.0

pub returns-clause-does : goal.returns-clause-does
returns-clause-does c = copied (omega arith) (omega arith) c.terms_span.ensures c.paste.ensures
