-- `substitution::terms_span` meets its contract. The loop's invariant: of whatever terms were due, some are left at the word that is read.
use Rattle.std.proofs.Common.{arith}
use Rattle.substitution.proofs.Spanning.{spanning_on, spans_some, spans_all, spans_whole}
use Rattle.substitution.proofs.terms_span.Goals as goal

pub returns-then-left-eq0 : goal.returns-then-left-eq0
returns-then-left-eq0 c = spans_some c.loop-read.invariant (omega arith) (omega arith)

pub returns-then-left-words : goal.returns-then-left-words
returns-then-left-words c = spans_all c.loop-read.invariant (omega arith) (omega arith)

pub loop-read-preserved : goal.loop-read-preserved
loop-read-preserved c = spanning_on c.loop-read.invariant _ (omega arith) (omega arith) c.arguments.ensures.0

pub returns : goal.returns
returns c = spans_whole c.loop-read.invariant (omega arith)
