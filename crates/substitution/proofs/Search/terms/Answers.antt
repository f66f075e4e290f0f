-- `Search::terms` meets its contract.
use Rattle.std.proofs.Common.{arith}
use Rattle.substitution.proofs.Collecting.{none_noted, one_noted, terms_safe, terms_collect}
use Rattle.substitution.proofs.Search.terms.Goals as goal

pub loop-word-init : goal.loop-word-init
loop-word-init c = none_noted

pub loop-word-preserved : goal.loop-word-preserved
loop-word-preserved c = one_noted c.loop-word.invariant (omega arith) c.note.ensures

pub returns-clause-safe : goal.returns-clause-safe
returns-clause-safe c =
    terms_safe c.requires (omega arith) c.terms_span.ensures c.loop-word.invariant c.loop-word-test.false c.loop-word.auto.word-index-end

pub returns-clause-does : goal.returns-clause-does
returns-clause-does c =
    terms_collect c.requires (omega arith) c.terms_span.ensures c.loop-word.invariant c.loop-word-test.false
