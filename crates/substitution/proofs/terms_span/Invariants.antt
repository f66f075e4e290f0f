use Rattle.substitution.proofs.Spanning.{Spanning}
use Rattle.substitution.proofs.terms_span.Given as goal

abbrev pub invariant-loop-read : goal.invariant-loop-read
invariant-loop-read l = Spanning l.words l.due l.left l.read
