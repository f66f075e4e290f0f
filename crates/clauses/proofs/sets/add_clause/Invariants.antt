use Rattle.clauses.specs.Ranks.{part}
use Rattle.clauses.specs.Sets.{cmp_numbers}
use Rattle.clauses.proofs.Carry.{Sought}
use Rattle.clauses.proofs.sets.add_clause.Given as goal

abbrev pub invariant-loop-i : goal.invariant-loop-i
invariant-loop-i l = Sought cmp_numbers (part l.fn.set.literals) (part l.fn.set.literals l.word) l.fn.set.index l.n l.i
