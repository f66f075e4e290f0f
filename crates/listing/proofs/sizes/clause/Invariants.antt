-- The size is that of the line and of the texts so far.
use lib.ListN.{length}
use Rattle.definitions.specs.Clauses.{clause_word, counted_line}
use Rattle.listing.specs.Texts.{literal_in}
use Rattle.listing.proofs.Loops.{Counted}
use Rattle.listing.proofs.sizes.clause.Given as goal

abbrev pub invariant-loop-number : goal.invariant-loop-number
invariant-loop-number l = Counted (literal_in l.source) l.numbers (counted_line clause_word (length l.numbers)) l.room l.number-index l.size
