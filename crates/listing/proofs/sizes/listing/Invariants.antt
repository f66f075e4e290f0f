-- The size is that of the line and of the texts so far.
use lib.ListN.{length}
use Rattle.definitions.specs.Clauses.{clauses_word, counted_line}
use Rattle.listing.specs.Texts.{stored_in}
use Rattle.listing.proofs.Loops.{Counted}
use Rattle.listing.proofs.sizes.listing.Given as goal

abbrev pub invariant-loop-word : goal.invariant-loop-word
invariant-loop-word l = Counted (stored_in l.source) l.source.index.now (counted_line clauses_word (length l.source.index.now)) l.room l.word-index l.size
