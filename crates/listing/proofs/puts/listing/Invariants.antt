-- The texts so far are written behind the line.
use Rattle.writer.specs.Writer.{Wrote}
use Rattle.listing.specs.Texts.{stored_in}
use Rattle.listing.proofs.Loops.{so_far}
use Rattle.listing.proofs.puts.listing.Given as goal

abbrev pub invariant-loop-word : goal.invariant-loop-word
invariant-loop-word l = Wrote l.initial.out l.initial.next (so_far (stored_in l.source) l.source.index.now l.word-index) l.out l.next
