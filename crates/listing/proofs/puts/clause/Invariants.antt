-- The texts so far are written behind the line.
use Rattle.writer.specs.Writer.{Wrote}
use Rattle.listing.specs.Texts.{literal_in}
use Rattle.listing.proofs.Loops.{so_far}
use Rattle.listing.proofs.puts.clause.Given as goal

abbrev pub invariant-loop-number : goal.invariant-loop-number
invariant-loop-number l = Wrote l.initial.out l.initial.next (so_far (literal_in l.source) l.numbers l.number-index) l.out l.next
