-- Five runs of bytes; a number has at most 20 digits.
use Rattle.stream.proofs.PrintLaws.{refusal_put}
use Rattle.stream.proofs.print.put_refusal.Goals as goal

pub returns : goal.returns
returns c =
    refusal_put c.requires c.ranges.number.fits c.ranges.place.fits c.put_run-first.ensures c.put_decimal-second.ensures c.put_byte-third.ensures c.put_decimal-fourth.ensures c.put_byte.ensures
