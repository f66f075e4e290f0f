-- The digits of the tenth are written first, and the last digit behind them, as `decimal_more` says. The measure is the number.
use native.Mathlib.Omega.{arith}
use mathlib.Core.Path.{ap}
use lib.ListN.{length}
use Rattle.writer.specs.PutLaws.{wrote_then}
use Rattle.writer.specs.DigitLaws.{decimal_one, decimal_more, length_more}
use Rattle.writer.proofs.+put_digits.Goals as goal

pub returns-then-n-lt10 : goal.returns-then-n-lt10
returns-then-n-lt10 t c =
    let e = decimal_one c.args.n (omega arith) in
    rw e (c.put_byte.ensures.room (omega (arith, ap length e)))

pub put_digits-next-requires : goal.put_digits-next-requires
put_digits-next-requires t c = omega (arith, length_more c.args.n (omega arith))

pub returns : goal.returns
returns t c =
    let e = decimal_more c.args.n (omega arith) in
    rw e (wrote_then (rw e at c.requires) c.put_digits-next.ensures c.put_byte-2.ensures)
