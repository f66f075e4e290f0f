-- One digit more than the highest power of ten within the number; 0 has one digit too.
use native.Mathlib.Omega.{arith}
use mathlib.Core.Path.{sym, ap}
use lib.ListN.{length}
use Rattle.writer.specs.DigitLaws.{decimal_one, decimal_power}
use Rattle.writer.proofs.decimal_size.Goals as goal

pub returns-in-Some : goal.returns-in-Some
returns-in-Some c =
    let e = c.in-Some.ensures in
    (sym (decimal_power c.in-Some.power c.args.n e.power_le e.next_power_gt), omega (arith, e.bound))

pub returns-in-None : goal.returns-in-None
returns-in-None c = (sym (ap length (decimal_one c.args.n (omega (arith, c.in-None.ensures.none)))), omega arith)
