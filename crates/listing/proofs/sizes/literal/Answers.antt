-- The sign's line and the atom's text, which the writer measures.
use mathlib.Core.Path.{◌≡◌}
use Prim.Native.Nat.{◌+◌}
use native.Mathlib.Omega.{arith}
use lib.ListN.{length}
use Rattle.writer.specs.MeasureLaws.{too_long, short_enough, was_short, was_long, was_size}
use Rattle.listing.specs.Texts.{literal_in}
use Rattle.listing.proofs.Pieces.{literal_length}
use Rattle.listing.proofs.sizes.literal.Goals as goal

pub returns-in_err-left : goal.returns-in_err-left
returns-in_err-left c =
    rw c.from_residual.ensures (too_long _ _ (omega (arith, literal_length c.args.source c.args.number, c.sign-signed.ensures, c.in_err-left.ensures)))

pub returns-in_err-size : goal.returns-in_err-size
returns-in_err-size c =
    let m = rw c.atom.ensures at c.measure.ensures in
    rw c.from_residual-in_err-size.ensures
    (too_long _ _ (omega (arith, literal_length c.args.source c.args.number, c.sign-signed.ensures, c.in_ok-left.ensures, was_long m c.in_err-size.was)))

pub returns : goal.returns
returns c =
    let m = rw c.atom.ensures at c.measure.ensures in
    let n : length (literal_in c.args.source c.args.number) ≡ length c.sign-signed.result.now + c.in_ok-size.size =
    omega (arith, literal_length c.args.source c.args.number, c.sign-signed.ensures, was_size m c.in_ok-size.was) in
    short_enough _ _ _ (omega (arith, n, c.in_ok-left.ensures, was_short m c.in_ok-size.was, was_size m c.in_ok-size.was)) n
