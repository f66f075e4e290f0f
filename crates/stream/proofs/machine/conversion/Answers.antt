-- The loop keeps that none of the conversions before the place is named.
use native.Mathlib.Omega.{arith}
use mathlib.Core.Path.{◌≡◌, sym, ◌∙◌}
use Rattle.stream.proofs.ByteLaws.{named_here, named_behind, named_none}
use Rattle.stream.proofs.machine.conversion.Goals as goal

pub loop-conversion-preserved : goal.loop-conversion-preserved
loop-conversion-preserved c =
    let l = c.loop-conversion in
    l.invariant ∙ named_behind _ l.conversion-index c.loop-conversion-test.true c.names_conversion.ensures c.if-names_conversion.false

pub returns-then-names_conversion : goal.returns-then-names_conversion
returns-then-names_conversion c =
    let l = c.loop-conversion in
    named_here _ l.conversion-index c.loop-conversion-test.true c.names_conversion.ensures c.if-names_conversion.true ∙ sym l.invariant

pub returns : goal.returns
returns c = let l = c.loop-conversion in let e : l.conversion-index ≡ 9 = omega arith in sym (l.invariant ∙ rw e (named_none _))
