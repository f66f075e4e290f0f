-- The loop's invariant is resumption: where the terms that are left end, all of them end.
use native.Mathlib.Omega.{arith}
use mathlib.Core.Path.{◌≡◌}
use Rattle.std.proofs.Common.{None, Some}
use Rattle.prenex.proofs.TermEnds.{none_due, source_ends, one_more}
use Rattle.prenex.proofs.weight.terms.Goals as goal

pub returns-then-next-src : goal.returns-then-next-src
returns-then-next-src c = c.loop-left.invariant.3 None (source_ends (omega arith) (omega arith))

pub loop-left-preserved : goal.loop-left-preserved
loop-left-preserved c =
    let l = c.loop-left in (omega arith, omega arith, omega arith, λ r e. l.invariant.3 r (one_more r (omega arith) (omega arith) c.arguments.ensures.0 e))

pub returns : goal.returns
returns c = let l = c.loop-left in let z : l.left ≡ 0 = omega arith in l.invariant.3 (Some l.next) (rw z (none_due (omega arith)))
