-- Refusal 9 leaves both buffers; else the answer is that of the inside, and work is cleared.
use native.Mathlib.Omega.{arith}
use mathlib.Core.Path.{refl}
use Rattle.convert.proofs.Shown.{too_short, long_enough}
use Rattle.convert.proofs.convert.Goals as goal

pub returns-then-work-lt-WORK : goal.returns-then-work-lt-WORK
returns-then-work-lt-WORK c = too_short _ _ _ _ (omega arith) refl

pub returns : goal.returns
returns c =
    let w = c.if-work-lt-WORK.false in
    long_enough _ _ _ _ (omega (arith, w)) (c.inside-answer.ensures (omega (arith, w))) (grind arith)
