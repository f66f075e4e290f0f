-- `stream::push` meets its promise. The loop keeps that the run from where it stands is the rest of the run from the start of the piece
-- (PushLaws); out and work are as they were until something is printed.
use mathlib.Core.Path.{refl, ◌∙◌}
use Rattle.stream.proofs.PushLaws.{running_first, running_step, running_ends, running_prints}
use Rattle.stream.proofs.push.Goals as goal

pub loop-i-init : goal.loop-i-init
loop-i-init c = (running_first _ _ _ _, refl, refl, refl)

pub loop-i-preserved : goal.loop-i-preserved
loop-i-preserved c =
    let l = c.loop-i in
    (running_step l.invariant.0 c.loop-i-test.true c.in_default.ensures c.step-now.ensures, l.invariant.1, l.invariant.2, c.step-now.auto.kept ∙ l.invariant.3)

pub returns-in-Some : goal.returns-in-Some
returns-in-Some c =
    let l = c.loop-i in
    let p = rw (l.invariant.1, l.invariant.2) at c.due-wrote.ensures in
    let o = c.in-Some.ensures in
    running_prints l.invariant.0 c.loop-i-test.true o.0 p (o.1 _)

pub returns : goal.returns
returns c = let l = c.loop-i in rw (l.invariant.1, l.invariant.2) (running_ends l.invariant.0 _ _ _ c.loop-i-test.false c.max.ensures l.auto.i-end)
