-- A turn feeds a piece of what is left; the last one finds nothing.
use Rattle.std.proofs.Common.{arith, length-take}
use Rattle.program.proofs.Pumping.{pumped_first, pumped_more, pumped_end, pumped_out}
use Rattle.program.proofs.pump.Goals as goal

pub loop-turn-init : goal.loop-turn-init
loop-turn-init g c = λ input l h r p w. pumped_first _ _ _ input r c.begin-state.ensures l

pub returns-then-n-eq0 : goal.returns-then-n-eq0
returns-then-n-eq0 g c =
    λ input l h r p w.
    let e = c.in_ok-n.ensures.bytes in
    pumped_end _ (c.loop-turn.invariant input l h r p w) (rw c.if-n-eq0.true at e.0) (e.1 c.if-n-eq0.true (omega arith))

pub loop-turn-preserved : goal.loop-turn-preserved
loop-turn-preserved g c =
    λ input l h r p w.
    let t = c.loop-turn in
    let e = c.in_ok-state.ensures in
    pumped_more _ _ (t.invariant input l h r p w) c.in_ok-n.ensures.bytes.0 (omega (arith, length-take c.in_ok-n.n c.read.new.buf, c.in_ok-n.ensures.bound, c.if-n-eq0.false)) (e.writes (omega (arith, t.auto.out, p)) (omega (arith, t.auto.work, w))) e.moves

pub returns : goal.returns
returns g c = λ input l h r p w. pumped_out (c.loop-turn.invariant input l h r p w) (omega (arith, h, c.loop-turn-test.false))
