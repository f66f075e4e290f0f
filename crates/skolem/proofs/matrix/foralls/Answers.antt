-- The loop keeps that those of the first i heads are written that stay.
use native.Mathlib.Omega.{arith}
use Rattle.skolem.proofs.FillLaws.{keeps_none, one_stays, one_goes}
use Rattle.skolem.proofs.matrix.foralls.Goals as goal
use Rattle.skolem.proofs.matrix.foralls.Goals.{then-stays, else-stays}

pub loop-head-init : goal.loop-head-init
loop-head-init c = keeps_none c.args.heads.now c.args.out.now

pub loop-head-preserved : goal.loop-head-preserved
loop-head-preserved c =
    let a = c.args in let l = c.loop-head in elim c.if-stays.branch [
      | then-stays w ↦ rw (w.out-is, w.n-is) (one_stays a.heads.now l.out l.head-index l.n l.invariant (omega arith) (omega arith) c.stays.ensures w.if-stays.true)
      | else-stays w ↦ rw (w.out-is, w.n-is) (one_goes a.heads.now l.out l.head-index l.n l.invariant (omega arith) c.stays.ensures w.if-stays.false)
    ]
