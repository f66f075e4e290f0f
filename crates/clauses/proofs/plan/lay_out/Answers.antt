-- The invariant: what is laid out from p on is the plan of the words from `at` on.
use native.Mathlib.Omega.{arith}
use mathlib.Core.Path.{◌∙◌}
use Rattle.clauses.specs.Laying.{marked}
use Rattle.clauses.proofs.Laying.{laid_none, laid_more}
use Rattle.clauses.proofs.plan.lay_out.Goals as goal

pub loop-at-init : goal.loop-at-init
loop-at-init c = (omega arith, omega arith, laid_none (marked c.args.conjunctive) c.args.matrix.now c.args.plan.now (omega arith))

pub loop-at-preserved : goal.loop-at-preserved
loop-at-preserved c =
    let l = c.loop-at in let a = c.args in let s = c.lay-p.ensures in
    (omega (arith, s.near), s.fits, s.are ∙ laid_more (marked a.conjunctive) a.matrix.now l.plan l.p l.at (omega arith) (omega arith) l.invariant.2)
