-- The loop keeps that the entries before decide, since none behind has the name.
use native.Mathlib.Omega.{arith}
use mathlib.Core.Path.{◌≡◌, ◌∙◌}
use Rattle.skolem.specs.Pass.{pick}
use Rattle.skolem.proofs.FillLaws.{pick_here, pick_before, pick_all}
use Rattle.skolem.proofs.matrix.Terms.head.Goals as goal

pub loop-i-init : goal.loop-i-init
loop-i-init c = pick_all _ c.args.self.prefix.now c.args.self.heads.now c.args.word (omega arith)

pub returns-then-same_variable : goal.returns-then-same_variable
returns-then-same_variable c =
    let a = c.args in pick_here _ a.self.prefix.now a.self.heads.now a.word (omega arith) c.loop-i-test.true (omega arith) c.same_variable.ensures c.if-same_variable.true ∙ c.loop-i.invariant

pub loop-i-preserved : goal.loop-i-preserved
loop-i-preserved c =
    let a = c.args in pick_before _ a.self.prefix.now a.self.heads.now a.word (omega arith) c.loop-i-test.true (omega arith) c.same_variable.ensures c.if-same_variable.false ∙ c.loop-i.invariant

pub returns : goal.returns
unfolding pick
returns c = let z : c.loop-i.i ≡ 0 = omega arith in rw z at c.loop-i.invariant
