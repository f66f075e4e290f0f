-- The loop keeps `State`; each way out of it, and round it again, has one law.
use Rattle.std.proofs.Common.{refl, arith}
use Rattle.std.proofs.lemmas.Result.{err_from_is_err_and}
use Rattle.reader.proofs.Runs.{ends, ends_bare, ends_due, stops}
use Rattle.reader.proofs.read_into.Goals as goal
use Rattle.reader.proofs.read_into.Goals.{else-stack-eq0-via-then-stack-eq0+else-end-at, else-stack-eq0-via-else-stack-eq0}

pub returns-then-end-at-clause-says : goal.returns-then-end-at-clause-says
returns-then-end-at-clause-says c =
    let f = c.find-end.ensures in
    ends _ _ _ _ _ c.loop-stack.invariant _ f.0 (omega arith) f.2 c.if-stack-eq0.true c.if-end-at.true

pub returns-else-stack-eq0-clause-says : goal.returns-else-stack-eq0-clause-says
returns-else-stack-eq0-clause-says c =
    let f = c.find-end.ensures in
    elim c.else-stack-eq0.branch [
      | else-stack-eq0-via-then-stack-eq0+else-end-at w ↦ ends_bare _ _ _ _ _ c.loop-stack.invariant _ f.0 (omega arith) f.2 f.1 w.if-end-at.false
      | else-stack-eq0-via-else-stack-eq0 w ↦ ends_due _ _ _ _ _ c.loop-stack.invariant _ f.0 (omega arith) w.if-stack-eq0.false
    ]

pub returns-in_err-step-clause-says : goal.returns-in_err-step-clause-says
returns-in_err-step-clause-says c =
    let f = c.find-end.ensures in
    let p = err_from_is_err_and c.from_residual.result c.from_residual.ensures.1 in
    rw (p.1, p.2) (stops _ _ _ _ _ c.loop-stack.invariant _ f.0 (omega arith) f.1 c.step.result _ _ _ c.in_err-step.was _ refl c.step.ensures.does)
