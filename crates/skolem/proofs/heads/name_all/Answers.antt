-- The loop keeps that the heads so far have their names, and the rest are as they were.
use native.Mathlib.Omega.{arith}
use Rattle.std.proofs.lemmas.Result.{err_from_is_err_and}
use Rattle.skolem.proofs.Drawing.{naming_stop, naming_on, naming_end}
use Rattle.skolem.proofs.heads.name_all.Goals as goal

pub returns-in_err-entitled : goal.returns-in_err-entitled
returns-in_err-entitled c =
    let l = c.loop-head in let p = err_from_is_err_and c.from_residual.result c.from_residual.ensures.1 in
    rw (p.1, p.2) (naming_stop (omega arith) l.invariant (omega arith) c.in_err-entitled.ensures)

pub loop-head-preserved : goal.loop-head-preserved
loop-head-preserved c = let l = c.loop-head in naming_on (omega arith) l.invariant (omega arith) c.in_ok-entitled.ensures

pub returns : goal.returns
returns c = naming_end (omega arith) c.loop-head.invariant (omega arith)
