-- The Skolem form is too large, or goes on.
use mathlib.Core.Path.{sym}
use Rattle.definitions.specs.Skolem.{skolemise, zero_counts}
use Rattle.definitions.proofs.Laws.Shapes.{skolemise_no_block}
use Rattle.convert.proofs.Shown.{as_well, handed}
use Rattle.convert.proofs.Passed.{skolem_refused, skolem_made}
use Rattle.convert.proofs.stages.skolem_stage.Goals as goal

pub returns-in_err-skolemise : goal.returns-in_err-skolemise
returns-in_err-skolemise c = λ m u p t a. handed _ c.from_residual.ensures.1 (skolem_refused p _ c.skolemise.ensures c.in_err-skolemise.was c.start.ensures m u a)

pub returns : goal.returns
returns c =
    λ m u p t a.
    let k = skolem_made p _ c.skolemise.ensures c.in_ok-skolemise.was c.start.ensures t a in
    let w = k.1 in
    as_well (sym k.0) (c.ended.ensures (skolemise p zero_counts) w.light (skolemise_no_block p zero_counts a.flat) w.narrow c.skolemise.ensures.room.0 w.blocks (rw c.words.ensures w.body.words))
