-- Stage 4 is too heavy, or its form goes on to stage 5.
use native.Mathlib.Omega.{arith}
use mathlib.Core.Path.{sym}
use lib.ListN.{length-take}
use Rattle.definitions.proofs.Laws.Shapes.{nnf_ready}
use Rattle.convert.proofs.Shown.{as_well, handed}
use Rattle.convert.proofs.Passed.{heavy_matrix, made_matrix}
use Rattle.convert.proofs.stages.clausal.Goals as goal

pub returns-in_err-negation_form : goal.returns-in_err-negation_form
returns-in_err-negation_form c = λ m b n h. handed _ c.from_residual.ensures.1 (heavy_matrix _ c.args.spellings.made.now _ m n h c.negation_form.ensures c.in_err-negation_form.was)

pub returns : goal.returns
returns c =
    λ m b n h.
    let k = made_matrix _ c.args.spellings.made.now _ m n h c.negation_form.ensures c.in_ok-negation_form.was in
    let t = c.negation_form.new.out in
    as_well (sym k.1) (c.listed.ensures _ (nnf_ready m b) (rw c.words.ensures (omega (arith, k.0.room, length-take t.used t.nodes))) (rw c.words.ensures k.0.words))
