-- Stage 1 refuses nothing of a rule within the limits, and its form is shown.
use Rattle.convert.proofs.Shown.{as_well, simplify_fits}
use Rattle.convert.proofs.stages.simplified.Goals as goal

pub returns : goal.returns
returns c =
    λ f u. as_well (simplify_fits u.within) (c.show.ensures _ (rw c.words.ensures (c.simplify.ensures.form u.room f (u.words _)).words))
