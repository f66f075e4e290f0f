-- Stage 4 is too heavy, or its form is shown.
use Rattle.convert.proofs.Shown.{as_well, handed, heavy_negation, made_negation}
use Rattle.convert.proofs.stages.negated.Goals as goal

pub returns-in_err-negation_form : goal.returns-in_err-negation_form
returns-in_err-negation_form c = λ f u. handed _ c.from_residual.ensures.1 (heavy_negation c.args.spellings.made.now u c.negation_form.ensures c.in_err-negation_form.was)

pub returns : goal.returns
returns c = λ f u. let m = made_negation c.args.spellings.made.now u c.negation_form.ensures c.in_ok-negation_form.was in as_well m.1 (c.show.ensures _ (rw c.words.ensures m.0.words))
