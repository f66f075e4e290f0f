-- The prenex form is too heavy, or has a name that is too long, or is shown.
use mathlib.Core.Path.{refl, sym, ap, ◌∙◌}
use Rattle.definitions.specs.Prenex.{pnf}
use Rattle.prenex.specs.Stage.{held}
use Rattle.convert.proofs.Shown.{as_well, handed}
use Rattle.convert.proofs.Passed.{pnf_tree, prenex_refused, prenex_made}
use Rattle.convert.proofs.stages.prenexed.Goals as goal

pub returns-in_err-outward : goal.returns-in_err-outward
returns-in_err-outward c =
    λ m f u.
    let e = ap (λ r. held r c.outward.new.prefix c.outward.new.matrix) c.in_err-outward.was in
    handed _ c.from_residual.ensures.1 (as_well (sym (pnf_tree f)) (prenex_refused _ _ c.outward.ensures e m u))

pub returns : goal.returns
returns c =
    λ m f u.
    let d = ap (λ r. held r c.outward.new.prefix c.outward.new.matrix) c.in_ok-outward.was in
    let k = prenex_made _ c.outward.ensures d m u in
    let a = k.apart in
    as_well (sym (pnf_tree f ∙ k.passes)) (c.show.ensures _
    (rw c.words-2.ensures (c.join.ensures.form _ _ (pnf f).prefix (pnf f).matrix k.light a.prefix_room (a.blocks _ refl) (rw c.words.ensures (a.body _ refl))).words))
