-- A rule that is not in Skolem form is refused; the blocks of one that is are left out.
use mathlib.Core.Path.{refl, sym}
use Rattle.convert.proofs.Shown.{as_well, is_refused}
use Rattle.convert.proofs.Shaping.{not_skolem, its_matrix, rule_narrow}
use Rattle.convert.proofs.stages.of_skolem.Goals as goal

pub returns-in-Other : goal.returns-in-Other
returns-in-Other c =
    λ f u. is_refused (not_skolem c.args.conjunctive f (c.shape_of.ensures _ c.args.spellings.made.now f (u.words _)) c.in-Other.is) refl

pub returns-in-Skolem : goal.returns-in-Skolem
returns-in-Skolem c =
    λ f u.
    let k = its_matrix c.args.conjunctive f (c.shape_of.ensures _ c.args.spellings.made.now f (u.words _)) c.in-Skolem.is in
    as_well (sym k.0) (c.clausal.ensures _ k.1 (rule_narrow f u.within) (c.split.ensures.parts _ _ f (u.words _)).body)
