-- A `#` is refused first; then the prenex form is refused, or goes on to stage 3.
use native.Mathlib.Omega.{arith}
use mathlib.Core.Path.{refl, sym, ap, ◌∙◌}
use Rattle.definitions.specs.Prenex.{pnf}
use Rattle.prenex.specs.Stage.{held}
use Rattle.skolem.specs.Parts.{of_tables}
use Rattle.convert.proofs.Shown.{as_well, is_refused, handed}
use Rattle.convert.proofs.Shaping.{hashed_rule, clean_rule}
use Rattle.convert.proofs.Passed.{prenex_refused, prenex_made}
use Rattle.convert.proofs.stages.skolemised.Goals as goal

pub returns-then-has_hash : goal.returns-then-has_hash
returns-then-has_hash c = λ m f u. is_refused (hashed_rule f _ (c.has_hash.ensures f (u.words _)) c.if-has_hash.true) refl

pub returns-in_err-used : goal.returns-in_err-used
returns-in_err-used c =
    λ m f u.
    let e = ap (λ r. held r c.outward.new.prefix c.outward.new.matrix) c.in_err-used.was in
    handed _ c.from_residual.ensures.1
    (as_well (sym (clean_rule f _ (c.has_hash.ensures f (u.words _)) c.if-has_hash.false)) (prenex_refused _ _ c.outward.ensures e m u))

pub returns : goal.returns
returns c =
    λ m f u.
    let o = c.outward.ensures in
    let d = ap (λ r. held r c.outward.new.prefix c.outward.new.matrix) c.in_ok-used.was in
    let k = prenex_made _ o d m u in
    as_well (sym (clean_rule f _ (c.has_hash.ensures f (u.words _)) c.if-has_hash.false ∙ k.passes))
    (c.skolem_stage.ensures (omega (arith, m, o.size)) (rw d at o.count) (pnf f) k.tame (rw (c.words.ensures, c.words-2.ensures) (of_tables k.apart)))
