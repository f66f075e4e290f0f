-- A rule in another form is refused, then one with a `#`; the blocks and the matrix of any other go on to stage 3.
use native.Mathlib.Omega.{arith}
use mathlib.Core.Path.{refl, sym, ap}
use mathlib.Core.Bool.{true, false, not}
use Rattle.definitions.specs.Prenex.{parted}
use Rattle.definitions.proofs.Laws.Bools.{not_flip}
use Rattle.convert.proofs.Shown.{as_well, is_refused}
use Rattle.convert.proofs.Shaping.{not_prenex, hashed_prenex, clean_prenex, its_parts, rule_tame}
use Rattle.convert.proofs.stages.of_prenex.Goals as goal

pub returns-then-not-is_prenex : goal.returns-then-not-is_prenex
returns-then-not-is_prenex c =
    λ m f u. is_refused (not_prenex f (c.shape_of.ensures _ c.args.made.now f (u.words _)) c.is_prenex.ensures (not_flip _ true (ap not c.if-not-is_prenex.true))) refl

pub returns-then-has_hash : goal.returns-then-has_hash
returns-then-has_hash c =
    λ m f u. is_refused (hashed_prenex f (c.shape_of.ensures _ c.args.made.now f (u.words _)) c.is_prenex.ensures (not_flip _ false (ap not c.if-not-is_prenex.false)) (c.has_hash.ensures f (u.words _)) c.if-has_hash.true) refl

pub returns : goal.returns
returns c =
    λ m f u.
    let s = c.shape_of.ensures _ c.args.made.now f (u.words _) in
    let p = c.is_prenex.ensures in
    let y = not_flip _ false (ap not c.if-not-is_prenex.false) in
    as_well (sym (clean_prenex f s p y (c.has_hash.ensures f (u.words _)) c.if-has_hash.false))
    (c.skolem_stage.ensures m (omega arith) (parted f) (rule_tame f u.within) (its_parts f u c.split.ensures s p y))
