-- The left side against the right, then the right against the left matrix.
use mathlib.Core.Path.{refl}
use Rattle.std.proofs.lemmas.Result.{err_from_is_err_and}
use Rattle.prenex.proofs.Joins.{left_stops, both_walked}
use Rattle.prenex.proofs.rename.merge.Goals as goal

pub returns-in_err-side : goal.returns-in_err-side
returns-in_err-side c =
    let p = err_from_is_err_and c.from_residual.result c.from_residual.ensures.1 in
    rw p.1 (refl, refl, left_stops c.args.spellings.text.now c.requires.0 c.requires.1 c.in_err-side.ensures)

pub returns : goal.returns
returns c = (refl, refl, both_walked c.args.spellings.text.now c.requires.0 c.requires.1 c.in_ok-side.ensures _ _ _ c.side-2.ensures)
