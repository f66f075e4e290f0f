-- The variable is not in the other side's matrix, or is bound by the other side's prefix, or is free there: then it is given a new name.
use native.Mathlib.Omega.{arith}
use Rattle.prenex.proofs.Putting.{known_part}
use Rattle.prenex.proofs.Place.{asked_matrix, asked_prefix, not_there, bound_there, free_there, at_slot, named_there, rebound, stays, fails, takes}
use Rattle.prenex.proofs.rename.one.Goals as goal

pub returns-then-not-occurs : goal.returns-then-not-occurs
returns-then-not-occurs c =
    let T = c.args.spellings.text.now in
    stays T c.requires (not_there T c.requires (asked_matrix T c.requires c.occurs.ensures) c.if-not-occurs.true)

pub returns-then-occurs : goal.returns-then-occurs
returns-then-occurs c =
    let T = c.args.spellings.text.now in
    stays T c.requires (bound_there T c.requires (asked_matrix T c.requires c.occurs.ensures) c.if-not-occurs.false
    (asked_prefix T c.requires c.occurs-2.ensures) c.if-occurs.true)

pub returns-then-size-gt-NAME : goal.returns-then-size-gt-NAME
returns-then-size-gt-NAME c =
    let T = c.args.spellings.text.now in
    let b = c.requires.bounds in
    fails T c.requires (free_there T c.requires (asked_matrix T c.requires c.occurs.ensures) c.if-not-occurs.false
    (asked_prefix T c.requires c.occurs-2.ensures) c.if-occurs.false)
    (named_there T c.requires (c.fresh-new.ensures _ (omega (arith, b.mine, b.prefix, c.requires.before)) b.ready.places.room (at_slot T c.requires)))
    (omega (arith, c.size.ensures, c.if-size-gt-NAME.true))

pub returns : goal.returns
returns c =
    let T = c.args.spellings.text.now in
    let b = c.requires.bounds in
    takes T c.requires (free_there T c.requires (asked_matrix T c.requires c.occurs.ensures) c.if-not-occurs.false
    (asked_prefix T c.requires c.occurs-2.ensures) c.if-occurs.false)
    (named_there T c.requires (c.fresh-new.ensures _ (omega (arith, b.mine, b.prefix, c.requires.before)) b.ready.places.room (at_slot T c.requires)))
    (omega (arith, c.size.ensures, c.if-size-gt-NAME.false)) (rebound T c.requires _ _ c.rebind.ensures.0)
    (λ k z a. known_part k _ _ c.args.matrix.now _ a (c.rebind.ensures.1 k z))
