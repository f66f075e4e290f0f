-- The walk over a rule, node by node. A part begins behind the node's word, so what is still to be read falls.
use native.Mathlib.Omega.{arith}
use mathlib.Core.Path.{ap, ◌∙◌}
use mathlib.Core.Bool.{not}
use Rattle.std.proofs.lemmas.Result.{err_from_is_err_and}
use Rattle.text.specs.Kinds.{number}
use Rattle.prenex.specs.Outward.{pair_side}
use Rattle.prenex.proofs.Arms.{either, quantifier, term}
use Rattle.prenex.proofs.Weighing.{here, nowhere_weighs, no_formula}
use Rattle.prenex.proofs.Nodes.{put_begins}
use Rattle.prenex.proofs.Walking.{runs_none, runs_atom, not_stops, runs_not, runs_unended, runs_binary, runs_imp, runs_iff, blocks_stop, runs_block}
use Rattle.prenex.proofs.Sides.{left_form, right_form, of_left, of_right, turned_round, word_stops, first_stops, second_stops, merge_stops, merge_ends}
use Rattle.prenex.proofs.outward.+four_outward_pair.Goals as goal

pub outward-returns-then-at-src : goal.outward-returns-then-at-src
outward-returns-then-at-src t c = runs_none _ c.requires.0 _ (nowhere_weighs c.if-at-src.true)

pub outward-returns-in_default : goal.outward-returns-in_default
outward-returns-in_default t c = runs_none _ c.requires.0 _ (no_formula (here (omega arith)) (omega (arith, c.in_default.ensures)))

pub outward-returns-in-Top : goal.outward-returns-in-Top
outward-returns-in-Top t c = runs_atom _ c.requires.0 _ (here (omega arith)) _ _ c.atom.ensures.0 (c.atom.ensures.1 _) c.in-Some.ensures c.in-Top.is

pub outward-returns-in_err-put-in-Not : goal.outward-returns-in_err-put-in-Not
outward-returns-in_err-put-in-Not t c =
    let p = err_from_is_err_and c.from_residual.result c.from_residual.ensures.1 in
    rw (p.1, p.2) (not_stops c.args.text.now c.requires.0 _ (here (omega arith)) (c.in-Some.ensures ∙ ap number c.in-Not.is) _ _
    (rw c.from.ensures at (c.in_err-put-in-Not.ensures.1 c.args.text.now)))

pub outward-outward-requires : goal.outward-outward-requires
outward-outward-requires t c = (omega arith, (put_begins c.requires.0 c.in_ok-put-in-Not.ensures.0, c.requires.1))

pub outward-returns-in_ok-put-in-Not : goal.outward-returns-in_ok-put-in-Not
outward-returns-in_ok-put-in-Not t c =
    runs_not c.args.text.now c.requires.0 _ (here (omega arith)) (c.in-Some.ensures ∙ ap number c.in-Not.is) c.in_ok-put-in-Not.ensures.0
    (rw c.from.ensures at (c.in_ok-put-in-Not.ensures.1 c.args.text.now)) _ c.outward.ensures

pub outward-returns-in_err-right-in-And : goal.outward-returns-in_err-right-in-And
outward-returns-in_err-right-in-And t c =
    let p = err_from_is_err_and c.from_residual-in_err-right-in-And.result c.from_residual-in_err-right-in-And.ensures.1 in
    rw (p.1, p.2) (runs_unended _ c.requires.0 _ (here (omega arith)) (either c.in-Some.ensures c.in-And.is).0
    (either c.in-Some.ensures c.in-And.is).1 c.in_err-right-in-And.ensures)

pub outward-returns-in_err-right-in-Implies : goal.outward-returns-in_err-right-in-Implies
outward-returns-in_err-right-in-Implies t c =
    let p = err_from_is_err_and c.from_residual-in_err-right-in-Implies.result c.from_residual-in_err-right-in-Implies.ensures.1 in
    rw (p.1, p.2) (runs_unended _ c.requires.0 _ (here (omega arith)) (omega (arith, c.in-Some.ensures, ap number c.in-Implies.is)) (omega
    (arith, c.in-Some.ensures, ap number c.in-Implies.is)) c.in_err-right-in-Implies.ensures)

pub outward-returns-in_err-right-in-Iff : goal.outward-returns-in_err-right-in-Iff
outward-returns-in_err-right-in-Iff t c =
    let p = err_from_is_err_and c.from_residual-in_err-right-in-Iff.result c.from_residual-in_err-right-in-Iff.ensures.1 in
    rw (p.1, p.2) (runs_unended _ c.requires.0 _ (here (omega arith)) (omega (arith, c.in-Some.ensures, ap number c.in-Iff.is)) (omega
    (arith, c.in-Some.ensures, ap number c.in-Iff.is)) c.in_err-right-in-Iff.ensures)

pub outward-returns-in_ok-right-in-And : goal.outward-returns-in_ok-right-in-And
outward-returns-in_ok-right-in-And t c =
    runs_binary _ c.requires.0 _ (here (omega arith)) _ c.in_ok-right-in-And.ensures c.in-Some.ensures c.in-And.is c.pair.ensures

pub outward-returns-in_ok-right-in-Implies : goal.outward-returns-in_ok-right-in-Implies
outward-returns-in_ok-right-in-Implies t c =
    let i = c.in-Implies.is in runs_imp _ c.requires.0 _ (here (omega arith)) _ c.in_ok-right-in-Implies.ensures
    (c.in-Some.ensures ∙ ap number i) (rw i at c.pair-in-Implies.ensures)

pub outward-returns-in_ok-right-in-Iff : goal.outward-returns-in_ok-right-in-Iff
outward-returns-in_ok-right-in-Iff t c =
    runs_iff _ c.requires.0 _ (here (omega arith)) _ c.in_ok-right-in-Iff.ensures (c.in-Some.ensures ∙ ap number c.in-Iff.is) c.four.ensures

pub outward-returns-in_err-block-in-All : goal.outward-returns-in_err-block-in-All
outward-returns-in_err-block-in-All t c =
    let p = err_from_is_err_and c.from_residual-in_err-block-in-All.result c.from_residual-in_err-block-in-All.ensures.1 in
    let q = quantifier c.in-Some.ensures c.in-All.is in
    rw (p.1, p.2) (blocks_stop _ c.requires.0 _ (here (omega arith)) q.0 q.1 c.count-variables.ensures.0 c.turned-head.ensures _ _ c.in_err-block-in-All.ensures)

pub outward-returns-in_ok-block-in-All : goal.outward-returns-in_ok-block-in-All
outward-returns-in_ok-block-in-All t c =
    let q = quantifier c.in-Some.ensures c.in-All.is in
    runs_block _ c.requires.0 _ (here (omega arith)) q.0 q.1 c.count-variables.ensures.0 c.turned-head.ensures
    c.in_ok-block-in-All.ensures _ c.outward-in-All.ensures

pub outward-returns-in-Function : goal.outward-returns-in-Function
outward-returns-in-Function t c = runs_none _ c.requires.0 _ (no_formula (here (omega arith)) (term c.in-Some.ensures c.in-Function.is))

pub pair-returns-in_err-put : goal.pair-returns-in_err-put
pair-returns-in_err-put t c =
    let p = err_from_is_err_and c.from_residual.result c.from_residual.ensures.1 in
    let a = c.args in
    rw (p.1, p.2) (word_stops a.src.now a.left a.right _ (left_form a.turn) (right_form a.flip) c.requires.0 _ (rw c.from.ensures at
    (c.in_err-put.ensures.1 a.text.now)))

pub pair-outward-requires : goal.pair-outward-requires
pair-outward-requires t c = (omega arith, (put_begins c.requires.0 c.in_ok-put.ensures.0, c.requires.1))

pub pair-returns-in_err-outward : goal.pair-returns-in_err-outward
pair-returns-in_err-outward t c =
    let p = err_from_is_err_and c.from_residual-in_err-outward.result c.from_residual-in_err-outward.ensures.1 in
    let a = c.args in
    rw (p.1, p.2) (first_stops a.src.now a.left a.right _ (left_form a.turn) (right_form a.flip) c.requires.0 c.in_ok-put.ensures.0
    (rw c.from.ensures at (c.in_ok-put.ensures.1 a.text.now)) (of_left c.in_err-outward.ensures))

pub pair-returns-in_err-outward-2 : goal.pair-returns-in_err-outward-2
pair-returns-in_err-outward-2 t c =
    let p = err_from_is_err_and c.from_residual-in_err-outward-2.result c.from_residual-in_err-outward-2.ensures.1 in
    let a = c.args in
    rw (p.1, p.2) (second_stops a.src.now a.left a.right _ (left_form a.turn) (right_form a.flip) c.requires.0 c.in_ok-put.ensures.0
    (rw c.from.ensures at (c.in_ok-put.ensures.1 a.text.now)) (of_left c.in_ok-outward.ensures) (of_right c.in_err-outward-2.ensures))

pub pair-returns-in_err-merge : goal.pair-returns-in_err-merge
pair-returns-in_err-merge t c =
    let p = err_from_is_err_and c.from_residual-in_err-merge.result c.from_residual-in_err-merge.ensures.1 in
    let a = c.args in
    rw (p.1, p.2) (merge_stops a.src.now a.left a.right _ (left_form a.turn) (right_form a.flip) c.requires.0 c.in_ok-put.ensures.0
    (rw c.from.ensures at (c.in_ok-put.ensures.1 a.text.now)) (of_left c.in_ok-outward.ensures)
    (of_right c.in_ok-outward-2.ensures) _ c.in_err-merge.ensures.0 c.in_err-merge.ensures.2)

pub pair-returns : goal.pair-returns
pair-returns t c =
    let a = c.args in
    merge_ends a.src.now a.left a.right _ (left_form a.turn) (right_form a.flip) c.requires.0 c.in_ok-put.ensures.0
    (rw c.from.ensures at (c.in_ok-put.ensures.1 a.text.now)) (of_left c.in_ok-outward.ensures)
    (of_right c.in_ok-outward-2.ensures) c.in_ok-merge.ensures.0 c.in_ok-merge.ensures.1 c.in_ok-merge.ensures.2

pub four-returns-in_err-put : goal.four-returns-in_err-put
four-returns-in_err-put t c =
    let p = err_from_is_err_and c.from_residual.result c.from_residual.ensures.1 in
    let a = c.args in
    let X = pair_side a.text.now 5 (not a.flip) a.flip in
    rw (p.1, p.2) (word_stops a.src.now a.left a.right _ X (λ f g. X g f) c.requires.0 _ (rw c.from.ensures at (c.in_err-put.ensures.1 a.text.now)))

pub four-pair-requires : goal.four-pair-requires
four-pair-requires t c = (omega arith, (put_begins c.requires.0 c.in_ok-put.ensures.0, c.requires.1))

pub four-returns-in_err-pair : goal.four-returns-in_err-pair
four-returns-in_err-pair t c =
    let p = err_from_is_err_and c.from_residual-in_err-pair.result c.from_residual-in_err-pair.ensures.1 in
    let a = c.args in
    let X = pair_side a.text.now 5 (not a.flip) a.flip in
    rw (p.1, p.2) (first_stops a.src.now a.left a.right _ X (λ f g. X g f) c.requires.0 c.in_ok-put.ensures.0
    (rw c.from.ensures at (c.in_ok-put.ensures.1 a.text.now)) c.in_err-pair.ensures)

pub four-returns-in_err-pair-2 : goal.four-returns-in_err-pair-2
four-returns-in_err-pair-2 t c =
    let p = err_from_is_err_and c.from_residual-in_err-pair-2.result c.from_residual-in_err-pair-2.ensures.1 in
    let a = c.args in
    let X = pair_side a.text.now 5 (not a.flip) a.flip in
    rw (p.1, p.2) (second_stops a.src.now a.left a.right _ X (λ f g. X g f) c.requires.0 c.in_ok-put.ensures.0
    (rw c.from.ensures at (c.in_ok-put.ensures.1 a.text.now)) c.in_ok-pair.ensures (turned_round c.in_err-pair-2.ensures))

pub four-returns-in_err-merge : goal.four-returns-in_err-merge
four-returns-in_err-merge t c =
    let p = err_from_is_err_and c.from_residual-in_err-merge.result c.from_residual-in_err-merge.ensures.1 in
    let a = c.args in
    let X = pair_side a.text.now 5 (not a.flip) a.flip in
    rw (p.1, p.2) (merge_stops a.src.now a.left a.right _ X (λ f g. X g f) c.requires.0 c.in_ok-put.ensures.0
    (rw c.from.ensures at (c.in_ok-put.ensures.1 a.text.now)) c.in_ok-pair.ensures (turned_round c.in_ok-pair-2.ensures) _ c.in_err-merge.ensures.0 c.in_err-merge.ensures.2)

pub four-returns : goal.four-returns
four-returns t c =
    let a = c.args in
    let X = pair_side a.text.now 5 (not a.flip) a.flip in
    merge_ends a.src.now a.left a.right _ X (λ f g. X g f) c.requires.0 c.in_ok-put.ensures.0
    (rw c.from.ensures at (c.in_ok-put.ensures.1 a.text.now)) c.in_ok-pair.ensures
    (turned_round c.in_ok-pair-2.ensures) c.in_ok-merge.ensures.0 c.in_ok-merge.ensures.1 c.in_ok-merge.ensures.2
