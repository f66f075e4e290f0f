-- Each node from its parts. What is still to be read falls: each part begins behind the node's word.
use native.Mathlib.Omega.{arith}
use mathlib.Core.Path.{ap, ◌∙◌}
use Rattle.text.specs.Kinds.{number}
use Rattle.prenex.proofs.Arms.{constant, binary, quantifier, term}
use Rattle.prenex.proofs.Weighing.{here, nowhere_weighs, no_formula, constant_weighs, not_none, not_weighs, left_none, right_none, both_weigh, iff_weighs, equation_weighs, predicate_weighs, block_none, block_weighs}
use Rattle.prenex.proofs.weight.+weigh.Goals as goal

pub returns-then-at-src : goal.returns-then-at-src
returns-then-at-src t c = nowhere_weighs c.if-at-src.true

pub returns-in_err-kind_of : goal.returns-in_err-kind_of
returns-in_err-kind_of t c = rw c.from_residual.ensures (no_formula (here (omega arith)) (omega (arith, c.in_err-kind_of.ensures)))

pub returns-in-Top : goal.returns-in-Top
returns-in-Top t c = constant_weighs (here (omega arith)) (constant c.in_ok-kind_of.ensures c.in-Top.is)

pub returns-in_err-part-in-Not : goal.returns-in_err-part-in-Not
returns-in_err-part-in-Not t c =
    rw c.from_residual-in_err-part-in-Not.ensures
    (not_none (here (omega arith)) (c.in_ok-kind_of.ensures ∙ ap number c.in-Not.is) c.in_err-part-in-Not.ensures)

pub returns-in_ok-part-in-Not : goal.returns-in_ok-part-in-Not
returns-in_ok-part-in-Not t c =
    not_weighs (here (omega arith)) (c.in_ok-kind_of.ensures ∙ ap number c.in-Not.is) c.in_ok-part-in-Not.ensures c.clamp.ensures

pub returns-in_err-left-in-And : goal.returns-in_err-left-in-And
returns-in_err-left-in-And t c =
    let b = binary c.in_ok-kind_of.ensures c.in-And.is in
    rw c.from_residual-in_err-left-in-And.ensures
    (left_none (here (omega arith)) b.0 (omega arith) c.in_err-left-in-And.ensures)

pub returns-in_err-right-in-And : goal.returns-in_err-right-in-And
returns-in_err-right-in-And t c =
    let b = binary c.in_ok-kind_of.ensures c.in-And.is in
    rw c.from_residual-in_err-right-in-And.ensures
    (right_none (here (omega arith)) c.in_ok-left-in-And.ensures b.0 (omega arith) c.in_err-right-in-And.ensures)

pub returns-in_ok-right-in-And : goal.returns-in_ok-right-in-And
returns-in_ok-right-in-And t c =
    let b = binary c.in_ok-kind_of.ensures c.in-And.is in
    both_weigh (here (omega arith)) c.in_ok-left-in-And.ensures c.in_ok-right-in-And.ensures b.0 b.1 c.clamp-in-And.ensures

pub returns-in_err-left-in-Iff : goal.returns-in_err-left-in-Iff
returns-in_err-left-in-Iff t c =
    let z = ap number c.in-Iff.is in
    rw c.from_residual-in_err-left-in-Iff.ensures
    (left_none (here (omega arith)) (omega (arith, c.in_ok-kind_of.ensures)) (omega
    (arith, c.in_ok-kind_of.ensures)) c.in_err-left-in-Iff.ensures)

pub returns-in_err-right-in-Iff : goal.returns-in_err-right-in-Iff
returns-in_err-right-in-Iff t c =
    let z = ap number c.in-Iff.is in
    rw c.from_residual-in_err-right-in-Iff.ensures
    (right_none (here (omega arith)) c.in_ok-left-in-Iff.ensures (omega (arith, c.in_ok-kind_of.ensures)) (omega
    (arith, c.in_ok-kind_of.ensures)) c.in_err-right-in-Iff.ensures)

pub returns-in_ok-right-in-Iff : goal.returns-in_ok-right-in-Iff
returns-in_ok-right-in-Iff t c =
    iff_weighs (here (omega arith)) c.in_ok-left-in-Iff.ensures c.in_ok-right-in-Iff.ensures
    (c.in_ok-kind_of.ensures ∙ ap number c.in-Iff.is) c.clamp-in-Iff.ensures

pub returns-in-Equals : goal.returns-in-Equals
returns-in-Equals t c =
    equation_weighs (here (omega arith)) _ (c.in_ok-kind_of.ensures ∙ ap number c.in-Equals.is) c.atom.ensures

pub returns-in_err-part-in-All : goal.returns-in_err-part-in-All
returns-in_err-part-in-All t c =
    let q = quantifier c.in_ok-kind_of.ensures c.in-All.is in
    rw c.from_residual-in_err-part-in-All.ensures
    (block_none (here (omega arith)) q.0 q.1 c.count-variables.ensures.0 c.in_err-part-in-All.ensures)

pub returns-in_ok-part-in-All : goal.returns-in_ok-part-in-All
returns-in_ok-part-in-All t c =
    let q = quantifier c.in_ok-kind_of.ensures c.in-All.is in
    block_weighs (here (omega arith)) q.0 q.1 c.count-variables.ensures.0 c.in_ok-part-in-All.ensures c.clamp-in-All.ensures

pub returns-in-Predicate : goal.returns-in-Predicate
returns-in-Predicate t c =
    predicate_weighs (here (omega arith)) _ (c.in_ok-kind_of.ensures ∙ ap number c.in-Predicate.is) c.count.ensures.0 c.atom-in-Predicate.ensures

pub returns-in-Function : goal.returns-in-Function
returns-in-Function t c = no_formula (here (omega arith)) (term c.in_ok-kind_of.ensures c.in-Function.is)
