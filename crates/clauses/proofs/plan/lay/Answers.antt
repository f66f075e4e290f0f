-- Each kind of word has its own way to be laid out.
use native.Mathlib.Omega.{arith}
use Prim.Native.Nat.{ℕ}
use mathlib.Core.Path.{ap, ◌∙◌}
use mathlib.Core.List.{◌∷◌}
use lib.ListN.{drop, set}
use Rattle.text.specs.Kinds.{number}
use Rattle.clauses.proofs.Laying.{rest_of, laid_top, laid_bottom, laid_not, laid_and, laid_or, laid_atom, laid_other, laid_past, laid_as}
use Rattle.clauses.proofs.plan.lay.Goals as goal

pub returns-in_default : goal.returns-in_default
returns-in_default c =
    let a = c.args in record { near = omega arith; fits = omega arith; are = laid_past a.conjunctive a.at _ _ c.in_default.ensures }

pub returns-in-Top : goal.returns-in-Top
returns-in-Top c =
    let a = c.args in
    laid_as (ap (λ (w : ℕ). w ∷ drop a.p a.plan.now) c.constant.ensures
    ∙ laid_top a.conjunctive a.at _ _ (c.in-Some.ensures ∙ ap number c.in-Top.is)) c.push.ensures

pub returns-in-Bottom : goal.returns-in-Bottom
returns-in-Bottom c =
    let a = c.args in
    laid_as (ap (λ (w : ℕ). w ∷ drop a.p a.plan.now) c.constant-in-Bottom.ensures
    ∙ laid_bottom a.conjunctive a.at _ _ (c.in-Some.ensures ∙ ap number c.in-Bottom.is)) c.push-in-Bottom.ensures

pub returns-in-Not : goal.returns-in-Not
returns-in-Not c =
    let a = c.args in
    laid_as (ap (set (drop a.p a.plan.now) 0) c.leaf.ensures
    ∙ laid_not a.conjunctive a.at _ _ (c.in-Some.ensures ∙ ap number c.in-Not.is)) c.negate.ensures

pub returns-in-And : goal.returns-in-And
returns-in-And c =
    let a = c.args in
    laid_as (ap (λ (w : ℕ). w ∷ drop a.p a.plan.now) (rw (rest_of a.plan.now a.p (omega arith)) at c.joined.ensures)
    ∙ laid_and a.conjunctive a.at _ _ (c.in-Some.ensures ∙ ap number c.in-And.is)) c.push-in-And.ensures

pub returns-in-Or : goal.returns-in-Or
returns-in-Or c =
    let a = c.args in
    laid_as (ap (λ (w : ℕ). w ∷ drop a.p a.plan.now) (rw (rest_of a.plan.now a.p (omega arith)) at c.joined-in-Or.ensures)
    ∙ laid_or a.conjunctive a.at _ _ (c.in-Some.ensures ∙ ap number c.in-Or.is)) c.push-in-Or.ensures

pub returns-in-Predicate : goal.returns-in-Predicate
returns-in-Predicate c =
    let a = c.args in
    laid_as (ap (λ (w : ℕ). w ∷ drop a.p a.plan.now) c.leaf-in-Predicate.ensures
    ∙ laid_atom a.conjunctive a.at _ _ c.in-Some.kind c.in-Some.ensures c.in-Predicate.is) c.push-in-Predicate.ensures

pub returns-in-Implies : goal.returns-in-Implies
returns-in-Implies c =
    let a = c.args in
    record { near = omega arith; fits = omega arith; are = laid_other a.conjunctive a.at _ _ c.in-Some.kind c.in-Some.ensures c.in-Implies.is }
