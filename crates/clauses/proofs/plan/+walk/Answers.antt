-- Each way through is one law of `Walking`; the words are fewer each time, so the recursion ends.
use native.Mathlib.Omega.{arith}
use mathlib.Core.Path.{sym, ap, ◌∙◌}
use Rattle.clauses.specs.Plans.{clauses_of}
use Rattle.clauses.proofs.Walking.{no_words, walked_one, walk_constant, walk_leaf, walk_left, walk_right, walk_empty, walk_both}
use Rattle.clauses.proofs.plan.+walk.Goals as goal

pub returns-in_default : goal.returns-in_default
returns-in_default t c = λ p rest x i s. absurd (no_words _ p rest x c.in_default.ensures.cases)

pub returns-in-Constant : goal.returns-in-Constant
returns-in-Constant t c =
    let a = c.args in let h = c.in-Some in
    λ p rest x i s. walk_constant a.plan.now (omega arith) h.field-0-0.now h.left.now h.ensures.cases.0 p rest x a.k i s _ _ (sym c.in-Constant.ensures)

pub returns-in-Leaf : goal.returns-in-Leaf
returns-in-Leaf t c =
    let a = c.args in let h = c.in-Some in
    λ p rest x i s. walk_leaf a.plan.now (omega arith) h.field-0-0.now h.left.now h.ensures.cases.0 p rest x a.k i s (sym c.in-Leaf.ensures) c.number.ensures
    (walked_one a.clause.now.numbers _ a.clause.now.used _ _ (omega arith) (omega arith) c.add.ensures)

pub returns-then-k-before : goal.returns-then-k-before
returns-then-k-before t c =
    let a = c.args in let h = c.in-Some in
    λ p rest x i s. walk_left a.plan.now (omega arith) h.field-0-0.now h.left.now h.ensures.cases.0 p rest x a.k i s (sym c.in-Sum.ensures)
    _ (c.clauses-before.ensures.0 ∙ ap clauses_of c.first.ensures) c.if-k-before.true c.walk.ensures

pub returns-else-k-before : goal.returns-else-k-before
returns-else-k-before t c =
    let a = c.args in let h = c.in-Some in
    λ p rest x i s. walk_right a.plan.now (omega arith) h.field-0-0.now h.left.now h.ensures.cases.0 p rest x a.k i s (sym c.in-Sum.ensures)
    _ (c.clauses-before.ensures.0 ∙ ap clauses_of c.first.ensures) _ c.behind.ensures c.if-k-before.false c.walk-else-k-before.ensures

pub returns-else-many-gt0 : goal.returns-else-many-gt0
returns-else-many-gt0 t c =
    let a = c.args in let h = c.in-Some in
    λ p rest x i s. absurd (walk_empty a.plan.now (omega arith) h.field-0-0.now h.left.now h.ensures.cases.0 p rest x a.k i s (sym c.in-Product.ensures)
    _ c.behind-right.ensures _ (c.clauses-many.ensures.0 ∙ ap clauses_of c.first-in-Product.ensures) (omega arith))

pub returns-then-many-gt0 : goal.returns-then-many-gt0
returns-then-many-gt0 t c =
    let a = c.args in let h = c.in-Some in
    λ p rest x i s. walk_both a.plan.now (omega arith) h.field-0-0.now h.left.now h.ensures.cases.0 p rest x a.k i s (sym c.in-Product.ensures)
    _ c.behind-right.ensures _ (c.clauses-many.ensures.0 ∙ ap clauses_of c.first-in-Product.ensures) c.walk-then-many-gt0.ensures c.walk-then-many-gt0-2.ensures
