-- The six functions that call each other meet their contracts. Each answer joins the runs of its calls by the laws of runs; at a node
-- the formulae of its kind are looked at, and what is written is their form by definition. The measure is what is left of the words,
-- five times, and one more for each call that reads nothing.
use Rattle.std.proofs.Common.{sym, ◌∙◌, arith, [], ◌∷◌, inl, inr}
use Rattle.definitions.specs.Negation
use Rattle.text.specs.declared.kind.Kind.TheVariants.{Top, Bottom, Not, And, Or, Implies, Iff, Equals, All, Exists, Predicate}
use Rattle.text.specs.Words.{token, sign, code}
use Rattle.text.specs.WordLaws.{sign_word}
use Rattle.negation.proofs.RunLaws.{written, seq, again, stop, stop_write}
use Rattle.negation.proofs.TermLaws.{over_none, over_sides, over_variables}
use Rattle.negation.proofs.NodeLaws.{node, other, nowhere, other_kind}
use Rattle.negation.proofs.+forms.Goals as goal

pub block-returns-in_err-rest-clause-does : goal.block-returns-in_err-rest-clause-does
block-returns-in_err-rest-clause-does t c =
    let n = c.count.ensures.0 in λ T M vs a l.
    stop _ _ c.from_residual.ensures.0 (over_variables (λ ks. token T M c.args.word ∷ ks) vs _ (l ∙ sym n) (c.in_err-rest.ensures.does T M))

pub block-returns-clause-does : goal.block-returns-clause-does
block-returns-clause-does t c =
    let n = c.count.ensures.0 in λ T M vs a l.
    seq (over_variables (λ ks. token T M c.args.word ∷ ks) vs _ (l ∙ sym n) (c.in_ok-rest.ensures.does T M)) (c.side.ensures.does T M a)

pub both-returns-in_err-rest-clause-does : goal.both-returns-in_err-rest-clause-does
both-returns-in_err-rest-clause-does t c =
    λ T M a b. rw (← c.from.ensures)
    (written c.in_ok-push.ensures (stop _ _ c.from_residual-in_err-rest.ensures.0 (c.in_err-rest.ensures.does T M a)))

pub both-returns-clause-does : goal.both-returns-clause-does
both-returns-clause-does t c =
    λ T M a b. rw (← c.from.ensures) (written c.in_ok-push.ensures (seq (c.in_ok-rest.ensures.does T M a) (c.side-2.ensures.does T M b)))

pub four-returns-in_err-both-clause-does : goal.four-returns-in_err-both-clause-does
four-returns-in_err-both-clause-does t c =
    λ T M a b. rw (← c.from.ensures)
    (written c.in_ok-push.ensures (stop_write _ c.from_residual-in_err-both.ensures.0 (c.in_err-both.ensures.does T M a b)))

pub four-returns-clause-does : goal.four-returns-clause-does
four-returns-clause-does t c =
    λ T M a b. rw (← c.from.ensures)
    (written c.in_ok-push.ensures (again (c.in_ok-both.ensures.does T M a b) (c.both-2.ensures.does T M a b)))

pub nnf-returns-in_err-kind-clause-does : goal.nnf-returns-in_err-kind-clause-does
nnf-returns-in_err-kind-clause-does t c = λ T M. nowhere T M _ c.in_err-kind.ensures

pub nnf-returns-in-Top-clause-does : goal.nnf-returns-in-Top-clause-does
unfolding Negation.nnf code
nnf-returns-in-Top-clause-does t c =
    λ T M. let h = over_none (λ ks. token T M c.in_ok-kind.word ∷ ks) (c.with_terms.ensures.does T M) in elim c.in-Top.is [
      | inl e ↦ node T M _ Top c.in_ok-kind.ensures e (λ w. rw w at h)
      | inr e ↦ node T M _ Bottom c.in_ok-kind.ensures e (λ w. rw w at h)
    ]

pub nnf-returns-in-Not-clause-does : goal.nnf-returns-in-Not-clause-does
unfolding Negation.nnf code
nnf-returns-in-Not-clause-does t c = λ T M. node T M _ Not c.in_ok-kind.ensures c.in-Not.is (λ a w. c.push_not.ensures.does T M a)

pub nnf-returns-in-And-clause-does : goal.nnf-returns-in-And-clause-does
unfolding Negation.nnf code
nnf-returns-in-And-clause-does t c = λ T M. node T M _ And c.in_ok-kind.ensures c.in-And.is (λ a b w. c.both.ensures.does T M a b)

pub nnf-returns-in-Or-clause-does : goal.nnf-returns-in-Or-clause-does
unfolding Negation.nnf code
nnf-returns-in-Or-clause-does t c = λ T M. node T M _ Or c.in_ok-kind.ensures c.in-Or.is (λ a b w. c.both-in-Or.ensures.does T M a b)

pub nnf-returns-in-Implies-clause-does : goal.nnf-returns-in-Implies-clause-does
unfolding Negation.nnf code
nnf-returns-in-Implies-clause-does t c = λ T M. node T M _ Implies c.in_ok-kind.ensures c.in-Implies.is (λ a b w. c.both-in-Implies.ensures.does T M a b)

pub nnf-returns-in-Iff-clause-does : goal.nnf-returns-in-Iff-clause-does
unfolding Negation.nnf code
nnf-returns-in-Iff-clause-does t c = λ T M. node T M _ Iff c.in_ok-kind.ensures c.in-Iff.is (λ a b w. c.four.ensures.does T M a b)

pub nnf-returns-in-Equals-clause-does : goal.nnf-returns-in-Equals-clause-does
unfolding Negation.nnf code
nnf-returns-in-Equals-clause-does t c = λ T M. node T M _ Equals c.in_ok-kind.ensures c.in-Equals.is
    (λ a b w. over_sides (λ ks. sign 7 0 [] ∷ ks) a b (λ ts e. rw w at (c.with_terms-in-Equals.ensures.does T M ts e)))

pub nnf-returns-in-All-clause-does : goal.nnf-returns-in-All-clause-does
unfolding Negation.nnf code
nnf-returns-in-All-clause-does t c =
    λ T M. elim c.in-All.is [
      | inl e ↦ node T M _ All c.in_ok-kind.ensures e (λ vs n a w. rw w at (c.block.ensures.does T M vs a n))
      | inr e ↦ node T M _ Exists c.in_ok-kind.ensures e (λ vs n a w. rw w at (c.block.ensures.does T M vs a n))
    ]

pub nnf-returns-in-Predicate-clause-does : goal.nnf-returns-in-Predicate-clause-does
unfolding Negation.nnf code
nnf-returns-in-Predicate-clause-does t c = λ T M. node T M _ Predicate c.in_ok-kind.ensures c.in-Predicate.is
    (λ p ts n w. rw w at (c.with_terms-in-Predicate.ensures.does T M ts (n ∙ sym c.count.ensures.0)))

pub nnf-returns-in-Function-clause-does : goal.nnf-returns-in-Function-clause-does
nnf-returns-in-Function-clause-does t c =
    let y = c.in_ok-kind.ensures in λ T M. other T M _ y.split (grind (arith, c.in-Function.is, y.kind))

pub push_not-returns-in_err-kind-clause-does : goal.push_not-returns-in_err-kind-clause-does
push_not-returns-in_err-kind-clause-does t c = λ T M. nowhere T M _ c.in_err-kind.ensures

pub push_not-returns-in-Top-clause-does : goal.push_not-returns-in-Top-clause-does
unfolding Negation.push_negation code
push_not-returns-in-Top-clause-does t c = λ T M. node T M _ Top c.in_ok-kind.ensures c.in-Top.is
    (λ w. rw c.from.ensures at (over_none (λ ks. token T M c.from.result ∷ ks) (c.with_terms.ensures.does T M)))

pub push_not-returns-in-Bottom-clause-does : goal.push_not-returns-in-Bottom-clause-does
unfolding Negation.push_negation code
push_not-returns-in-Bottom-clause-does t c = λ T M. node T M _ Bottom c.in_ok-kind.ensures c.in-Bottom.is
    (λ w. rw c.from-in-Bottom.ensures at (over_none (λ ks. token T M c.from-in-Bottom.result ∷ ks) (c.with_terms-in-Bottom.ensures.does T M)))

pub push_not-returns-in-Not-clause-does : goal.push_not-returns-in-Not-clause-does
unfolding Negation.push_negation code
push_not-returns-in-Not-clause-does t c = λ T M. node T M _ Not c.in_ok-kind.ensures c.in-Not.is (λ a w. c.nnf.ensures.does T M a)

pub push_not-returns-in-And-clause-does : goal.push_not-returns-in-And-clause-does
unfolding Negation.push_negation code
push_not-returns-in-And-clause-does t c = λ T M. node T M _ And c.in_ok-kind.ensures c.in-And.is (λ a b w. c.both.ensures.does T M a b)

pub push_not-returns-in-Or-clause-does : goal.push_not-returns-in-Or-clause-does
unfolding Negation.push_negation code
push_not-returns-in-Or-clause-does t c = λ T M. node T M _ Or c.in_ok-kind.ensures c.in-Or.is (λ a b w. c.both-in-Or.ensures.does T M a b)

pub push_not-returns-in-Implies-clause-does : goal.push_not-returns-in-Implies-clause-does
unfolding Negation.push_negation code
push_not-returns-in-Implies-clause-does t c = λ T M. node T M _ Implies c.in_ok-kind.ensures c.in-Implies.is (λ a b w. c.both-in-Implies.ensures.does T M a b)

pub push_not-returns-in-Iff-clause-does : goal.push_not-returns-in-Iff-clause-does
unfolding Negation.push_negation code
push_not-returns-in-Iff-clause-does t c = λ T M. node T M _ Iff c.in_ok-kind.ensures c.in-Iff.is (λ a b w. c.four.ensures.does T M a b)

pub push_not-returns-in-Equals-clause-does : goal.push_not-returns-in-Equals-clause-does
unfolding Negation.push_negation code
push_not-returns-in-Equals-clause-does t c = λ T M. node T M _ Equals c.in_ok-kind.ensures c.in-Equals.is
    (λ a b w. over_sides (λ ks. sign 2 0 [] ∷ (sign 7 0 [] ∷ ks)) a b (λ ts e. rw w at (c.negated.ensures.does T M ts e)))

pub push_not-returns-in-All-clause-does : goal.push_not-returns-in-All-clause-does
unfolding Negation.push_negation code
push_not-returns-in-All-clause-does t c = λ T M. node T M _ All c.in_ok-kind.ensures c.in-All.is
    (λ vs n a w. let v = other_kind T M _ _ 9 8 c.with_kind.ensures (omega arith) (omega arith) w in
    rw v at (c.block.ensures.does T M vs a (sym (sign_word T M _ v).1)))

pub push_not-returns-in-Exists-clause-does : goal.push_not-returns-in-Exists-clause-does
unfolding Negation.push_negation code
push_not-returns-in-Exists-clause-does t c = λ T M. node T M _ Exists c.in_ok-kind.ensures c.in-Exists.is
    (λ vs n a w. let v = other_kind T M _ _ 8 9 c.with_kind-in-Exists.ensures (omega arith) (omega arith) w in
    rw v at (c.block-in-Exists.ensures.does T M vs a (sym (sign_word T M _ v).1)))

pub push_not-returns-in-Predicate-clause-does : goal.push_not-returns-in-Predicate-clause-does
unfolding Negation.push_negation code
push_not-returns-in-Predicate-clause-does t c = λ T M. node T M _ Predicate c.in_ok-kind.ensures c.in-Predicate.is
    (λ p ts n w. rw w at (c.negated-in-Predicate.ensures.does T M ts (n ∙ sym c.count.ensures.0)))

pub push_not-returns-in-Function-clause-does : goal.push_not-returns-in-Function-clause-does
push_not-returns-in-Function-clause-does t c =
    let y = c.in_ok-kind.ensures in λ T M. other T M _ y.split (grind (arith, c.in-Function.is, y.kind))
