-- The variables of terms, one word at a time: those of the first word, and those of the terms that are due after it.
use Rattle.std.specs.Prelude.{◌≡◌, refl, ◌<◌}
use Rattle.std.proofs.Common.{sym, ap, ◌∙◌, arith}
use Rattle.definitions.specs.Syntax.{var, con, app, Terms, nil, cons, count}
use Rattle.definitions.specs.Names.{terms_vars, term_vars, union}
use Rattle.text.specs.Arguments.{join, first}
use Rattle.substitution.specs.Runs.{variable_in}
use Rattle.substitution.specs.Unions.{union_nothing, union_assoc}

join_vars : (ts us : Terms) → terms_vars (join ts us) ≡ union (terms_vars ts) (terms_vars us)
unfolding join terms_vars
join_vars nil us = sym (union_nothing (terms_vars us))
join_vars (cons t ts) us = ap (union (term_vars t)) (join_vars ts us) ∙ sym (union_assoc (term_vars t) (terms_vars ts) (terms_vars us))

pub first_vars : (ts : Terms) (h : 0 < count ts) → terms_vars ts ≡ union (variable_in (first ts h).token) (terms_vars (first ts h).after)
unfolding first count term_vars terms_vars
first_vars nil h = absurd (omega arith)
first_vars (cons (var x) ts) h = refl
first_vars (cons (con c) ts) h = refl
first_vars (cons (app f us) ts) h = sym (union_nothing (terms_vars (join us ts)) ∙ join_vars us ts)
