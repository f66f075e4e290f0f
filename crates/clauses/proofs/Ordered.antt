-- Atoms compared word by word come out as atoms compared: the terms that are due are the same count on both sides, and what is answered
-- where they all are the same is what the comparison of the rest would say.
use mathlib.Core.Path.{◌≡◌, refl, sym, ap, ◌∙◌}
use mathlib.Core.List.{List, ◌++◌, append_assoc}
use Prim.Native.Nat.compare
use Prim.Native.Nat.{ℕ, zero, suc, ◌+◌, min, compare, Ordering}
use native.Mathlib.Omega.{arith}
use Rattle.definitions.specs.Syntax.{Term, var, con, app, Terms, nil, cons, count}
use Rattle.definitions.specs.Order.{Atom, rel, same_as, then, cmp_list, cmp_name, cmp_term, cmp_terms, cmp_atom}
use Rattle.definitions.specs.Clauses.{atom_formula}
use Rattle.text.specs.Words.{Token, term_code, terms_code, code}
use Rattle.clauses.specs.Ranks.{due, cmp_tokens}
use Rattle.clauses.proofs.Tokens.{none_due}

then_assoc : (a b c : Ordering) → then (then a b) c ≡ then a (then b c)
then_assoc Ordering.lt b c = refl
then_assoc Ordering.eq b c = refl
then_assoc Ordering.gt b c = refl

then_none : (a : Ordering) → then a Ordering.eq ≡ a
then_none Ordering.lt = refl
then_none Ordering.eq = refl
then_none Ordering.gt = refl

-- what is due, in numbers
pub due_same : (d m n : ℕ) → m ≡ n → d + m ≡ due d m n
unfolding due
due_same d zero zero e = omega arith
due_same d zero (suc n) e = absurd (omega arith)
due_same d (suc m) zero e = absurd (omega arith)
due_same d (suc m) (suc n) e = omega (arith, due_same d m n (omega arith))

pub due_least : (d m n : ℕ) → (m ≡ n → ⊥) → min m n ≡ due d m n
unfolding due
due_least d zero zero h = absurd (h refl)
due_least d zero (suc n) h = omega arith
due_least d (suc m) zero h = omega arith
due_least d (suc m) (suc n) h = omega (arith, due_least d m n (λ e. h (ap suc e)))

-- terms, and lists of them: those that are due, and then what is due behind
mutual
  unfolding cmp_tokens cmp_term cmp_terms term_code terms_code count due

  term_order : (t u : Term) (x y : List Token) (d : ℕ) (v : Ordering) → cmp_tokens (term_code t ++ x) (term_code u ++ y) (suc d) v ≡ then (cmp_term t u) (cmp_tokens x y d v)
  term_order (var a) (var b) x y d v = refl
  term_order (var a) (con b) x y d v = refl
  term_order (var a) (app g us) x y d v = refl
  term_order (con a) (var b) x y d v = refl
  term_order (con a) (con b) x y d v = refl
  term_order (con a) (app g us) x y d v = refl
  term_order (app f ts) (var b) x y d v = refl
  term_order (app f ts) (con b) x y d v = refl
  term_order (app f ts) (app g us) x y d v = rw (terms_order ts us x y d v) (sym (then_assoc (cmp_name f g) (cmp_terms ts us) (cmp_tokens x y d v)))

  terms_order : (ts us : Terms) (x y : List Token) (d : ℕ) (v : Ordering)
      → cmp_tokens (terms_code ts ++ x) (terms_code us ++ y) (due d (count ts) (count us)) (then (compare (count ts) (count us)) v) ≡ then (cmp_terms ts us) (cmp_tokens x y d v)
  terms_order nil nil x y d v = refl
  terms_order nil (cons u us) x y d v = rw (compare.zero-suc (count us)) (none_due x (terms_code (cons u us) ++ y) Ordering.lt)
  terms_order (cons t ts) nil x y d v = rw (compare.suc-zero (count ts)) (none_due (terms_code (cons t ts) ++ x) y Ordering.gt)
  terms_order (cons t ts) (cons u us) x y d v =
      rw (append_assoc (term_code t) (terms_code ts) x, append_assoc (term_code u) (terms_code us) y, compare.suc-suc (count ts) (count us))
      (term_order t u (terms_code ts ++ x) (terms_code us ++ y) (due d (count ts) (count us)) (then (compare (count ts) (count us)) v)
      ∙ rw (terms_order ts us x y d v) (sym (then_assoc (cmp_term t u) (cmp_terms ts us) (cmp_tokens x y d v))))

pub atom_order : (a b : Atom) (x y : List Token) → cmp_tokens (code (atom_formula a) ++ x) (code (atom_formula b) ++ y) 1 Ordering.eq ≡ cmp_atom a b
unfolding cmp_tokens cmp_atom cmp_terms code terms_code count due cmp_list
atom_order (rel p ts) (rel q us) x y =
    ap (then (cmp_name p q)) (terms_order ts us x y 0 Ordering.eq ∙ rw (none_due x y Ordering.eq) (then_none (cmp_terms ts us)))
atom_order (rel p ts) (same_as t u) x y = refl
atom_order (same_as t u) (rel q us) x y = refl
atom_order (same_as t u) (same_as t' u') x y =
    rw (append_assoc (term_code t) (term_code u) x, append_assoc (term_code t') (term_code u') y)
    (term_order t t' (term_code u ++ x) (term_code u' ++ y) 1 Ordering.eq
    ∙ ap (then (cmp_term t t')) (term_order u u' x y 0 Ordering.eq ∙ rw (none_due x y Ordering.eq) (then_none (cmp_term u u'))))
