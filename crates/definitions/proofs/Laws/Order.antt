-- The comparisons of names, terms, atoms, literals and clauses are total orders.
-- What that is stands in the record `Orders`; lists have it from their elements, and a pair of things from its two parts (`lead`).
use Rattle.std.specs.Prelude.{◌≡◌}
use Rattle.std.proofs.Math.Path.{refl, ap₂}
use Rattle.std.proofs.Common.{sym, ap, eqb-true}
use mathlib.Core.List.{List, [], ◌∷◌}
use Prim.Native.Nat.compare
use Prim.Native.Nat.{ℕ, zero, suc, compare, Ordering}
use Rattle.definitions.specs.Syntax.{Term, var, con, app, Terms, nil, cons}
use Rattle.definitions.specs.Order.{Atom, rel, same_as, Literal, pos, opp, then, cmp_list, cmp_name, cmp_term, cmp_terms, cmp_atom, cmp_literal, cmp_clause}
use Rattle.definitions.proofs.Laws.Bools.{clash}
use Rattle.definitions.specs.Laws.Order.{Equal, Less, Orders, is_less, swap}

-- it follows that a thing is equal to itself
pub itself : {A : Type 0} {cmp : A → A → Ordering} → Orders cmp → (x : A) → cmp x x ≡ Ordering.eq
itself {cmp = cmp} order x = own (cmp x x) (order.back x x)
  where
    own : (o : Ordering) → o ≡ swap o → o ≡ Ordering.eq
    own Ordering.lt e = clash refl (ap is_less e)
    own Ordering.eq e = refl
    own Ordering.gt e = clash (ap is_less e) refl

-- `then`: the first difference decides
then_left : (a b : Ordering) → Equal (then a b) → Equal a
then_left Ordering.lt b e = e
then_left Ordering.eq b e = refl
then_left Ordering.gt b e = e

then_right : (a b : Ordering) → Equal (then a b) → Equal b
then_right Ordering.lt b e = clash e refl
then_right Ordering.eq b e = e
then_right Ordering.gt b e = clash e refl

then_swap : (a b : Ordering) → then (swap a) (swap b) ≡ swap (then a b)
then_swap Ordering.lt b = refl
then_swap Ordering.eq b = refl
then_swap Ordering.gt b = refl

then_less : (o r : Ordering) → Less o → Less (then o r)
then_less Ordering.lt r h = refl
then_less Ordering.eq r h = clash h refl
then_less Ordering.gt r h = clash h refl

then_trans : (o₁ o₂ o₃ r₁ r₂ r₃ : Ordering) → (Less o₁ → Less o₂ → Less o₃) → (Equal o₁ → o₃ ≡ o₂) → (Equal o₂ → o₃ ≡ o₁) → (Less r₁ → Less r₂ → Less r₃)
    → Less (then o₁ r₁) → Less (then o₂ r₂) → Less (then o₃ r₃)
then_trans Ordering.lt Ordering.lt o₃ r₁ r₂ r₃ t a b u p q = then_less o₃ r₃ (t refl refl)
then_trans Ordering.lt Ordering.eq o₃ r₁ r₂ r₃ t a b u p q = rw (b refl)
then_trans Ordering.lt Ordering.gt o₃ r₁ r₂ r₃ t a b u p q = clash q refl
then_trans Ordering.eq Ordering.lt o₃ r₁ r₂ r₃ t a b u p q = rw (a refl)
then_trans Ordering.eq Ordering.eq o₃ r₁ r₂ r₃ t a b u p q = rw (a refl) (u p q)
then_trans Ordering.eq Ordering.gt o₃ r₁ r₂ r₃ t a b u p q = clash q refl
then_trans Ordering.gt o₂ o₃ r₁ r₂ r₃ t a b u p q = clash p refl

-- numbers
pub compare_orders : Orders compare
compare_orders = record { equal = λ x y e. eqb-true x y e; back = back; trans = trans }
  where
    back : (m n : ℕ) → compare n m ≡ swap (compare m n)
    back zero zero = rw compare.zero-zero
    back zero (suc n) = rw (compare.zero-suc n, compare.suc-zero n)
    back (suc m) zero = rw (compare.zero-suc m, compare.suc-zero m)
    back (suc m) (suc n) = rw (compare.suc-suc n m, compare.suc-suc m n) (back m n)

    trans : (l m n : ℕ) → Less (compare l m) → Less (compare m n) → Less (compare l n)
    trans zero zero n p q = q
    trans zero (suc m) zero p q = clash (rw (compare.suc-zero m) at q) refl
    trans zero (suc m) (suc n) p q = rw (compare.zero-suc n)
    trans (suc l) zero n p q = clash (rw (compare.suc-zero l) at p) refl
    trans (suc l) (suc m) zero p q = clash (rw (compare.suc-zero m) at q) refl
    trans (suc l) (suc m) (suc n) p q = rw (compare.suc-suc l n) (trans l m n (rw (compare.suc-suc l m) at p) (rw (compare.suc-suc m n) at q))

-- where the first parts are ordered, and the rest too
module _ {A : Type 0} {cmp : A → A → Ordering} (order : Orders cmp) where
  lead : (x y z : A) (r₁ r₂ r₃ : Ordering) → (Less r₁ → Less r₂ → Less r₃) → Less (then (cmp x y) r₁) → Less (then (cmp y z) r₂) → Less (then (cmp x z) r₃)
  lead x y z r₁ r₂ r₃ u p q =
      then_trans (cmp x y) (cmp y z) (cmp x z) r₁ r₂ r₃ (order.trans x y z) (λ e. rw (order.equal x y e)) (λ e. rw (order.equal y z e)) u p q

  list_equal : (a b : List A) → Equal (cmp_list cmp a b) → a ≡ b
  unfolding cmp_list
  list_equal [] [] e = refl
  list_equal [] (y ∷ b) e = clash e refl
  list_equal (x ∷ a) [] e = clash e refl
  list_equal (x ∷ a) (y ∷ b) e =
      ap₂ (◌∷◌) (order.equal x y (then_left (cmp x y) (cmp_list cmp a b) e)) (list_equal a b (then_right (cmp x y) (cmp_list cmp a b) e))

  list_back : (a b : List A) → cmp_list cmp b a ≡ swap (cmp_list cmp a b)
  unfolding cmp_list
  list_back [] [] = refl
  list_back [] (y ∷ b) = refl
  list_back (x ∷ a) [] = refl
  list_back (x ∷ a) (y ∷ b) = rw (order.back x y, list_back a b) (then_swap (cmp x y) (cmp_list cmp a b))

  list_trans : (a b c : List A) → Less (cmp_list cmp a b) → Less (cmp_list cmp b c) → Less (cmp_list cmp a c)
  unfolding cmp_list
  list_trans [] [] c p q = q
  list_trans [] (y ∷ b) [] p q = clash q refl
  list_trans [] (y ∷ b) (z ∷ c) p q = refl
  list_trans (x ∷ a) [] c p q = clash p refl
  list_trans (x ∷ a) (y ∷ b) [] p q = clash q refl
  list_trans (x ∷ a) (y ∷ b) (z ∷ c) p q = lead x y z (cmp_list cmp a b) (cmp_list cmp b c) (cmp_list cmp a c) (list_trans a b c) p q

  pub list_orders : Orders (cmp_list cmp)
  list_orders = record { equal = list_equal; back = list_back; trans = list_trans }

pub name_orders : Orders cmp_name
name_orders = list_orders compare_orders

-- terms and their lists
mutual
  unfolding cmp_term cmp_terms

  term_equal : (t u : Term) → Equal (cmp_term t u) → t ≡ u
  term_equal (var x) (var y) e = ap var (name_orders.equal x y e)
  term_equal (var x) (con d) e = clash e refl
  term_equal (var x) (app g us) e = clash e refl
  term_equal (con c) (var y) e = clash e refl
  term_equal (con c) (con d) e = ap con (name_orders.equal c d e)
  term_equal (con c) (app g us) e = clash e refl
  term_equal (app f ts) (var y) e = clash e refl
  term_equal (app f ts) (con d) e = clash e refl
  term_equal (app f ts) (app g us) e =
      ap₂ app (name_orders.equal f g (then_left (cmp_name f g) (cmp_terms ts us) e)) (terms_equal ts us (then_right (cmp_name f g) (cmp_terms ts us) e))

  terms_equal : (ts us : Terms) → Equal (cmp_terms ts us) → ts ≡ us
  terms_equal nil nil e = refl
  terms_equal nil (cons u us) e = clash e refl
  terms_equal (cons t ts) nil e = clash e refl
  terms_equal (cons t ts) (cons u us) e =
      ap₂ cons (term_equal t u (then_left (cmp_term t u) (cmp_terms ts us) e)) (terms_equal ts us (then_right (cmp_term t u) (cmp_terms ts us) e))

mutual
  unfolding cmp_term cmp_terms

  term_back : (t u : Term) → cmp_term u t ≡ swap (cmp_term t u)
  term_back (var x) (var y) = name_orders.back x y
  term_back (var x) (con d) = refl
  term_back (var x) (app g us) = refl
  term_back (con c) (var y) = refl
  term_back (con c) (con d) = name_orders.back c d
  term_back (con c) (app g us) = refl
  term_back (app f ts) (var y) = refl
  term_back (app f ts) (con d) = refl
  term_back (app f ts) (app g us) = rw (name_orders.back f g, terms_back ts us) (then_swap (cmp_name f g) (cmp_terms ts us))

  terms_back : (ts us : Terms) → cmp_terms us ts ≡ swap (cmp_terms ts us)
  terms_back nil nil = refl
  terms_back nil (cons u us) = refl
  terms_back (cons t ts) nil = refl
  terms_back (cons t ts) (cons u us) = rw (term_back t u, terms_back ts us) (then_swap (cmp_term t u) (cmp_terms ts us))

mutual
  unfolding cmp_term cmp_terms

  term_trans : (t u v : Term) → Less (cmp_term t u) → Less (cmp_term u v) → Less (cmp_term t v)
  term_trans (var x) (var y) (var z) p q = name_orders.trans x y z p q
  term_trans (var x) (var y) (con e) p q = refl
  term_trans (var x) (var y) (app h vs) p q = refl
  term_trans (var x) (con d) (var z) p q = clash q refl
  term_trans (var x) (con d) (con e) p q = refl
  term_trans (var x) (con d) (app h vs) p q = refl
  term_trans (var x) (app g us) (var z) p q = clash q refl
  term_trans (var x) (app g us) (con e) p q = clash q refl
  term_trans (var x) (app g us) (app h vs) p q = refl
  term_trans (con c) (var y) v p q = clash p refl
  term_trans (con c) (con d) (var z) p q = clash q refl
  term_trans (con c) (con d) (con e) p q = name_orders.trans c d e p q
  term_trans (con c) (con d) (app h vs) p q = refl
  term_trans (con c) (app g us) (var z) p q = clash q refl
  term_trans (con c) (app g us) (con e) p q = clash q refl
  term_trans (con c) (app g us) (app h vs) p q = refl
  term_trans (app f ts) (var y) v p q = clash p refl
  term_trans (app f ts) (con d) v p q = clash p refl
  term_trans (app f ts) (app g us) (var z) p q = clash q refl
  term_trans (app f ts) (app g us) (con e) p q = clash q refl
  term_trans (app f ts) (app g us) (app h vs) p q =
      lead name_orders f g h (cmp_terms ts us) (cmp_terms us vs) (cmp_terms ts vs) (λ a b. terms_trans ts us vs a b) p q

  terms_trans : (ts us vs : Terms) → Less (cmp_terms ts us) → Less (cmp_terms us vs) → Less (cmp_terms ts vs)
  terms_trans nil nil vs p q = q
  terms_trans nil (cons u us) nil p q = clash q refl
  terms_trans nil (cons u us) (cons v vs) p q = refl
  terms_trans (cons t ts) nil vs p q = clash p refl
  terms_trans (cons t ts) (cons u us) nil p q = clash q refl
  terms_trans (cons t ts) (cons u us) (cons v vs) p q =
      then_trans (cmp_term t u) (cmp_term u v) (cmp_term t v) (cmp_terms ts us) (cmp_terms us vs) (cmp_terms ts vs) (λ a b. term_trans t u v a b)
      (λ e. ap (λ w. cmp_term w v) (term_equal t u e)) (λ e. ap (λ w. cmp_term t w) (sym (term_equal u v e))) (λ a b. terms_trans ts us vs a b) p q

pub term_orders : Orders cmp_term
term_orders = record { equal = term_equal; back = term_back; trans = term_trans }

pub terms_orders : Orders cmp_terms
terms_orders = record { equal = terms_equal; back = terms_back; trans = terms_trans }

pub atom_orders : Orders cmp_atom
unfolding cmp_atom
atom_orders = record { equal = equal; back = back; trans = trans }
  where
    equal : (a b : Atom) → Equal (cmp_atom a b) → a ≡ b
    equal (rel p ts) (rel q us) e =
        ap₂ rel (name_orders.equal p q (then_left (cmp_name p q) (cmp_terms ts us) e)) (terms_equal ts us (then_right (cmp_name p q) (cmp_terms ts us) e))
    equal (rel p ts) (same_as t u) e = clash e refl
    equal (same_as t u) (rel q us) e = clash e refl
    equal (same_as t u) (same_as t' u') e =
        ap₂ same_as (term_equal t t' (then_left (cmp_term t t') (cmp_term u u') e)) (term_equal u u' (then_right (cmp_term t t') (cmp_term u u') e))

    back : (a b : Atom) → cmp_atom b a ≡ swap (cmp_atom a b)
    back (rel p ts) (rel q us) = rw (name_orders.back p q, terms_back ts us) (then_swap (cmp_name p q) (cmp_terms ts us))
    back (rel p ts) (same_as t u) = refl
    back (same_as t u) (rel q us) = refl
    back (same_as t u) (same_as t' u') = rw (term_back t t', term_back u u') (then_swap (cmp_term t t') (cmp_term u u'))

    trans : (a b c : Atom) → Less (cmp_atom a b) → Less (cmp_atom b c) → Less (cmp_atom a c)
    trans (rel p ts) (rel p' ts') (rel p'' ts'') h k =
        lead name_orders p p' p'' (cmp_terms ts ts') (cmp_terms ts' ts'') (cmp_terms ts ts'') (terms_trans ts ts' ts'') h k
    trans (rel p ts) (rel p' ts') (same_as t'' u'') h k = refl
    trans (rel p ts) (same_as t' u') (rel p'' ts'') h k = clash k refl
    trans (rel p ts) (same_as t' u') (same_as t'' u'') h k = refl
    trans (same_as t u) (rel p' ts') c h k = clash h refl
    trans (same_as t u) (same_as t' u') (rel p'' ts'') h k = clash k refl
    trans (same_as t u) (same_as t' u') (same_as t'' u'') h k =
        lead term_orders t t' t'' (cmp_term u u') (cmp_term u' u'') (cmp_term u u'') (term_trans u u' u'') h k

pub literal_orders : Orders cmp_literal
unfolding cmp_literal
literal_orders = record { equal = equal; back = back; trans = trans }
  where
    equal : (a b : Literal) → Equal (cmp_literal a b) → a ≡ b
    equal (pos a) (pos b) e = ap pos (atom_orders.equal a b e)
    equal (pos a) (opp b) e = clash e refl
    equal (opp a) (pos b) e = clash e refl
    equal (opp a) (opp b) e = ap opp (atom_orders.equal a b e)

    back : (a b : Literal) → cmp_literal b a ≡ swap (cmp_literal a b)
    back (pos a) (pos b) = atom_orders.back a b
    back (pos a) (opp b) = refl
    back (opp a) (pos b) = refl
    back (opp a) (opp b) = atom_orders.back a b

    trans : (a b c : Literal) → Less (cmp_literal a b) → Less (cmp_literal b c) → Less (cmp_literal a c)
    trans (pos a) (pos b) (pos c) h k = atom_orders.trans a b c h k
    trans (pos a) (pos b) (opp c) h k = refl
    trans (pos a) (opp b) (pos c) h k = clash k refl
    trans (pos a) (opp b) (opp c) h k = refl
    trans (opp a) (pos b) c h k = clash h refl
    trans (opp a) (opp b) (pos c) h k = clash k refl
    trans (opp a) (opp b) (opp c) h k = atom_orders.trans a b c h k

pub clause_orders : Orders cmp_clause
clause_orders = list_orders literal_orders
