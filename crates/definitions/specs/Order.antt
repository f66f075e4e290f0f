-- The order of literals and clauses, which is Rust's derived one: literals positive before negative, predicates before equations, then
-- name, then terms one by one; terms variable, constant, application; names by bytes; a shorter list that is a prefix comes first.
use Rattle.std.specs.Prelude.{List, [], ◌∷◌}
use Prim.Native.Nat.{compare, Ordering}
use Rattle.definitions.specs.Syntax.{Name, Term, var, con, app, Terms, nil, cons}

pub data Atom : Type 0 where
  rel : Name → Terms → Atom
  same_as : Term → Term → Atom

-- a literal: an atom, or an atom's opposite
pub data Literal : Type 0 where
  pos opp : Atom → Literal

abbrev pub Clause : Type 0
Clause = List Literal

abbrev pub then : Ordering → Ordering → Ordering
then Ordering.lt b = Ordering.lt
then Ordering.eq b = b
then Ordering.gt b = Ordering.gt

-- lists: element by element, and a prefix comes first
module _ {A : Type 0} (cmp : A → A → Ordering) where
  unfoldable pub cmp_list : List A → List A → Ordering
  cmp_list [] [] = Ordering.eq
  cmp_list [] (y ∷ b) = Ordering.lt
  cmp_list (x ∷ a) [] = Ordering.gt
  cmp_list (x ∷ a) (y ∷ b) = then (cmp x y) (cmp_list a b)

abbrev pub cmp_name : Name → Name → Ordering
cmp_name a b = cmp_list compare a b

unfoldable mutual
  pub cmp_term : Term → Term → Ordering
  cmp_term (var x) (var y) = cmp_name x y
  cmp_term (var x) (con d) = Ordering.lt
  cmp_term (var x) (app g us) = Ordering.lt
  cmp_term (con c) (var y) = Ordering.gt
  cmp_term (con c) (con d) = cmp_name c d
  cmp_term (con c) (app g us) = Ordering.lt
  cmp_term (app f ts) (var y) = Ordering.gt
  cmp_term (app f ts) (con d) = Ordering.gt
  cmp_term (app f ts) (app g us) = then (cmp_name f g) (cmp_terms ts us)

  pub cmp_terms : Terms → Terms → Ordering
  cmp_terms nil nil = Ordering.eq
  cmp_terms nil (cons u us) = Ordering.lt
  cmp_terms (cons t ts) nil = Ordering.gt
  cmp_terms (cons t ts) (cons u us) = then (cmp_term t u) (cmp_terms ts us)

unfoldable pub cmp_atom : Atom → Atom → Ordering
cmp_atom (rel p ts) (rel q us) = then (cmp_name p q) (cmp_terms ts us)
cmp_atom (rel p ts) (same_as t u) = Ordering.lt
cmp_atom (same_as t u) (rel q us) = Ordering.gt
cmp_atom (same_as t u) (same_as t' u') = then (cmp_term t t') (cmp_term u u')

unfoldable pub cmp_literal : Literal → Literal → Ordering
cmp_literal (pos a) (pos b) = cmp_atom a b
cmp_literal (pos a) (opp b) = Ordering.lt
cmp_literal (opp a) (pos b) = Ordering.gt
cmp_literal (opp a) (opp b) = cmp_atom a b

abbrev pub cmp_clause : Clause → Clause → Ordering
cmp_clause a b = cmp_list cmp_literal a b

-- a set as its sorted list, without repeats
module _ {A : Type 0} (cmp : A → A → Ordering) where
  abbrev pub place : Ordering → A → A → List A → List A → List A
  place Ordering.lt x y l r = x ∷ y ∷ l
  place Ordering.eq x y l r = y ∷ l
  place Ordering.gt x y l r = y ∷ r

  unfoldable pub insert : A → List A → List A
  insert x [] = x ∷ []
  insert x (y ∷ l) = let r = insert x l in place (cmp x y) x y l r

  unfoldable pub set_of : List A → List A
  set_of [] = []
  set_of (x ∷ l) = insert x (set_of l)
