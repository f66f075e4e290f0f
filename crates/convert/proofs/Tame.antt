-- Which variables and functions the forms have: what the tests of the stages say, and what stage 3 keeps of it.
use mathlib.Core.Path.{◌≡◌, refl, ap, ◌∙◌}
use mathlib.Core.Bool.{Bool, true, not, ◌&&◌}
use mathlib.Core.List.{List, [], ◌∷◌, ◌++◌}
use Prim.Native.Nat.{ℕ, suc, ◌≤◌}
use native.Mathlib.Omega.{arith}
use lib.Dec.{leb}
use borrow.Author.Tests.{le-leb}
use Rattle.definitions.specs.Bytes.{same}
use Rattle.definitions.specs.Syntax.{Name, Term, var, con, app, Terms, nil, cons, count, all, ex, Formula, top, bot, pred, eq, neg, bin, blk}
use Rattle.definitions.specs.Names.{mem, filter, without, union, term_vars, terms_vars, free, bound, term_widest, terms_widest, widest}
use Rattle.definitions.specs.Truth.{every}
use Rattle.definitions.specs.Prenex.{Subst, shade, term_sub, terms_sub, sub, Prefix, plain, more, Prenex, close, formula, shades}
use Rattle.definitions.specs.Skolem.{Counts, skolem_term, as_vars, put, arguments, skolem, skolemise, skolem_formula, first_number}
use Rattle.definitions.proofs.Laws.Bools.{by_cases, and_both, and_true_left, and_true_right, clash}
use Rattle.definitions.proofs.Laws.Sets.{same_eq}
use Rattle.definitions.specs.Laws.Kept.{term_each, terms_each, each}
use Rattle.definitions.proofs.Laws.Kept.{every_append, every_filter, variables_each}

abbrev any : ℕ → Bool
any n = true

module _ (p : Name → Bool) where
  every_left : (a b : List Name) → every p (a ++ b) ≡ true → every p a ≡ true
  unfolding every
  every_left [] b h = refl
  every_left (x ∷ a) b h = and_both (and_true_left (p x) (every p (a ++ b)) h) (every_left a b (and_true_right (p x) (every p (a ++ b)) h))

  every_right : (a b : List Name) → every p (a ++ b) ≡ true → every p b ≡ true
  unfolding every
  every_right [] b h = h
  every_right (x ∷ a) b h = every_right a b (and_true_right (p x) (every p (a ++ b)) h)

  every_mem : (x : Name) (l : List Name) → mem x l ≡ true → every p l ≡ true → p x ≡ true
  unfolding every mem
  every_mem x [] m h = clash m refl
  every_mem x (y ∷ l) m h =
      by_cases (same x y) (λ t. ap p (same_eq x y t) ∙ and_true_left (p y) (every p l) h)
      (λ f. every_mem x l (let k = m in rw f at k) (and_true_right (p y) (every p l) h))

  -- what a list has beside others that pass
  every_back : (vs l : List Name) → every p vs ≡ true → every p (without vs l) ≡ true → every p l ≡ true
  unfolding every filter
  every_back vs [] h k = refl
  every_back vs (x ∷ l) h k =
      by_cases (mem x vs) (λ t. and_both (every_mem x vs t h) (every_back vs l h (let j = k in rw t at j)))
      (λ f. let j : (p x && every p (without vs l)) ≡ true = (let i = k in rw f at i) in
      and_both (and_true_left (p x) (every p (without vs l)) j) (every_back vs l h (and_true_right (p x) (every p (without vs l)) j)))

  every_union : (a b : List Name) → every p (union a b) ≡ true → every p b ≡ true
  every_union a b h = every_back a b (every_left a (without a b) h) (every_right a (without a b) h)

  -- the free and the bound variables are all that a formula has
  mutual
    unfolding term_each terms_each term_vars terms_vars every

    term_tame : (t : Term) → every p (term_vars t) ≡ true → term_each p any t ≡ true
    term_tame (var x) h = and_true_left (p x) true h
    term_tame (con c) h = refl
    term_tame (app f ts) h = terms_tame ts h

    terms_tame : (ts : Terms) → every p (terms_vars ts) ≡ true → terms_each p any ts ≡ true
    terms_tame nil h = refl
    terms_tame (cons t ts) h =
        and_both (term_tame t (every_left (term_vars t) (without (term_vars t) (terms_vars ts)) h)) (terms_tame ts (every_union (term_vars t) (terms_vars ts) h))

  tame : (f : Formula) → every p (bound f) ≡ true → every p (free f) ≡ true → each p any f ≡ true
  unfolding each bound free
  tame top b h = refl
  tame bot b h = refl
  tame (pred q ts) b h = terms_tame ts h
  tame (eq t u) b h = and_both (term_tame t (every_left (term_vars t) (without (term_vars t) (term_vars u)) h)) (term_tame u (every_union (term_vars t) (term_vars u) h))
  tame (neg f) b h = tame f b h
  tame (bin o f g) b h =
      and_both (tame f (every_left (bound f) (bound g) b) (every_left (free f) (without (free f) (free g)) h)) (tame g (every_right (bound f) (bound g) b) (every_union (free f) (free g) h))
  tame (blk q vs f) b h =
      let v = every_left vs (bound f) b in
      and_both v (tame f (every_right vs (bound f) b) (every_back vs (free f) v h))

  pub tame_from : (f : Formula) → every p (bound f ++ free f) ≡ true → each p any f ≡ true
  tame_from f h = tame f (every_left (bound f) (free f) h) (every_right (bound f) (free f) h)

  -- and none of its functions is wider than the widest
  module _ (n : ℕ) where
    mutual
      unfolding term_each terms_each term_widest terms_widest

      term_narrow : (t : Term) → term_each p any t ≡ true → term_widest t ≤ n → term_each p (λ (k : ℕ). leb k n) t ≡ true
      term_narrow (var x) h w = h
      term_narrow (con c) h w = refl
      term_narrow (app f ts) h w = and_both (le-leb (count ts) n (omega arith)) (terms_narrow ts h (omega arith))

      terms_narrow : (ts : Terms) → terms_each p any ts ≡ true → terms_widest ts ≤ n → terms_each p (λ (k : ℕ). leb k n) ts ≡ true
      terms_narrow nil h w = refl
      terms_narrow (cons t ts) h w =
          and_both (term_narrow t (and_true_left (term_each p any t) (terms_each p any ts) h) (omega arith)) (terms_narrow ts (and_true_right (term_each p any t) (terms_each p any ts) h) (omega arith))

    pub narrow_from : (f : Formula) → each p any f ≡ true → widest f ≤ n → each p (λ (k : ℕ). leb k n) f ≡ true
    unfolding each widest
    narrow_from top h w = refl
    narrow_from bot h w = refl
    narrow_from (pred q ts) h w = terms_narrow ts h w
    narrow_from (eq t u) h w =
        and_both (term_narrow t (and_true_left (term_each p any t) (term_each p any u) h) (omega arith)) (term_narrow u (and_true_right (term_each p any t) (term_each p any u) h) (omega arith))
    narrow_from (neg f) h w = narrow_from f h w
    narrow_from (bin o f g) h w =
        and_both (narrow_from f (and_true_left (each p any f) (each p any g) h) (omega arith)) (narrow_from g (and_true_right (each p any f) (each p any g) h) (omega arith))
    narrow_from (blk q vs f) h w = and_both (and_true_left (every p vs) (each p any f) h) (narrow_from f (and_true_right (every p vs) (each p any f) h) w)

  -- terms of passing variables put for passing variables
  abbrev Keeping : Subst → Type 0
  Keeping s = (x : Name) → p x ≡ true → term_each p any (s x) ≡ true

  shade_keeping : (vs : List Name) (s : Subst) → Keeping s → Keeping (shade vs s)
  unfolding term_each
  shade_keeping vs s k x h = by_cases (mem x vs) (λ t. rw t h) (λ f. rw f (k x h))

  mutual
    unfolding term_each terms_each term_sub terms_sub

    term_sub_tame : (t : Term) (s : Subst) → Keeping s → term_each p any t ≡ true → term_each p any (term_sub s t) ≡ true
    term_sub_tame (var x) s k h = k x h
    term_sub_tame (con c) s k h = refl
    term_sub_tame (app f ts) s k h = terms_sub_tame ts s k h

    terms_sub_tame : (ts : Terms) (s : Subst) → Keeping s → terms_each p any ts ≡ true → terms_each p any (terms_sub s ts) ≡ true
    terms_sub_tame nil s k h = refl
    terms_sub_tame (cons t ts) s k h =
        and_both (term_sub_tame t s k (and_true_left (term_each p any t) (terms_each p any ts) h)) (terms_sub_tame ts s k (and_true_right (term_each p any t) (terms_each p any ts) h))

  sub_tame : (f : Formula) (s : Subst) → Keeping s → each p any f ≡ true → each p any (sub s f) ≡ true
  unfolding each sub
  sub_tame top s k h = refl
  sub_tame bot s k h = refl
  sub_tame (pred q ts) s k h = terms_sub_tame ts s k h
  sub_tame (eq t u) s k h =
      and_both (term_sub_tame t s k (and_true_left (term_each p any t) (term_each p any u) h)) (term_sub_tame u s k (and_true_right (term_each p any t) (term_each p any u) h))
  sub_tame (neg f) s k h = sub_tame f s k h
  sub_tame (bin o f g) s k h = and_both (sub_tame f s k (and_true_left (each p any f) (each p any g) h)) (sub_tame g s k (and_true_right (each p any f) (each p any g) h))
  sub_tame (blk q vs f) s k h =
      and_both (and_true_left (every p vs) (each p any f) h) (sub_tame f (shade vs s) (shade_keeping vs s k) (and_true_right (every p vs) (each p any f) h))

  close_sub : (r : Prefix) (m : Formula) (s : Subst) → Keeping s → each p any (close r m) ≡ true → each p any (close r (sub (shades r s) m)) ≡ true
  unfolding each close shades
  close_sub plain m s k h = sub_tame m s k h
  close_sub (more q vs r) m s k h =
      and_both (and_true_left (every p vs) (each p any (close r m)) h) (close_sub r m (shade vs s) (shade_keeping vs s k) (and_true_right (every p vs) (each p any (close r m)) h))

  as_vars_tame : (l : List Name) → every p l ≡ true → terms_each p any (as_vars l) ≡ true
  unfolding every terms_each term_each as_vars
  as_vars_tame [] h = refl
  as_vars_tame (x ∷ l) h = and_both (and_true_left (p x) (every p l) h) (as_vars_tame l (and_true_right (p x) (every p l) h))

  term_of : (args : List Name) (k : ℕ) → every p args ≡ true → term_each p any (skolem_term args k) ≡ true
  unfolding term_each
  term_of [] k h = refl
  term_of (a ∷ l) k h = as_vars_tame (a ∷ l) h

  put_keeping : (vs args : List Name) (k : ℕ) → every p args ≡ true → Keeping (put vs (skolem_term args) k)
  unfolding put term_each
  put_keeping [] args k h x e = e
  put_keeping (v ∷ vs) args k h x e =
      by_cases (mem x vs) (λ t. rw t (put_keeping vs args (suc k) h x e)) (λ f. rw f (by_cases (same x v) (λ t. rw t (term_of args k h)) (λ g. rw g e)))

  -- stage 3 has the variables of the prenex form
  skolem_keeps : (r : Prefix) (m : Formula) (scope : List Name) (k : Counts) → each p any (close r m) ≡ true → every p scope ≡ true
      → each p any (skolem_formula (skolem r m scope k)) ≡ true
  unfolding skolem each close
  skolem_keeps plain m scope k h e = h
  skolem_keeps (more all vs r) m scope k h e =
      let v = and_true_left (every p vs) (each p any (close r m)) h in
      and_both v (skolem_keeps r m (without vs scope ++ vs) k (and_true_right (every p vs) (each p any (close r m)) h) (every_append p any (without vs scope) vs (every_filter p any (λ x. not (mem x vs)) scope e) v))
  skolem_keeps (more ex vs r) m scope k h e =
      let args = arguments vs r scope in
      let s = put vs (skolem_term args) (first_number args k) in
      let w = every_filter p any (λ x. not (mem x vs)) scope e in
      let good = put_keeping vs args (first_number args k) (every_filter p any _ (without vs scope) w) in
      skolem_keeps r (sub (shades r s) m) (without vs scope) _ (close_sub r m s good (and_true_right (every p vs) (each p any (close r m)) h)) w

  pub skolemise_tame : (q : Prenex) (k : Counts) → each p any (formula q) ≡ true → each p any (skolem_formula (skolemise q k)) ≡ true
  unfolding skolemise
  skolemise_tame q k h = skolem_keeps q.prefix q.matrix (free (formula q)) k h (every_right (bound (formula q)) (free (formula q)) (variables_each p any (formula q) h))

-- the matrix of a formula with its blocks
pub matrix_each : (p : Name → Bool) (w : ℕ → Bool) (r : Prefix) (m : Formula) → each p w (close r m) ≡ true → each p w m ≡ true
unfolding each close
matrix_each p w plain m h = h
matrix_each p w (more q vs r) m h = matrix_each p w r m (and_true_right (every p vs) (each p w (close r m)) h)
