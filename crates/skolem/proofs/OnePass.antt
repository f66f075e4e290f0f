-- The definition puts terms in block by block. In one pass each variable gets the term of the last block that binds it: what a block puts
-- in has only variables that no later block binds, so the later blocks leave it as it is.
use mathlib.Core.Path.{◌≡◌, refl, sym, ap, ap₂, ◌∙◌}
use mathlib.Core.Bool.{Bool, true, false, not, ◌||◌, cond}
use mathlib.Core.List.{List, [], ◌∷◌, ◌++◌, map, flat_map, append-nil}
use Prim.Native.Nat.{ℕ, suc}
use lib.ListN.{length}
use Rattle.definitions.specs.Syntax.{Name, Term, var, con, app, Terms, nil, cons, count, all, ex, Formula, top, bot, pred, eq, neg, bin, blk}
use Rattle.definitions.specs.Names.{mem, filter, without}
use Rattle.definitions.specs.Prenex.{Subst, shade, term_sub, terms_sub, sub, Prefix, plain, more, shades, no_block}
use Rattle.definitions.specs.Skolem.{Counts, function_name, first_number, counts_after, as_vars, skolem_term, put, binders, skolem}
use Rattle.definitions.proofs.Laws.Bools.{by_cases, clash, and_true_left, and_true_right, or_false_left, or_false_right}
use Rattle.definitions.proofs.Laws.Sets.{mem_append}
use Rattle.definitions.specs.Laws.Drawn.{last}
use Rattle.definitions.proofs.Laws.Drawn.{put_at, put_else}
use Rattle.definitions.proofs.Laws.Prenex.{sub_no_block}
use Rattle.text.specs.Words.{Token, var_token, sign, term_code, terms_code, op_kind, code}
use Rattle.skolem.proofs.Lists.{filter_append, without_twice, flat_append, flat_same, flat_flat}

-- what stands in a variable's place, by its token
abbrev pub on : (Name → List Token) → Token → List Token
on f (var_token x) = f x
on f (sign k n s) = sign k n s ∷ []

abbrev pub spread : (Name → List Token) → List Token → List Token
spread f l = flat_map (on f) l

module _ (s : Subst) where
  abbrev by : Name → List Token
  by x = term_code (s x)

  same_count : (ts : Terms) → count (terms_sub s ts) ≡ count ts
  unfolding terms_sub count
  same_count nil = refl
  same_count (cons t ts) = ap suc (same_count ts)

  mutual
    unfolding term_code terms_code term_sub terms_sub flat_map

    term_spread : (t : Term) → term_code (term_sub s t) ≡ spread by (term_code t)
    term_spread (var x) = sym (append-nil (by x))
    term_spread (con c) = refl
    term_spread (app f ts) = ap₂ (λ (n : ℕ) (l : List Token). sign 11 n f ∷ l) (same_count ts) (terms_spread ts)

    terms_spread : (ts : Terms) → terms_code (terms_sub s ts) ≡ spread by (terms_code ts)
    terms_spread nil = refl
    terms_spread (cons t ts) =
        ap₂ (◌++◌) (term_spread t) (terms_spread ts) ∙ sym (flat_append (on by) (term_code t) (terms_code ts))

  -- the tokens of a matrix with terms put in
  pub code_spread : (f : Formula) → no_block f ≡ true → code (sub s f) ≡ spread by (code f)
  unfolding code sub no_block flat_map
  code_spread top n = refl
  code_spread bot n = refl
  code_spread (pred p ts) n = ap₂ (λ (k : ℕ) (l : List Token). sign 10 k p ∷ l) (same_count ts) (terms_spread ts)
  code_spread (eq t u) n =
      ap (sign 7 0 [] ∷◌) (ap₂ (◌++◌) (term_spread t) (term_spread u) ∙ sym (flat_append (on by) (term_code t) (term_code u)))
  code_spread (neg f) n = ap (sign 2 0 [] ∷◌) (code_spread f n)
  code_spread (bin o f g) n =
      ap (sign (op_kind o) 0 [] ∷◌) (ap₂ (◌++◌) (code_spread f (and_true_left (no_block f) (no_block g) n)) (code_spread g (and_true_right (no_block f) (no_block g) n))
      ∙ sym (flat_append (on by) (code f) (code g)))
  code_spread (blk q vs f) n = clash n refl

-- The term of each variable, where g is what of the scope no block of the prefix binds.
unfoldable pub terms : Prefix → List Name → Counts → Subst
terms plain g k x = var x
terms (more all vs p) g k x = terms p (g ++ without (binders p) vs) k x
terms (more ex vs p) g k x =
    cond (mem x (binders p)) (terms p g (counts_after g (length vs) k) x) (put vs (skolem_term g) (first_number g k) x)

unfoldable pub counts : Prefix → List Name → Counts → Counts
counts plain g k = k
counts (more all vs p) g k = counts p (g ++ without (binders p) vs) k
counts (more ex vs p) g k = counts p g (counts_after g (length vs) k)

-- the forall blocks
unfoldable pub foralls : Prefix → Prefix
foralls plain = plain
foralls (more all vs p) = more all vs (foralls p)
foralls (more ex vs p) = foralls p

pub terms_else : (p : Prefix) (g : List Name) (k : Counts) (x : Name) → mem x (binders p) ≡ false → terms p g k x ≡ var x
unfolding terms binders
terms_else plain g k x n = refl
terms_else (more all vs p) g k x n =
    terms_else p (g ++ without (binders p) vs) k x (or_false_right (mem x vs) (mem x (binders p)) (sym (mem_append x vs (binders p)) ∙ n))
terms_else (more ex vs p) g k x n =
    let e = sym (mem_append x vs (binders p)) ∙ n in
    rw (or_false_right (mem x vs) (mem x (binders p)) e) (put_else vs (skolem_term g) (first_number g k) x (or_false_left (mem x vs) (mem x (binders p)) e))

-- the scope behind a block
all_scope : (vs : List Name) (p : Prefix) (scope : List Name)
    → without (binders p) (without vs scope ++ vs) ≡ without (vs ++ binders p) scope ++ without (binders p) vs
all_scope vs p scope =
    filter_append (λ x. not (mem x (binders p))) (without vs scope) vs ∙ rw (without_twice vs (binders p) scope)

shades_at : (p : Prefix) (s : Subst) (x : Name) → shades p s x ≡ cond (mem x (binders p)) (var x) (s x)
unfolding shades binders mem
shades_at plain s x = refl
shades_at (more q vs p) s x = shades_at p (shade vs s) x ∙ rw (mem_append x vs (binders p)) (go (mem x (binders p)) (mem x vs))
  where
    go : (a b : Bool) → cond a (var x) (cond b (var x) (s x)) ≡ cond (b || a) (var x) (s x)
    go true true = refl
    go true false = refl
    go false true = refl
    go false false = refl

pub as_vars_code : (l : List Name) → terms_code (as_vars l) ≡ map var_token l
unfolding as_vars terms_code term_code
as_vars_code [] = refl
as_vars_code (a ∷ l) = ap (var_token a ∷◌) (as_vars_code l)

-- what no later block binds stays
module _ (b : List Name) (f : Name → List Token) (h : (x : Name) → mem x b ≡ false → f x ≡ var_token x ∷ []) where
  args_stay : (l : List Name) → spread f (map var_token (without b l)) ≡ map var_token (without b l)
  unfolding filter flat_map
  args_stay [] = refl
  args_stay (x ∷ l) =
      by_cases (mem x b) (λ t. rw t (args_stay l)) (λ n. rw (n, h x n) (ap (var_token x ∷◌) (args_stay l)))

  term_stays : (g : List Name) (j : ℕ) → spread f (map var_token g) ≡ map var_token g → spread f (term_code (skolem_term g j)) ≡ term_code (skolem_term g j)
  unfolding term_code flat_map
  term_stays [] j e = refl
  term_stays (a ∷ l) j e = rw (as_vars_code (a ∷ l)) (ap (sign 11 (count (as_vars (a ∷ l))) (function_name j) ∷◌) e)

-- one block and then those behind it
put_stays : (vs : List Name) (p : Prefix) (scope : List Name) (k : Counts) (x : Name)
    → let g = without (binders p) scope in
    spread (λ y. term_code (terms p g (counts_after g (length vs) k) y)) (term_code (shades p (put vs (skolem_term g) (first_number g k)) x))
    ≡ term_code (terms (more ex vs p) g k x)
unfolding terms flat_map term_code
put_stays vs p scope k x =
    let g = without (binders p) scope in
    let f : Name → List Token = λ y. term_code (terms p g (counts_after g (length vs) k) y) in
    let s = put vs (skolem_term g) (first_number g k) in
    rw (shades_at p s x) (by_cases (mem x (binders p))
    (λ t. rw t (append-nil (f x)))
    (λ n. rw n (by_cases (mem x vs)
    (λ t. rw (put_at vs (skolem_term g) (first_number g k) x t) (term_stays (binders p) f (later p g k (length vs)) g (last vs (first_number g k) x) (args_stay (binders p) f (later p g k (length vs)) scope)))
    (λ e. rw (put_else vs (skolem_term g) (first_number g k) x e, terms_else p g (counts_after g (length vs) k) x n)))))
  where
    later : (p : Prefix) (g : List Name) (k : Counts) (n : ℕ) (x : Name) → mem x (binders p) ≡ false → term_code (terms p g (counts_after g n k) x) ≡ var_token x ∷ []
    later p g k n x e = rw (terms_else p g (counts_after g n k) x e)

-- the same token by token
each_stays : (vs : List Name) (p : Prefix) (scope : List Name) (k : Counts) (t : Token)
    → let g = without (binders p) scope in
    flat_map (on (λ y. term_code (terms p g (counts_after g (length vs) k) y))) (on (λ x. term_code (shades p (put vs (skolem_term g) (first_number g k)) x)) t)
    ≡ on (λ x. term_code (terms (more ex vs p) g k x)) t
unfolding flat_map
each_stays vs p scope k (var_token x) = put_stays vs p scope k x
each_stays vs p scope k (sign j n s) = refl

all_stay : (l : List Token) → spread (λ x. var_token x ∷ []) l ≡ l
unfolding flat_map
all_stay [] = refl
all_stay (var_token x ∷ l) = ap (var_token x ∷◌) (all_stay l)
all_stay (sign j c s ∷ l) = ap (sign j c s ∷◌) (all_stay l)

pub matrix_once : (p : Prefix) (m : Formula) (scope : List Name) (k : Counts) → no_block m ≡ true
    → code (skolem p m scope k).matrix ≡ spread (λ x. term_code (terms p (without (binders p) scope) k x)) (code m)
unfolding skolem binders terms term_code
matrix_once plain m scope k n = sym (all_stay (code m))
matrix_once (more all vs p) m scope k n = matrix_once p m (without vs scope ++ vs) k n ∙ rw (all_scope vs p scope)
matrix_once (more ex vs p) m scope k n =
    let g = without (binders p) (without vs scope) in
    let s = put vs (skolem_term g) (first_number g k) in
    let f : Name → List Token = λ y. term_code (terms p g (counts_after g (length vs) k) y) in
    rw (← without_twice vs (binders p) scope) (
    matrix_once p (sub (shades p s) m) (without vs scope) (counts_after g (length vs) k) (sub_no_block (shades p s) m ∙ n)
    ∙ ap (spread f) (code_spread (shades p s) m n)
    ∙ flat_flat (on f) (on (λ x. term_code (shades p s x))) (code m)
    ∙ flat_same _ _ (each_stays vs p (without vs scope) k) (code m))

pub counts_once : (p : Prefix) (m : Formula) (scope : List Name) (k : Counts) → (skolem p m scope k).after ≡ counts p (without (binders p) scope) k
unfolding skolem counts binders
counts_once plain m scope k = refl
counts_once (more all vs p) m scope k = counts_once p m (without vs scope ++ vs) k ∙ rw (all_scope vs p scope)
counts_once (more ex vs p) m scope k =
    let g = without (binders p) (without vs scope) in
    rw (← without_twice vs (binders p) scope)
    (counts_once p (sub (shades p (put vs (skolem_term g) (first_number g k))) m) (without vs scope) (counts_after g (length vs) k))

pub foralls_once : (p : Prefix) (m : Formula) (scope : List Name) (k : Counts) → (skolem p m scope k).prefix ≡ foralls p
unfolding skolem foralls
foralls_once plain m scope k = refl
foralls_once (more all vs p) m scope k = ap (more all vs) (foralls_once p m (without vs scope ++ vs) k)
foralls_once (more ex vs p) m scope k =
    let g = without (binders p) (without vs scope) in
    foralls_once p (sub (shades p (put vs (skolem_term g) (first_number g k))) m) (without vs scope) (counts_after g (length vs) k)
