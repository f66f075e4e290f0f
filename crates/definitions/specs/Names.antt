-- Lists of names as sets; free and bound variables; the variables, constants and functions of a formula.
use Rattle.std.specs.Prelude.{Bool, false, not, ◌||◌, cond, List, [], ◌∷◌, ◌++◌, ℕ, max}
use Rattle.definitions.specs.Bytes.{same}
use Rattle.definitions.specs.Syntax.{Name, Term, var, con, app, Terms, nil, cons, Formula, top, bot, pred, eq, neg, bin, blk, count}

unfoldable pub mem : Name → List Name → Bool
mem x [] = false
mem x (y ∷ l) = same x y || mem x l

unfoldable pub filter : (Name → Bool) → List Name → List Name
filter p [] = []
filter p (x ∷ l) = cond (p x) (x ∷ filter p l) (filter p l)

-- l without the names vs; those of l that vs has; a and then what of b is not in it
abbrev pub without : List Name → List Name → List Name
without vs l = filter (λ x. not (mem x vs)) l

abbrev pub keep : List Name → List Name → List Name
keep vs l = filter (λ x. mem x vs) l

abbrev pub union : List Name → List Name → List Name
union a b = a ++ without a b

-- free variables: each once, by first occurrence from left to right; a block takes its variables out of its body's list
unfoldable mutual
  pub term_vars : Term → List Name
  term_vars (var x) = x ∷ []
  term_vars (con c) = []
  term_vars (app f ts) = terms_vars ts

  pub terms_vars : Terms → List Name
  terms_vars nil = []
  terms_vars (cons t ts) = union (term_vars t) (terms_vars ts)

unfoldable pub free : Formula → List Name
free top = []
free bot = []
free (pred p ts) = terms_vars ts
free (eq t u) = union (term_vars t) (term_vars u)
free (neg f) = free f
free (bin o f g) = union (free f) (free g)
free (blk q vs f) = without vs (free f)

-- the variables that blocks bind
unfoldable pub bound : Formula → List Name
bound top = []
bound bot = []
bound (pred p ts) = []
bound (eq t u) = []
bound (neg f) = bound f
bound (bin o f g) = bound f ++ bound g
bound (blk q vs f) = vs ++ bound f

-- the names of constants, or of functions
pub data Sort : Type 0 where
  constants functions : Sort

abbrev pub of_con : Sort → Name → List Name
of_con constants c = c ∷ []
of_con functions c = []

abbrev pub of_fun : Sort → Name → List Name
of_fun constants f = []
of_fun functions f = f ∷ []

module _ (k : Sort) where
  unfoldable mutual
    pub term_syms : Term → List Name
    term_syms (var x) = []
    term_syms (con c) = of_con k c
    term_syms (app f ts) = of_fun k f ++ terms_syms ts

    pub terms_syms : Terms → List Name
    terms_syms nil = []
    terms_syms (cons t ts) = term_syms t ++ terms_syms ts

  unfoldable pub syms : Formula → List Name
  syms top = []
  syms bot = []
  syms (pred p ts) = terms_syms ts
  syms (eq t u) = term_syms t ++ term_syms u
  syms (neg f) = syms f
  syms (bin o f g) = syms f ++ syms g
  syms (blk q vs f) = syms f

-- the largest number of arguments that a function has
unfoldable mutual
  pub term_widest : Term → ℕ
  term_widest (var x) = 0
  term_widest (con c) = 0
  term_widest (app f ts) = max (count ts) (terms_widest ts)

  pub terms_widest : Terms → ℕ
  terms_widest nil = 0
  terms_widest (cons t ts) = max (term_widest t) (terms_widest ts)

unfoldable pub widest : Formula → ℕ
widest top = 0
widest bot = 0
widest (pred p ts) = terms_widest ts
widest (eq t u) = max (term_widest t) (term_widest u)
widest (neg f) = widest f
widest (bin o f g) = max (widest f) (widest g)
widest (blk q vs f) = widest f
