-- Skolem form (source document 001, stage 3) of a prenex formula, from two given counts.
-- In scope at first: the free variables, in order. A forall block first drops its names from the scope, then appends them. An exists block
-- drops its own names; each of its variables in turn gets a term on those in scope that no later block binds: `f#k`, or the constant `c#k`
-- if none are left. A variable twice in an exists block draws twice and the last term is the one put in.
use Rattle.std.specs.Prelude.{◌≡◌, Bool, false, not, ◌&&◌, ◌||◌, cond, List, [], ◌∷◌, ◌++◌, ℕ, suc, ◌+◌, eqb, length}
use Rattle.definitions.specs.Bytes.{same, decimal}
use Rattle.definitions.specs.Syntax.{Name, Term, var, con, app, Terms, nil, cons, all, ex, Formula}
use Rattle.definitions.specs.Names.{mem, without, free, syms, constants, functions}
use Rattle.definitions.specs.Truth.{Domain, Meaning, every}
use Rattle.definitions.specs.Prenex.{Subst, sub, Prefix, plain, more, Prenex, close, formula, shades}

-- the new names `c#k` and `f#k`
abbrev pub constant_name : ℕ → Name
constant_name k = 99 ∷ 35 ∷ decimal k

abbrev pub function_name : ℕ → Name
function_name k = 102 ∷ 35 ∷ decimal k

-- the numbers that come next
pub record Counts : Type 0 where
  pub constant : ℕ
  pub function : ℕ

abbrev pub zero_counts : Counts
zero_counts = record { constant = 0; function = 0 }

-- a symbol that is drawn: a constant, or a function with its number of arguments
pub data Symbol : Type 0 where
  constant_symbol : Name → Symbol
  function_symbol : Name → ℕ → Symbol

-- what an exists block draws, where the list is what its terms stand on: by the first number, how many, and the counts then
abbrev pub first_number : List Name → Counts → ℕ
first_number [] k = k.constant
first_number (a ∷ l) k = k.function

abbrev pub drawn_symbol : List Name → ℕ → Symbol
drawn_symbol [] k = constant_symbol (constant_name k)
drawn_symbol (a ∷ l) k = function_symbol (function_name k) (length (a ∷ l))

unfoldable pub drawn_symbols : List Name → List Name → ℕ → List Symbol
drawn_symbols args [] k = []
drawn_symbols args (v ∷ vs) k = drawn_symbol args k ∷ drawn_symbols args vs (suc k)

abbrev pub counts_after : List Name → ℕ → Counts → Counts
counts_after [] n k = record { constant = k.constant + n; function = k.function }
counts_after (a ∷ l) n k = record { constant = k.constant; function = k.function + n }

-- the terms that it puts in
unfoldable pub as_vars : List Name → Terms
as_vars [] = nil
as_vars (a ∷ l) = cons (var a) (as_vars l)

abbrev pub skolem_term : List Name → ℕ → Term
skolem_term [] k = con (constant_name k)
skolem_term (a ∷ l) k = app (function_name k) (as_vars (a ∷ l))

-- the variables of a block get the terms from the k-th on; where a variable stands twice the last is put in
unfoldable pub put : List Name → (ℕ → Term) → ℕ → Subst
put [] t k x = var x
put (v ∷ vs) t k x = cond (mem x vs) (put vs t (suc k) x) (cond (same x v) (t k) (var x))

-- the variables that a prefix binds
unfoldable pub binders : Prefix → List Name
binders plain = []
binders (more q vs p) = vs ++ binders p

-- those in scope that neither the block nor a later one binds
abbrev pub arguments : List Name → Prefix → List Name → List Name
arguments vs p scope = without (binders p) (without vs scope)

pub record Skolemised : Type 0 where
  pub prefix : Prefix
  pub matrix : Formula
  pub drawn : List Symbol
  pub after : Counts

abbrev pub under_all : List Name → Skolemised → Skolemised
under_all vs s = record { prefix = more all vs s.prefix; matrix = s.matrix; drawn = s.drawn; after = s.after }

abbrev pub having_drawn : List Symbol → Skolemised → Skolemised
having_drawn l s = record { prefix = s.prefix; matrix = s.matrix; drawn = l ++ s.drawn; after = s.after }

-- A term goes in only where its own block binds the variable: later blocks shadow.
unfoldable pub skolem : Prefix → Formula → List Name → Counts → Skolemised
skolem plain m scope k = record { prefix = plain; matrix = m; drawn = []; after = k }
skolem (more all vs p) m scope k = under_all vs (skolem p m (without vs scope ++ vs) k)
skolem (more ex vs p) m scope k =
    let args = arguments vs p scope in
    let s = put vs (skolem_term args) (first_number args k) in
    having_drawn (drawn_symbols args vs (first_number args k)) (skolem p (sub (shades p s) m) (without vs scope) (counts_after args (length vs) k))

unfoldable pub skolemise : Prenex → Counts → Skolemised
skolemise p k = skolem p.prefix p.matrix (free (formula p)) k

abbrev pub skolem_formula : Skolemised → Formula
skolem_formula s = close s.prefix s.matrix

-- no constant and no function of a formula has a `#` (refusal 5 is given where one does)
unfoldable pub holds_hash : Name → Bool
holds_hash [] = false
holds_hash (b ∷ l) = eqb b 35 || holds_hash l

unfoldable pub hash_free : Formula → Bool
hash_free f = every (λ n. not (holds_hash n)) (syms constants f) && every (λ n. not (holds_hash n)) (syms functions f)

-- two meanings that are alike but for the symbols of a list, told apart by kind, name and number of arguments
abbrev pub same_symbol : Symbol → Symbol → Bool
same_symbol (constant_symbol a) (constant_symbol b) = same a b
same_symbol (constant_symbol a) (function_symbol b n) = false
same_symbol (function_symbol a m) (constant_symbol b) = false
same_symbol (function_symbol a m) (function_symbol b n) = same a b && eqb m n

unfoldable pub among : Symbol → List Symbol → Bool
among s [] = false
among s (t ∷ l) = same_symbol s t || among s l

pub record AlikeBut (D : Domain) (l : List Symbol) (M M' : Meaning D) : Type 0 where
  pub on_constants : (n : Name) → among (constant_symbol n) l ≡ false → M'.const n ≡ M.const n
  pub on_functions : (n : Name) (ds : List D.Elem) → among (function_symbol n (length ds)) l ≡ false → M'.func n ds ≡ M.func n ds
  pub on_predicates : (n : Name) (ds : List D.Elem) → M'.rel n ds ≡ M.rel n ds
