-- Skolem form (source document 001, stage 3) in one pass, over what the tables hold. The terms of an exists block stand on the free
-- variables and on the entries of forall blocks before it that no later block binds; a matrix variable belongs to the last entry of the
-- prefix that has its name. Each part is stated over entries of any type with their tokens: the words of a table, or tokens themselves.
-- Over a prenex form's tokens it gives the definitions' `skolemise` (`passes` in proofs/Whole.antt).
use Rattle.std.specs.Prelude.{Bool, true, false, not, ◌||◌, cond, ℕ, zero, suc, ◌+◌, ◌*◌, max, eqb, ltb, length, take, drop}
use mathlib.Core.List.{List, [], ◌∷◌, ◌++◌, map, flat_map}
use Rattle.definitions.specs.Syntax.{Name}
use Rattle.definitions.specs.Names.{mem}
use Rattle.definitions.specs.Skolem.{Counts, constant_name, function_name}
use Rattle.text.specs.Words.{Token, var_token, sign, kind, count, name, same_variable}
use Rattle.text.specs.Prefixes.{names}

-- A scope of entries is kept up to one more than a function may have arguments: more of them are told apart from 32 alone.
abbrev pub most : ℕ
most = 33

unfoldable pub push : {A : Type 0} → List A → A → List A
push g a = cond (ltb (length g) most) (g ++ (a ∷ [])) g

-- The free variables: of a matrix those that no block binds, each once, by first occurrence.
abbrev pub is_new : List Name → List Name → Token → Bool
is_new bound seen (var_token x) = not (mem x bound || mem x seen)
is_new bound seen (sign k n s) = false

module _ {A : Type 0} (d : A → Token) (bound : List Name) where
  unfoldable pub gather : List A → List A → List A
  gather g [] = g
  gather g (a ∷ l) = gather (cond (is_new bound (names (map d g)) (d a)) (push g a) g) l

-- The prefix, entry by entry, with the heads of Skolem terms, still without a name, for the variables of exists blocks: a constant where
-- the scope is empty, and else a function with the scope's length as its count. `left` variables of the present block are still to come.
pub record Survey (A : Type 0) : Type 0 where
  pub heads : List A
  pub scope : List A

abbrev pub after : {A : Type 0} → A → Survey A → Survey A
after a s = record { heads = a ∷ s.heads; scope = s.scope }

module _ {A : Type 0} (d : A → Token) (blank : ℕ → A) where
  unfoldable pub survey : ℕ → Bool → List A → List A → Survey A
  survey left exists g [] = record { heads = []; scope = g }
  survey zero exists g (a ∷ l) = after a (survey (count (d a)) (eqb (kind (d a)) 9) g l)
  survey (suc left) true g (a ∷ l) = after (blank (length g)) (survey left true g l)
  survey (suc left) false g (a ∷ l) =
      after a (survey left false (cond (mem (name (d a)) (names (map d (drop left l)))) g (push g a)) l)

abbrev pub blank_token : ℕ → Token
blank_token zero = sign 13 0 []
blank_token (suc n) = sign 11 (suc n) []

abbrev pub blank_word : ℕ → ℕ
blank_word zero = 13
blank_word (suc n) = 11 + 16 * suc n

-- Each head draws its name, constants and functions from a count of their own.
abbrev pub entitled : Counts → Token → Token
entitled k (var_token x) = var_token x
entitled k (sign j n s) = sign j n (cond (eqb j 13) (constant_name k.constant) (cond (eqb j 11) (function_name k.function) s))

abbrev pub moved : Counts → Token → Counts
moved k (var_token x) = k
moved k (sign j n s) = record {
  constant = cond (eqb j 13) (suc k.constant) k.constant;
  function = cond (eqb j 13) k.function (cond (eqb j 11) (suc k.function) k.function);
}

unfoldable pub named : Counts → List Token → List Token
named k [] = []
named k (t ∷ l) = entitled k t ∷ named (moved k t) l

unfoldable pub drawn_after : Counts → List Token → Counts
drawn_after k [] = k
drawn_after k (t ∷ l) = drawn_after (moved k t) l

-- What stays of the prefix: the forall blocks.
abbrev pub stays : Token → Bool
stays (var_token x) = true
stays (sign k n s) = eqb k 8

unfoldable pub keep : {A : Type 0} → (A → Bool) → List A → List A
keep p [] = []
keep p (a ∷ l) = cond (p a) (a ∷ keep p l) (keep p l)

-- the last of the heads whose entry passes the test, or else what was there
unfoldable pub pick : {A : Type 0} → A → List Bool → List A → A
pick a [] hs = a
pick a (b ∷ bs) [] = a
pick a (b ∷ bs) (h ∷ hs) = pick (cond b h a) bs hs

abbrev pub binds : Name → Token → Bool
binds x t = same_variable x t

abbrev pub is_var : Token → Bool
is_var (var_token x) = true
is_var (sign k n s) = false

-- A head with its arguments, the first of the scope; and what a matrix becomes: each variable the term of its last entry.
module _ {A : Type 0} (d : A → Token) (g : List A) where
  abbrev pub whole : A → List A
  whole a = a ∷ cond (eqb (kind (d a)) 11) (take (count (d a)) g) []

  module _ (prefix heads : List A) where
    abbrev pub belongs : A → A
    belongs a = pick a (map (λ b. binds (name (d a)) (d b)) prefix) heads

    abbrev pub put_in : A → List A
    put_in a = cond (is_var (d a)) (whole (belongs a)) (a ∷ [])

    abbrev pub filled : List A → List A
    filled l = flat_map put_in l

-- the largest number of arguments that a function among tokens has
unfoldable pub reach : List Token → ℕ
reach [] = 0
reach (t ∷ l) = max (cond (eqb (kind t) 11) (count t) 0) (reach l)
