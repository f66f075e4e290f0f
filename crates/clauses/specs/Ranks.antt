-- The distinct atoms of a matrix in order, found by their words. Atoms are compared as they stand, word by word: a predicate before an
-- equation; variable, constant, application; then names; then the terms behind, one by one, and a shorter list that is a prefix first.
use Rattle.std.specs.Prelude.{Bool, cond, List, [], ◌∷◌, eqb, leb, take, drop}
use Prim.Native.Nat.{ℕ, zero, suc, ◌+◌, ◌*◌, ◌/◌, ◌%◌, compare, Ordering}
use Rattle.std.proofs.Math.Dec.{compare_is_eq}
use Rattle.definitions.specs.Bytes.{Bytes}
use Rattle.definitions.specs.Order.{then, cmp_name}
use Rattle.text.specs.Words.{Token, var_token, sign, tokens, kind, name}
use Rattle.clauses.specs.Laying.{atomic, leaf_word}
use Rattle.clauses.specs.Plans.{form_of, number_of}

-- how many terms stand behind a token: an equation has two
abbrev pub behind : Token → ℕ
behind (var_token x) = 0
behind (sign k n s) = cond (eqb k 7) 2 n

-- the order of kinds
abbrev pub class : ℕ → ℕ
class k = cond (eqb k 10) 0 (cond (eqb k 7) 1 (cond (eqb k 12) 2 (cond (eqb k 13) 3 4)))

abbrev pub cmp_token : Token → Token → Ordering
cmp_token s t = then (compare (class (kind s)) (class (kind t))) (cmp_name (name s) (name t))

-- How many terms are still to be compared, where d were due, and m stand behind one token and n behind the other: where m and n differ,
-- those that both have, for then the shorter list comes first.
unfoldable pub due : ℕ → ℕ → ℕ → ℕ
due d zero zero = d
due d zero (suc n) = 0
due d (suc m) zero = 0
due d (suc m) (suc n) = suc (due d m n)

-- d terms of each list compared, and v where they are the same
unfoldable pub cmp_tokens : List Token → List Token → ℕ → Ordering → Ordering
cmp_tokens [] y d v = v
cmp_tokens (s ∷ x) [] d v = v
cmp_tokens (s ∷ x) (t ∷ y) zero v = v
cmp_tokens (s ∷ x) (t ∷ y) (suc d) v =
    then (cmp_token s t) (cmp_tokens x y (due d (behind s) (behind t)) (then (compare (behind s) (behind t)) v))

-- the atoms at two places of a table
abbrev pub cmp_places : Bytes → Bytes → List ℕ → ℕ → ℕ → Ordering
cmp_places T M S i j = cmp_tokens (tokens T M (drop i S)) (tokens T M (drop j S)) 1 Ordering.eq

-- A part of a list as a number: start + 4096 * length.
abbrev pub part_word : ℕ → ℕ → ℕ
part_word start size = start + 4096 * size

abbrev pub start_of : ℕ → ℕ
start_of w = w % 4096

abbrev pub part : List ℕ → ℕ → List ℕ
part S w = take (w / 4096) (drop (start_of w) S)

-- the atoms of two parts of a table
abbrev pub cmp_parts : Bytes → Bytes → List ℕ → ℕ → ℕ → Ordering
cmp_parts T M S v w = cmp_places T M S (start_of v) (start_of w)

-- how many terms' words stand first
unfoldable pub lead : List ℕ → ℕ
lead [] = 0
lead (k ∷ l) = cond (leb k 10) 0 (suc (lead l))

-- the parts of a table that are atoms, by the kinds of its words from the place `at` on
unfoldable pub spots : ℕ → List ℕ → List ℕ
spots at [] = []
spots at (k ∷ l) = cond (atomic k) (part_word at (suc (lead l)) ∷ spots (suc at) l) (spots (suc at) l)

-- the place of the first element that passes a test; the length where none does
unfoldable pub seek : (ℕ → Bool) → List ℕ → ℕ
seek p [] = 0
seek p (w ∷ l) = cond (p w) 0 (suc (seek p l))

-- the rank of the atom at a place among the parts a
abbrev pub rank : Bytes → Bytes → List ℕ → List ℕ → ℕ → ℕ
rank T M S a i = seek (λ w. compare_is_eq (cmp_places T M S i (start_of w))) a

-- a word of a plan whose literal's number is a place, with the rank in its stead
abbrev pub renumbered : (ℕ → ℕ) → ℕ → ℕ
renumbered rank x = 1024 * (x / 1024) + rank (x % 1024)

abbrev pub relabelled : (ℕ → ℕ) → ℕ → ℕ
relabelled rank w = cond (eqb (form_of w) 1) (leaf_word (renumbered rank (number_of w % 2048))) w
