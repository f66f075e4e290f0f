-- What a clause set stands for.
use Rattle.std.specs.Prelude.{◌≡◌, List, map, length, take}
use Prim.Native.Nat.{ℕ, ◌+◌, ◌≤◌, compare, Ordering}
use Rattle.definitions.specs.Bytes.{Bytes}
use Rattle.definitions.specs.Limits.{house}
use Rattle.definitions.specs.Order.{Atom, Literal, pos, opp, Clause, cmp_list, set_of}
use Rattle.definitions.specs.Clauses.{atom_formula}
use Rattle.text.specs.Tables.{words_of}
use Rattle.text.specs.Words.{tokens, code}
use Rattle.clauses.specs.declared.set.Set.{Set}
use Rattle.clauses.specs.Each.{Each, At}
use Rattle.clauses.specs.Ranks.{part}

-- the number of a literal: its atom's rank, and 1,024 more for a negative one
pub data Numbered (atoms : List Atom) : ℕ → Literal → Type 0 where
  positive : {n : ℕ} {a : Atom} → At atoms n a → Numbered atoms n (pos a)
  negative : {n : ℕ} {a : Atom} → At atoms n a → Numbered atoms (1024 + n) (opp a)

-- the words of a part of S are an atom's
abbrev pub Spelled : Bytes → Bytes → List ℕ → ℕ → Atom → Type 0
Spelled T M S w a = tokens T M (part S w) ≡ code (atom_formula a)

-- the clauses of a set, as the numbers of their literals
abbrev pub entries : Set → List (List ℕ)
entries s = map (part s.literals) (take s.count s.index)

-- clauses of numbers: sorted and without repeats, within and without
abbrev pub cmp_numbers : List ℕ → List ℕ → Ordering
cmp_numbers a b = cmp_list compare a b

abbrev pub sets_of : List (List ℕ) → List (List ℕ)
sets_of l = set_of cmp_numbers (map (set_of compare) l)

-- Lists stand for the clauses cs, over the rule text T, the made names M and the words S: A are the atoms as parts of S, in their order, and
-- X the clauses as parts of L, each the list of its literals' numbers.
pub record Denoted (T M : Bytes) (S A L X : List ℕ) (cs : List Clause) : Type 0 where
  pub atoms : List Atom
  pub few : length atoms ≤ house.weight
  pub spelled : Each (Spelled T M S) A atoms
  pub listed : Each (Each (Numbered atoms)) (map (part L) X) cs

-- a set stands for what its atoms and its index in use stand for
abbrev pub Denotes : Bytes → Bytes → List ℕ → Set → List Clause → Type 0
Denotes T M S s cs = Denoted T M S (words_of s.atoms) s.literals (take s.count s.index) cs
