-- Plans. A plan says which raw clauses a matrix makes: no clause; one empty clause; one clause of one literal; those of two plans one after
-- the other; or each clause of the first plan joined to each of the second. Literals are numbers, and what they stand for is said elsewhere.
-- A matrix's plan makes the definitions' raw clauses, as many as `raw` counts (`made_numbered`, `plan_counts` in proofs/Labelled.antt).
use Rattle.std.specs.Prelude.{List, [], ◌∷◌, ◌++◌, map, ℕ, suc, ◌+◌, ◌*◌, ◌/◌, ◌%◌, min}
use Rattle.definitions.specs.Limits.{house}
use Rattle.definitions.specs.Clauses.{Raw, raw_of, added, multiplied}

pub data Plan : Type 0 where
  none empty : Plan
  leaf : ℕ → Plan
  sum product : Plan → Plan → Plan

-- each list of a joined to each of b
unfoldable pub joined : List (List ℕ) → List (List ℕ) → List (List ℕ)
joined [] b = []
joined (c ∷ a) b = map (λ d. c ++ d) b ++ joined a b

-- the raw clauses of a plan
unfoldable pub made : Plan → List (List ℕ)
made none = []
made empty = [] ∷ []
made (leaf n) = (n ∷ []) ∷ []
made (sum a b) = made a ++ made b
made (product a b) = joined (made a) (made b)

-- its raw counts, numbers of any size
unfoldable pub counts : Plan → Raw
counts none = raw_of 0 0
counts empty = raw_of 1 0
counts (leaf n) = raw_of 1 1
counts (sum a b) = added (counts a) (counts b)
counts (product a b) = multiplied (counts a) (counts b)

-- A plan in a table: its nodes in preorder, a word each. A word is form + 4 * size + 2^13 * clauses + 2^25 * literals + 2^37 * number:
-- the form is 0 for no clause and for the empty one, 1 for a literal, 2 for a sum, 3 for a product; the size is the number of words;
-- the two raw counts are clamped at one past the larger limit.
abbrev pub clamped : ℕ → ℕ
clamped n = min n (suc house.literals)

abbrev pub plan_word : ℕ → ℕ → ℕ → ℕ → ℕ → ℕ
plan_word form size clauses literals number = form + 4 * (size + 2048 * (clauses + 4096 * (literals + 4096 * number)))

abbrev pub form_of : ℕ → ℕ
form_of w = w % 4

abbrev pub size_of : ℕ → ℕ
size_of w = w / 4 % 2048

abbrev pub clauses_of : ℕ → ℕ
clauses_of w = w / 8192 % 4096

abbrev pub literals_of : ℕ → ℕ
literals_of w = w / 33554432 % 4096

abbrev pub number_of : ℕ → ℕ
number_of w = w / 137438953472

unfoldable pub size : Plan → ℕ
size none = 1
size empty = 1
size (leaf n) = 1
size (sum a b) = 1 + (size a + size b)
size (product a b) = 1 + (size a + size b)

abbrev pub form : Plan → ℕ
form none = 0
form empty = 0
form (leaf n) = 1
form (sum a b) = 2
form (product a b) = 3

abbrev pub number : Plan → ℕ
number none = 0
number empty = 0
number (leaf n) = n
number (sum a b) = 0
number (product a b) = 0

-- the first word of a plan, and all its words
abbrev pub head : Plan → ℕ
head p = plan_word (form p) (size p) (clamped (counts p).clauses) (clamped (counts p).literals) (number p)

unfoldable pub words : Plan → List ℕ
words none = head none ∷ []
words empty = head empty ∷ []
words (leaf n) = head (leaf n) ∷ []
words (sum a b) = head (sum a b) ∷ (words a ++ words b)
words (product a b) = head (product a b) ∷ (words a ++ words b)
