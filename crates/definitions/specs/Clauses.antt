-- Clauses (source documents 003, 004, 006, stage 5): a matrix in negation form is distributed; a clause is a set of literals, the result a
-- set of clauses. The conjunctive set is marked `all` (all of its clauses hold), the disjunctive one `ex` (some clause holds).
use Rattle.std.specs.Prelude.{Bool, true, false, List, [], ◌∷◌, ◌++◌, map, ℕ, ◌+◌, ◌*◌, length}
use Rattle.definitions.specs.Bytes.{Bytes, TAB, LF, decimal}
use Rattle.definitions.specs.Syntax.{Op, and, or, imp, iff, Quant, all, ex, Formula, top, bot, pred, eq, neg, bin, blk}
use Rattle.definitions.specs.RuleText.{written}
use Rattle.definitions.specs.Truth.{Domain, Meaning, Assign, over, truth}
use Rattle.definitions.specs.Negation.{flip}
use Rattle.definitions.specs.Order.{Atom, rel, same_as, Literal, pos, opp, Clause, cmp_literal, cmp_clause, set_of}

-- each clause of a joined to each of b
unfoldable pub product : List Clause → List Clause → List Clause
product [] b = []
product (c ∷ a) b = map (λ d. c ++ d) b ++ product a b

-- conjunctive: top is no clause, bottom one empty clause; disjunctive the reverse
abbrev pub constant : Quant → Bool → List Clause
constant all true = []
constant all false = [] ∷ []
constant ex true = [] ∷ []
constant ex false = []

-- in a negation form only `and` and `or` occur
abbrev pub combine : Quant → Op → List Clause → List Clause → List Clause
combine all and a b = a ++ b
combine all or a b = product a b
combine all imp a b = []
combine all iff a b = []
combine ex and a b = product a b
combine ex or a b = a ++ b
combine ex imp a b = []
combine ex iff a b = []

abbrev pub opposite : Formula → List Clause
opposite top = []
opposite bot = []
opposite (pred p ts) = (opp (rel p ts) ∷ []) ∷ []
opposite (eq t u) = (opp (same_as t u) ∷ []) ∷ []
opposite (neg f) = []
opposite (bin o f g) = []
opposite (blk q vs f) = []

-- the raw clauses of a negation form without blocks; what is none gives nothing
unfoldable pub distribute : Quant → Formula → List Clause
distribute q top = constant q true
distribute q bot = constant q false
distribute q (pred p ts) = (pos (rel p ts) ∷ []) ∷ []
distribute q (eq t u) = (pos (same_as t u) ∷ []) ∷ []
distribute q (neg f) = opposite f
distribute q (bin o f g) = combine q o (distribute q f) (distribute q g)
distribute q (blk r vs f) = []

-- the clause set: sorted and without repeats, within and without
unfoldable pub clauses : Quant → Formula → List Clause
clauses q f = set_of cmp_clause (map (set_of cmp_literal) (distribute q f))

-- Raw counts of clauses and of their literals, before anything merges: numbers of any size.
pub record Raw : Type 0 where
  pub clauses : ℕ
  pub literals : ℕ

abbrev pub raw_of : ℕ → ℕ → Raw
raw_of c l = record { clauses = c; literals = l }

abbrev pub added : Raw → Raw → Raw
added a b = raw_of (a.clauses + b.clauses) (a.literals + b.literals)

abbrev pub multiplied : Raw → Raw → Raw
multiplied a b = raw_of (a.clauses * b.clauses) (a.literals * b.clauses + b.literals * a.clauses)

abbrev pub raw_constant : Quant → Bool → Raw
raw_constant all true = raw_of 0 0
raw_constant all false = raw_of 1 0
raw_constant ex true = raw_of 1 0
raw_constant ex false = raw_of 0 0

abbrev pub raw_combine : Quant → Op → Raw → Raw → Raw
raw_combine all and a b = added a b
raw_combine all or a b = multiplied a b
raw_combine all imp a b = raw_of 0 0
raw_combine all iff a b = raw_of 0 0
raw_combine ex and a b = multiplied a b
raw_combine ex or a b = added a b
raw_combine ex imp a b = raw_of 0 0
raw_combine ex iff a b = raw_of 0 0

abbrev pub raw_opposite : Formula → Raw
raw_opposite top = raw_of 0 0
raw_opposite bot = raw_of 0 0
raw_opposite (pred p ts) = raw_of 1 1
raw_opposite (eq t u) = raw_of 1 1
raw_opposite (neg f) = raw_of 0 0
raw_opposite (bin o f g) = raw_of 0 0
raw_opposite (blk q vs f) = raw_of 0 0

unfoldable pub raw : Quant → Formula → Raw
raw q top = raw_constant q true
raw q bot = raw_constant q false
raw q (pred p ts) = raw_of 1 1
raw q (eq t u) = raw_of 1 1
raw q (neg f) = raw_opposite f
raw q (bin o f g) = raw_combine q o (raw q f) (raw q g)
raw q (blk r vs f) = raw_of 0 0

-- The truth of a clause set. `all`: every clause has a literal that holds; `ex`: some clause has only such.
abbrev pub atom_formula : Atom → Formula
atom_formula (rel p ts) = pred p ts
atom_formula (same_as t u) = eq t u

abbrev pub literal_formula : Literal → Formula
literal_formula (pos a) = atom_formula a
literal_formula (opp a) = neg (atom_formula a)

module _ (D : Domain) (M : Meaning D) (ρ : Assign D) where
  abbrev pub literal_truth : Literal → Bool
  literal_truth l = truth D M (literal_formula l) ρ

  abbrev pub clause_truth : Quant → Clause → Bool
  clause_truth q c = over (flip q) literal_truth c

  abbrev pub set_truth : Quant → List Clause → Bool
  set_truth q cs = over q (clause_truth q) cs

-- The listing: `clauses` with their number, each clause as `clause` with its number of literals, each literal as `pos` or `neg` and its atom.
abbrev pub literal_word : Literal → Bytes
literal_word (pos a) = 112 ∷ 111 ∷ 115 ∷ []
literal_word (opp a) = 110 ∷ 101 ∷ 103 ∷ []

abbrev pub literal_atom : Literal → Formula
literal_atom (pos a) = atom_formula a
literal_atom (opp a) = atom_formula a

unfoldable pub literals_text : Clause → Bytes
literals_text [] = []
literals_text (l ∷ c) = literal_word l ++ (LF ∷ (written (literal_atom l) ++ literals_text c))

abbrev pub clause_word : Bytes
clause_word = 99 ∷ 108 ∷ 97 ∷ 117 ∷ 115 ∷ 101 ∷ []

abbrev pub clauses_word : Bytes
clauses_word = 99 ∷ 108 ∷ 97 ∷ 117 ∷ 115 ∷ 101 ∷ 115 ∷ []

abbrev pub counted_line : Bytes → ℕ → Bytes
counted_line w n = w ++ (TAB ∷ (decimal n ++ (LF ∷ [])))

unfoldable pub clauses_text : List Clause → Bytes
clauses_text [] = []
clauses_text (c ∷ cs) = counted_line clause_word (length c) ++ (literals_text c ++ clauses_text cs)

unfoldable pub listing : List Clause → Bytes
listing cs = counted_line clauses_word (length cs) ++ clauses_text cs
