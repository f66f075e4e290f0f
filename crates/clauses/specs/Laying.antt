-- How the words of a matrix are laid out as a plan, from the last word to the first: what stands behind a node is laid out before it.
-- Only the kind of a word counts; terms are passed over. What is laid out are the words of the matrix's plan (`laid_plan` in proofs/Planned.antt).
use Rattle.std.specs.Prelude.{Bool, true, false, ◌||◌, cond, List, [], ◌∷◌, ℕ, suc, ◌+◌, ◌*◌, eqb, leb, get_or, set}
use Rattle.definitions.specs.Syntax.{Op, and, or, imp, iff, Quant, all, ex, Formula, top, bot, pred, eq, neg, bin, blk, weight}
use Rattle.clauses.specs.Plans.{Plan, none, empty, leaf, sum, product, clamped, plan_word, size_of, clauses_of, literals_of, head}

-- the conjunctive form is marked `all`, the disjunctive one `ex`
abbrev pub marked : Bool → Quant
marked true = all
marked false = ex

-- The plan of a formula whose first word stands at the place `at`: a literal's number is the place of its atom, and 1,024 more for a
-- negative one.
abbrev pub constant_plan : Quant → Bool → Plan
constant_plan all true = none
constant_plan all false = empty
constant_plan ex true = empty
constant_plan ex false = none

abbrev pub both : Quant → Op → Plan → Plan → Plan
both all and a b = sum a b
both all or a b = product a b
both all imp a b = none
both all iff a b = none
both ex and a b = product a b
both ex or a b = sum a b
both ex imp a b = none
both ex iff a b = none

unfoldable pub plan : Quant → ℕ → Formula → Plan
plan q at top = constant_plan q true
plan q at bot = constant_plan q false
plan q at (pred p ts) = leaf at
plan q at (eq t u) = leaf at
plan q at (neg f) = leaf (1024 + suc at)
plan q at (bin o f g) = both q o (plan q (suc at) f) (plan q (suc at + weight f) g)
plan q at (blk r vs f) = none

-- whether a kind is a predicate's or an equation's
abbrev pub atomic : ℕ → Bool
atomic k = eqb k 10 || eqb k 7

-- the word of a constant, by its kind
abbrev pub constant_word : Quant → ℕ → ℕ
constant_word all k = cond (leb k 0) (head none) (head empty)
constant_word ex k = cond (leb k 0) (head empty) (head none)

-- the form of an `and` or an `or`, by its kind: a sum or a product
abbrev pub form_for : Quant → ℕ → ℕ
form_for all k = cond (leb k 3) 2 3
form_for ex k = cond (leb k 3) 3 2

-- the word of a sum or a product, made of the first words of its two parts
abbrev pub sum_word : ℕ → ℕ → ℕ
sum_word a b =
    plan_word 2 (1 + (size_of a + size_of b)) (clamped (clauses_of a + clauses_of b)) (clamped (literals_of a + literals_of b)) 0

abbrev pub product_word : ℕ → ℕ → ℕ
product_word a b =
    plan_word 3 (1 + (size_of a + size_of b)) (clamped (clauses_of a * clauses_of b))
    (clamped (literals_of a * clauses_of b + literals_of b * clauses_of a)) 0

abbrev pub joined_word : ℕ → ℕ → ℕ → ℕ
joined_word form a b = cond (leb form 2) (sum_word a b) (product_word a b)

abbrev pub leaf_word : ℕ → ℕ
leaf_word n = plan_word 1 1 1 1 n

-- one word more, of kind k at the place `at`, before the words l of what stands behind it
unfoldable pub laid_before : Quant → ℕ → ℕ → List ℕ → List ℕ
laid_before q at k l =
    cond (leb k 1) (constant_word q k ∷ l) (cond (leb k 2) (set l 0 (leaf_word (1024 + suc at)))
    (cond (leb k 4) (joined_word (form_for q k) (get_or l 0 0) (get_or l (size_of (get_or l 0 0)) 0) ∷ l)
    (cond (atomic k) (leaf_word at ∷ l) l)))

-- the words of the kinds from the place `at` on
unfoldable pub laid : Quant → ℕ → List ℕ → List ℕ
laid q at [] = []
laid q at (k ∷ l) = laid_before q at k (laid q (suc at) l)
