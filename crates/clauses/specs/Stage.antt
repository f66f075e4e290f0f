-- What stage 5 answers: a set that stands for the definition's clauses, or refusal 8 exactly where the raw counts pass a limit.
use Rattle.std.specs.Prelude.{◌≡◌, true, false, List, ℕ, ◌≤◌, Result, MatchResult}
use Rattle.definitions.specs.Bytes.{Bytes}
use Rattle.definitions.specs.Syntax.{Quant, Formula}
use Rattle.definitions.specs.Limits.{house}
use Rattle.definitions.specs.Clauses.{clauses, raw}
use Rattle.definitions.specs.Convert.{too_many}
use Rattle.clauses.specs.declared.TooMany.{TooMany}
use Rattle.clauses.specs.declared.set.Set.{Set}
use Rattle.clauses.specs.Sets.{Denotes}

-- whatever the words are, the counts of a set are within its arrays
pub record Fits (s : Set) : Type 0 where
  pub atoms : s.atoms.used ≤ house.weight
  pub clauses : s.count ≤ house.clauses

-- the answer for a matrix f of the words S: conjunctive for `all`, disjunctive for `ex`
abbrev pub Outcome : Bytes → Bytes → List ℕ → Quant → Formula → Set → Result Unit TooMany → Type 0
Outcome T M S q f s r =
    MatchResult r (λ _. (too_many house (raw q f) ≡ false) × Denotes T M S s (clauses q f)) (λ _. too_many house (raw q f) ≡ true)
