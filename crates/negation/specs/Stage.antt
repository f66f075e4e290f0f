-- What stage 4 makes of the formula at the front of the words S: the table holds its form afterwards, unless that has too many words.
use Rattle.std.specs.Prelude.{ℕ, ◌<◌, ◌≤◌, ◌≡◌, List, ◌++◌, length, Result, MatchResult}
use Rattle.definitions.specs.Bytes.{Bytes}
use Rattle.definitions.specs.Limits.{house}
use Rattle.definitions.specs.Syntax.{Formula, weight}
use Rattle.definitions.specs.Negation.{nnf}
use Rattle.text.specs.declared.table.Full.{Full}
use Rattle.text.specs.declared.table.Table.{Table}
use Rattle.text.specs.Words.{Token, tokens, code}
use Rattle.text.specs.Tables.{Holds}

-- the formula is in the table, or it weighs more than a table has words
abbrev pub Outcome : Bytes → Bytes → Table → Result Unit Full → Formula → Type 0
Outcome T M t r f = MatchResult r (λ _. (weight f ≤ house.weight) × Holds T M t f) (λ _. house.weight < weight f)

-- the lent table t is t' afterwards
pub record Negated (S : List ℕ) (t t' : Table) (r : Result Unit Full) : Type 0 where
  -- whatever the words are
  pub room : t'.used ≤ house.weight
  pub size : length t'.nodes ≡ length t.nodes
  -- a formula that the first words are, whatever stands behind it, over whatever rule text and made names
  pub form : (T M : Bytes) (f : Formula) (rest : List Token) → tokens T M S ≡ code f ++ rest → Outcome T M t' r (nnf f)
