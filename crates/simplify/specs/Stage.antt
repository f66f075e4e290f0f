-- What stage 1 does with the words S: it writes the simplified form to the table t.
use Rattle.std.specs.Prelude.{List, ◌≡◌, ℕ, ◌≤◌, length}
use Rattle.definitions.specs.Bytes.{Bytes}
use Rattle.definitions.specs.Limits.{house}
use Rattle.definitions.specs.Syntax.{Formula}
use Rattle.definitions.specs.Simplify.{simplify}
use Rattle.text.specs.declared.table.Table.{Table}
use Rattle.text.specs.Tables.{words_of, Holds}
use Rattle.text.specs.Words.{tokens, code}
use Rattle.substitution.specs.Runs.{Unmade}

-- the table holds the simplified formula, and points among the made names only where the words of S or what stood in it did
pub record Simplified (T M : Bytes) (S : List ℕ) (t t' : Table) : Type 0 where
  pub size : length t'.nodes ≡ length t.nodes
  pub room : t'.used ≤ house.weight
  pub form : length S ≤ house.weight → (f : Formula) → tokens T M S ≡ code f → Holds T M t' (simplify f)
  pub origin : Unmade S → Unmade t.nodes → Unmade (words_of t')
