-- What the reader of rule text answers: a table that holds the text's tree, or the refusal 2 (malformed) or 3 (too large) with its line.
use Rattle.std.specs.Prelude.{◌≡◌, true, ◌≤◌, length, take, Result, Ok, Err, MatchResult, IfOk}
use Rattle.definitions.specs.Bytes.{Bytes}
use Rattle.definitions.specs.Limits.{house}
use Rattle.definitions.specs.Syntax.{Formula}
use Rattle.definitions.specs.Reading.{Reading, tree, malformed, large}
use Rattle.reader.specs.Lines.{all_inside}
use Rattle.text.specs.Tables.{Holds}
use Rattle.text.specs.declared.table.Table.{Table}
use Rattle.reader.specs.declared.Flaw.{Flaw}
use Rattle.reader.specs.declared.Flaw.TheVariants.{Malformed, Large}

-- the text T is the formula f's: the table holds f, whatever the made names, and every symbol's spelling lies inside T
pub record Reads (T : Bytes) (f : Formula) (table : Table) : Type 0 where
  pub holds : (M : Bytes) → Holds T M table f
  pub within : all_inside T (take table.used table.nodes) ≡ true

abbrev pub Says : Reading → Bytes → Result Table Flaw → Type 0
Says (tree f) T r = MatchResult r (Reads T f) (λ flaw. ⊥)
Says (malformed k) T r = r ≡ Err (Malformed k)
Says (large k) T r = r ≡ Err (Large k)

-- what a table that is lent, and an answer beside it, say together
abbrev pub filled : Result Unit Flaw → Table → Result Table Flaw
filled (Ok done) table = Ok table
filled (Err flaw) table = Err flaw

-- a table as it is read has no more words than its room
pub record Roomy (table : Table) : Type 0 where
  pub len : length table.nodes ≡ house.weight
  pub used : table.used ≤ house.weight

abbrev pub Room : Result Table Flaw → Type 0
Room r = IfOk r Roomy
