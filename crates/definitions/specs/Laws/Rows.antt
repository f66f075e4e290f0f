-- A text as rows of fields: where no field holds a tab or a line feed, cutting the text at line feeds and tabs gives the rows back.
use Rattle.std.specs.Prelude.{List, [], ◌∷◌, ◌++◌}
use Rattle.definitions.specs.Bytes.{Bytes, TAB, LF}
use Rattle.definitions.specs.Laws.Pieces.{joined, Clear}

-- a line's fields
abbrev pub Row : Type 0
Row = List Bytes

unfoldable pub rows_text : List Row → Bytes
rows_text [] = []
rows_text (r ∷ l) = joined TAB r ++ (LF ∷ rows_text l)

-- neither a tab nor a line feed
pub record Plain (s : Bytes) : Type 0 where
  pub no_tab : Clear TAB s
  pub no_feed : Clear LF s

pub data PlainRow : Row → Type 0 where
  no_field : PlainRow []
  field : {f : Bytes} {r : Row} → Plain f → PlainRow r → PlainRow (f ∷ r)

-- a row has at least one field
pub data PlainRows : List Row → Type 0 where
  no_row : PlainRows []
  plain_row : {f : Bytes} {r : Row} {l : List Row} → PlainRow (f ∷ r) → PlainRows l → PlainRows ((f ∷ r) ∷ l)
