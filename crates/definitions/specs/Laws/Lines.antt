-- A line has a node just when it is that node's line and the node is good. From the line to the node, by its keyword's entry in the
-- table; back, by the pieces of the node's line, which are its keyword and fields since no name holds a tab.
use Rattle.std.specs.Prelude.{◌≡◌}
use mathlib.Core.List.{List}
use Rattle.definitions.specs.Bytes.{Bytes}
use Rattle.definitions.specs.Limits.{Limits}
use Rattle.definitions.specs.RuleText.{Node, keyword, fields}
use Rattle.definitions.specs.Laws.Within.{Allowed}

-- what a keyword w with the fields l behind it has to be where it gives the node n
pub record Spelled (L : Limits) (w : Bytes) (l : List Bytes) (n : Node) : Type 0 where
  pub word : keyword n ≡ w
  pub fields_are : fields n ≡ l
  pub allowed : Allowed L n
