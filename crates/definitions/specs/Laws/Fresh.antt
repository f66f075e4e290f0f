-- A new name is none of those taken; a block with its variables renamed says the same.
use Rattle.std.specs.Prelude.{◌≡◌, true, cond, List}
use Rattle.definitions.specs.Bytes.{same}
use Rattle.definitions.specs.Syntax.{Name}
use Rattle.definitions.specs.Names.{mem}
use Rattle.definitions.specs.Prenex.{Pairs, none, pair}

unfoldable pub from : Pairs → Name → Name
from none y = y
from (pair v w ps) y = cond (same y w) v (from ps y)

abbrev pub In : List Name → List Name → Type 0
In a b = (x : Name) → mem x a ≡ true → mem x b ≡ true
