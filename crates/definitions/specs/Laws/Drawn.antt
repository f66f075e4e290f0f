-- The names that an exists block draws, the terms that it puts in, and new values for just what it draws.
use Rattle.std.specs.Prelude.{cond, ℕ, suc}
use mathlib.Core.List.{List, [], ◌∷◌}
use Rattle.definitions.specs.Syntax.{Name}
use Rattle.definitions.specs.Names.{mem}

-- The term that a variable of a block gets: that of the last place where it stands.
unfoldable pub last : List Name → ℕ → Name → ℕ
last [] k x = k
last (v ∷ vs) k x = cond (mem x vs) (last vs (suc k) x) k
