-- What a block of variables says: some (every) assignment that differs from the given one at most on them.
use Rattle.std.specs.Prelude.{◌≡◌, false}
use mathlib.Core.List.{List}
use Rattle.definitions.specs.Syntax.{Name}
use Rattle.definitions.specs.Names.{mem}
use Rattle.definitions.specs.Truth.{Assign, Domain}

abbrev pub Off : (D : Domain) → List Name → Assign D → Assign D → Type 0
Off D vs σ ρ = (x : Name) → mem x vs ≡ false → σ x ≡ ρ x
