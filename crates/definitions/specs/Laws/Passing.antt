-- What the stages test a formula for: short variables, narrow functions.
use Rattle.std.specs.Prelude.{Bool, ℕ, leb, length}
use Rattle.definitions.specs.Syntax.{Name}
use Rattle.definitions.specs.Limits.{Limits}

module _ (L : Limits) where
  abbrev pub short : Name → Bool
  short x = leb (length x) L.name

  abbrev pub few : ℕ → Bool
  few n = leb n L.arguments
