use mathlib.Core.Path.{◌≡◌}
use mathlib.Core.List.{[], ◌∷◌, ◌++◌}
use lib.ListN.{drop}
use Rattle.definitions.specs.Bytes.{LF}
use Rattle.definitions.specs.Program.{conversions, conversion_of}
use Rattle.stream.proofs.machine.conversion.Given as goal

abbrev pub invariant-loop-conversion : goal.invariant-loop-conversion
invariant-loop-conversion l = conversion_of conversions (l.line ++ (LF ∷ [])) ≡ conversion_of (drop l.conversion-index conversions) (l.line ++ (LF ∷ []))
