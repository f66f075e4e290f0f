-- The scan gives nodes just when its pieces are their lines, each is good, and one after another they serve what is due.
use Rattle.std.specs.Prelude.{◌≡◌, ℕ, suc, ◌+◌}
use mathlib.Core.List.{List}
use Rattle.definitions.specs.Bytes.{Bytes, LF}
use Rattle.definitions.specs.Limits.{Limits}
use Rattle.definitions.specs.RuleText.{Node, lines}
use Rattle.definitions.specs.Reading.{node_weight, Due, Step, bad, over, on, Scan, bad_line, large_line, before, scan}
use Rattle.definitions.specs.Laws.Pieces.{joined}
use Rattle.definitions.specs.Laws.Within.{AllGood}
use Rattle.definitions.specs.Laws.Served.{Served}

-- what a scan that gives the nodes l has seen
pub record Seen (L : Limits) (due : List Due) (w : ℕ) (ls : List Bytes) (l : List Node) : Type 0 where
  pub text : joined LF ls ≡ lines l
  pub good : AllGood L l
  pub served : Served L l due w

-- what the scan does after a line that is not the last piece
abbrev pub follow : Limits → ℕ → ℕ → List Bytes → Step → Scan
follow L w k ls a = elim a [ bad ↦ bad_line k | over ↦ large_line k | on n due ↦ before n (scan L due (w + node_weight n) (suc k) ls) ]
