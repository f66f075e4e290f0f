use Prim.Native.Nat.{ℕ, ◌+◌, ◌-◌, ◌*◌, ◌≤◌}
use lib.ListN.{length}
use Rattle.std.proofs.Common.{Option}
use Rattle.prenex.specs.Weights.{Ends}
use Rattle.prenex.proofs.weight.terms.Given as goal

abbrev pub invariant-loop-left : goal.invariant-loop-left
invariant-loop-left l = (l.at ≤ l.next) × (l.next ≤ length l.src) × (l.left ≤ 64 * (l.next + 1)) × ((r : Option ℕ) → Ends l.src l.next l.left r → Ends l.src l.at l.due r)

abbrev pub decreases-loop-left : goal.decreases-loop-left
decreases-loop-left l = length l.src - l.next
