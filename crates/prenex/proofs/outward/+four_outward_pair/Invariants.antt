use Prim.Native.Nat.{◌+◌, ◌*◌, ◌-◌, max}
use Rattle.prenex.proofs.outward.+four_outward_pair.Given as goal

abbrev pub decreases-pair : goal.decreases-pair
decreases-pair l = 3 * max (1024 - l.left) (1024 - l.right) + 1

abbrev pub decreases-outward : goal.decreases-outward
decreases-outward l = 3 * (1024 - l.at)

abbrev pub decreases-four : goal.decreases-four
decreases-four l = 3 * max (1024 - l.left) (1024 - l.right) + 2
