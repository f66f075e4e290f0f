use Prim.Native.Nat.{◌-◌}
use Rattle.prenex.proofs.weight.+weigh.Given as goal

abbrev pub decreases-weigh : goal.decreases-weigh
decreases-weigh l = 1024 - l.at
