use Prim.Native.Nat.{◌-◌}
use lib.ListN.{length}
use Rattle.skolem.proofs.LookLaws.{Ends}
use Rattle.skolem.proofs.shape.blocks_end.Given as goal

abbrev pub invariant-loop-end : goal.invariant-loop-end
invariant-loop-end l = Ends l.words l.end

abbrev pub decreases-loop-end : goal.decreases-loop-end
decreases-loop-end l = length l.words - l.end
