use Rattle.std.proofs.Common.{◌-◌, length}
use Rattle.reader.proofs.Runs.{State}
use Rattle.reader.proofs.read_into.Given as goal

abbrev pub invariant-loop-stack : goal.invariant-loop-stack
invariant-loop-stack l = State l.text l.table l.stack l.at l.number

abbrev pub decreases-loop-stack : goal.decreases-loop-stack
decreases-loop-stack l = length l.text - l.at
