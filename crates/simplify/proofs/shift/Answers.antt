-- `simplify::shift` meets its contract.
use Rattle.std.proofs.Common.{arith}
use Rattle.simplify.proofs.Moving.{moved}
use Rattle.simplify.proofs.shift.Goals as goal

pub returns : goal.returns
returns c = rw c.copy_within.ensures.after (moved (omega arith) (omega arith) (omega arith))
