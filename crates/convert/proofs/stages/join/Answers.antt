-- The part that is written has the words of the matrix.
use native.Mathlib.Omega.{arith}
use lib.ListN.{length-take}
use Rattle.convert.proofs.Joining.{joined_tables}
use Rattle.convert.proofs.stages.join.Goals as goal

pub returns : goal.returns
returns c =
    joined_tables _ c.args.matrix.now _ _ _ _ (omega arith) c.min-from.ensures c.min-size.ensures
    (c.copy.ensures.whole (omega (arith, length-take c.min-size.result c.args.matrix.now, c.min-size.ensures)))
