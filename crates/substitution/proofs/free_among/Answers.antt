-- `substitution::free_among` meets its contract: the list begins empty.
use Rattle.std.proofs.Common.{arith}
use Rattle.substitution.proofs.Collecting.{lists_free}
use Rattle.substitution.proofs.free_among.Goals as goal

pub returns : goal.returns
returns c = lists_free (omega arith) c.collect.ensures.safe c.collect.ensures.does
