-- The digits' values decide: a text of one digit, or of two of which the first is not 0, writes what they say, and no other text writes a
-- number that is small enough.
use Rattle.std.proofs.Common.{arith}
use Rattle.reader.proofs.Fields.{count_two, value_some}
use Rattle.reader.proofs.count.Goals as goal

pub returns-else-tens-eq0 : goal.returns-else-tens-eq0
returns-else-tens-eq0 c =
    count_two _ (omega arith) _ _ (value_some _ _ _ c.value-in-len2.ensures c.in_ok-tens-in-len2.was)
    (value_some _ _ _ c.value-in-len2-2.ensures c.in_ok-ones-in-len2.was) (omega arith)
