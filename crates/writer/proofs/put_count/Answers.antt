-- A tab and then the number.
use mathlib.Core.List.{[], ◌∷◌}
use Rattle.definitions.specs.Bytes.{TAB}
use Rattle.writer.specs.PutLaws.{puts_both}
use Rattle.writer.proofs.put_count.Goals as goal

pub returns : goal.returns
returns c = puts_both {s = TAB ∷ []} c.requires c.put_byte-next.ensures c.put_decimal.ensures
