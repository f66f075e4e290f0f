-- A tab and then the spelling.
use mathlib.Core.List.{[], ◌∷◌}
use Rattle.definitions.specs.Bytes.{TAB}
use Rattle.writer.specs.PutLaws.{puts_both}
use Rattle.writer.proofs.put_name.Goals as goal

pub returns : goal.returns
returns c = puts_both {s = TAB ∷ []} c.requires c.put_byte-next.ensures (rw c.of.ensures at c.put_run.ensures)
