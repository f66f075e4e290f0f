-- It begins with `do` TAB, and behind that is the name.
use Rattle.stream.proofs.ByteLaws.{after_do, no_do}
use Rattle.stream.proofs.machine.names_conversion.Goals as goal

pub returns-then-starts_with : goal.returns-then-starts_with
returns-then-starts_with c = after_do _ _ c.starts_with.ensures.value c.if-starts_with.true (rw c.name.ensures at c.same_name.ensures)

pub returns-else-starts_with : goal.returns-else-starts_with
returns-else-starts_with c = no_do _ _ c.starts_with.ensures.value c.if-starts_with.false
