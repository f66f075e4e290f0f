-- The size so far and the length of what is left are the whole length, and the size is within the room.
use mathlib.Core.Path.{◌≡◌}
use Prim.Native.Nat.{◌+◌, ◌≤◌}
use lib.ListN.{length}
use Rattle.writer.specs.Writer.{text_in}
use Rattle.writer.proofs.Runs.{rest}
use Rattle.writer.proofs.measure.Given as goal

abbrev pub invariant-loop-word : goal.invariant-loop-word
invariant-loop-word l = (l.size ≤ l.room) × (length (text_in l.spellings l.words) ≡ l.size + length (rest l.spellings l.words l.left l.word-index))
