use Prim.Native.Nat.{ℕ, ◌*◌, ◌-◌, ◌/◌, ◌%◌, ◌<◌, ◌≤◌}
use lib.ListN.{length}
use Rattle.definitions.specs.Limits.{house}
use Rattle.text.specs.Words.{spell, tokens}
use Rattle.prenex.specs.Tables.{slot_size, Slot}
use Rattle.prenex.specs.Renaming.{all_names}
use Rattle.prenex.proofs.Growing.{Grows}
use Rattle.prenex.proofs.rename.fresh.Given as goal

abbrev pub invariant-loop-spellings : goal.invariant-loop-spellings
invariant-loop-spellings l =
    (at : ℕ) → at < house.weight → slot_size * house.weight ≤ length l.spellings.made.now → Slot l.spellings.made.now at l.word
    → Grows l.spellings.text.now l.spellings.made.now at
    (all_names (tokens l.spellings.text.now l.spellings.made.now l.bound) (tokens l.spellings.text.now l.spellings.made.now l.mine) (tokens l.spellings.text.now l.spellings.made.now l.others))
    (spell l.spellings.text.now l.spellings.made.now l.word) l.new

abbrev pub decreases-loop-spellings : goal.decreases-loop-spellings
decreases-loop-spellings l = 25 - l.new / 2048 % 64
