use mathlib.Core.Path.{◌≡◌}
use lib.ListN.{length}
use Rattle.stream.specs.Machine.{at}
use Rattle.stream.proofs.PushLaws.{Running}
use Rattle.stream.proofs.push.Given as goal

abbrev pub invariant-loop-i : goal.invariant-loop-i
invariant-loop-i l =
    Running (at l.initial.now l.initial.kept) l.piece l.from l.now l.kept l.i × (l.out ≡ l.initial.out) × (l.work ≡ l.initial.work) × (length l.kept ≡ length l.initial.kept)
