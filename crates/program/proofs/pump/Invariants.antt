-- Of the input that is known some rest is left, and the sink has gained what is printed before it.
use Rattle.std.proofs.Common.{◌≡◌, ◌≤◌, ◌<◌, ◌^◌, length}
use Rattle.std.specs.Prelude.{Some}
use Rattle.definitions.specs.Bytes.{Bytes}
use Rattle.definitions.specs.Limits.{house, published}
use Rattle.stream.specs.Machine.{at, room}
use Rattle.stream.specs.Pushing.{print_room}
use Rattle.program.proofs.Pumping.{Pumped}
use Rattle.program.proofs.pump.Given as goal

abbrev pub invariant-loop-turn : goal.invariant-loop-turn
invariant-loop-turn g l =
    (input : Bytes) → g.R.Read.remaining l.initial.source ≡ Some input → length input < 2 ^ 64 → room ≤ length l.initial.kept → print_room ≤ length l.initial.out
    → length l.initial.work ≡ published house
    → Pumped (g.R.Read.remaining l.source) l._turn (g.W.Write.contents l.initial.sink) (g.W.Write.contents l.sink) (at l.state l.kept) input
