-- The loop keeps that feeding what is left of the piece ends where feeding all of it does, and that the sink holds what comes before.
use Rattle.std.proofs.Common.{length, ◌-◌, ◌≡◌, ◌≤◌, drop}
use Rattle.definitions.specs.Limits.{house, published}
use Rattle.stream.specs.Machine.{at}
use Rattle.stream.specs.Feeding.{through}
use Rattle.stream.specs.Pushing.{print_room}
use Rattle.program.specs.Written.{Written}
use Rattle.program.proofs.feed.Given as goal

abbrev pub invariant-loop-from : goal.invariant-loop-from
invariant-loop-from g l = record {
  ends : (through (at l.initial.now l.initial.kept) l.piece).machine ≡ (through (at l.now l.kept) (drop l.from l.piece)).machine;
  inside : l.from ≤ length l.piece;
  holds : print_room ≤ length l.initial.out → length l.initial.work ≡ published house
      → Written (g.W.Write.contents l.initial.sink) (g.W.Write.contents l.sink) (through (at l.now l.kept) (drop l.from l.piece)).output (through (at l.initial.now l.initial.kept) l.piece).output;
}

abbrev pub decreases-loop-from : goal.decreases-loop-from
decreases-loop-from g l = length l.piece - l.from
