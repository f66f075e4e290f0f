use Rattle.std.proofs.Common.{◌≡◌, ◌≤◌}
use Rattle.reader.specs.Levels.{due}
use Rattle.reader.proofs.Stack.serve.Given as goal

abbrev pub invariant-loop-self : goal.invariant-loop-self
invariant-loop-self l = record {
  room : l.self.depth ≤ 65;
  same : due l.self ≡ due l.initial.self;
}

abbrev pub decreases-loop-self : goal.decreases-loop-self
decreases-loop-self l = l.self.depth
