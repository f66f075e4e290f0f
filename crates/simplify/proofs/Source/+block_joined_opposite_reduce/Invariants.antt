use Rattle.std.specs.Prelude.{◌+◌, ◌*◌, ◌-◌, length}
use Rattle.simplify.proofs.Source.+block_joined_opposite_reduce.Given as goal

abbrev pub decreases-reduce : goal.decreases-reduce
decreases-reduce l = 2 * (length l.self.words.now - l.at)

abbrev pub decreases-opposite : goal.decreases-opposite
decreases-opposite l = 2 * (length l.self.words.now - l.at) + 1

abbrev pub decreases-joined : goal.decreases-joined
decreases-joined l = 2 * (length l.self.words.now - l.at) + 1

abbrev pub decreases-block : goal.decreases-block
decreases-block l = 2 * (length l.self.words.now - l.at) + 1
