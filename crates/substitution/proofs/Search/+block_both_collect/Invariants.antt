use Rattle.std.specs.Prelude.{◌+◌, ◌*◌, ◌-◌, length}
use Rattle.substitution.proofs.Search.+block_both_collect.Given as goal

abbrev pub decreases-collect : goal.decreases-collect
decreases-collect l = 2 * (length l.self.words.now - l.at)

abbrev pub decreases-both : goal.decreases-both
decreases-both l = 2 * (length l.self.words.now - l.at) + 1

abbrev pub decreases-block : goal.decreases-block
decreases-block l = 2 * (length l.self.words.now - l.at) + 1
