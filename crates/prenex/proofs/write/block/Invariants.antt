use Rattle.prenex.proofs.Blocking.{Laying}
use Rattle.prenex.proofs.write.block.Given as goal

abbrev pub invariant-loop-word : goal.invariant-loop-word
invariant-loop-word l = Laying l.text l.initial.made l.initial.prefix l.src l.at l.word-index l.made l.prefix
