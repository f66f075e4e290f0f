use Prim.Native.Nat.{◌+◌}
use Rattle.prenex.proofs.Appending.{Copying}
use Rattle.prenex.proofs.write.copy.Given as goal

abbrev pub invariant-loop-word : goal.invariant-loop-word
invariant-loop-word l = Copying l.src l.at l.initial.matrix (l.at + l.word-index) l.matrix
