use Rattle.substitution.proofs.Sifting.{Sifting}
use Rattle.substitution.proofs.sift.Given as goal

abbrev pub invariant-loop-next : goal.invariant-loop-next
invariant-loop-next l = Sifting l.spellings.text.now l.spellings.made.now l.bound l.initial.list.nodes l.from l.list.nodes l.next l.kept
