use Rattle.substitution.proofs.Collecting.{Noted}
use Rattle.substitution.proofs.Search.terms.Given as goal

abbrev pub invariant-loop-word : goal.invariant-loop-word
invariant-loop-word l = Noted l.self.spellings.text.now l.self.spellings.made.now l.self.asked.now l.word-items l.initial.list.nodes l.initial.list.used l.list.nodes l.list.used l.word-index
