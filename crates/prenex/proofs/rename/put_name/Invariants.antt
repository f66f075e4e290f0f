use Rattle.prenex.proofs.Putting.{Puts}
use Rattle.prenex.proofs.rename.put_name.Given as goal

abbrev pub invariant-loop-word : goal.invariant-loop-word
invariant-loop-word l = Puts l.spellings.text.now l.spellings.made.now l.initial.words l.old l.new l.word-index l.words
