-- What is written and the text of the words that are left are the whole text.
use Rattle.writer.specs.Writer.{text_in}
use Rattle.writer.proofs.Runs.{Filling, rest}
use Rattle.writer.proofs.fill.Given as goal

abbrev pub invariant-loop-word : goal.invariant-loop-word
invariant-loop-word l = Filling l.initial.out l.at (text_in l.spellings l.words) l.out l.next (rest l.spellings l.words l.left l.word-index)
