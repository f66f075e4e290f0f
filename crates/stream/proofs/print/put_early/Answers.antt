-- The file is refused, or a label that the input ends in is a bad one.
use Rattle.stream.proofs.PrintLaws.{early_refused}
use Rattle.stream.proofs.print.put_early.Goals as goal

pub returns-in-First : goal.returns-in-First
returns-in-First c = λ d w. early_refused d _ w c.in-First.is c.put_refusal.ensures

pub returns-in-Label : goal.returns-in-Label
returns-in-Label c = λ d w. rw c.in-Label.is (c.put_unnamed.ensures d _ _ w)
