use Rattle.prenex.proofs.Goes.{Goes}
use Rattle.prenex.proofs.rename.side.Given as goal

abbrev pub invariant-loop-at : goal.invariant-loop-at
invariant-loop-at l =
    Goes l.spellings.text.now l.spellings.made.now l.initial.prefix l.initial.matrix l.mine.first l.mine.last l.other.last l.mine.from l.mine.to l.other.from l.other.to
    l.prefix l.matrix l.low l.at
