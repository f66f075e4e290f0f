use lib.ListN.{take}
use Rattle.text.specs.Words.{tokens}
use Rattle.text.specs.Prefixes.{names}
use Rattle.skolem.proofs.ScopeLaws.{Gathering}
use Rattle.skolem.proofs.scope.free_variables.Given as goal

abbrev pub invariant-loop-word : goal.invariant-loop-word
invariant-loop-word l =
    let s = l.spellings in Gathering s.text.now s.made.now (names (tokens s.text.now s.made.now l.prefix)) l.matrix (take l.scope.used l.scope.words) l.word-index
