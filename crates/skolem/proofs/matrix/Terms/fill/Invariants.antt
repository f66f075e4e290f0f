use mathlib.Core.List.{[], ◌++◌}
use lib.ListN.{take}
use Rattle.text.specs.Words.{token}
use Rattle.skolem.specs.Pass.{filled}
use Rattle.skolem.specs.Filling.{Added}
use Rattle.skolem.proofs.matrix.Terms.fill.Given as goal

abbrev pub invariant-loop-word : goal.invariant-loop-word
invariant-loop-word l =
    let s = l.self in
    Added l.initial.out 0 l.out l.end ([] ++ filled (token s.spellings.text.now s.spellings.made.now) s.scope.now s.prefix.now s.heads.now (take l.word-index l.matrix))
