use mathlib.Core.Bool.{false}
use lib.ListN.{take}
use Rattle.text.specs.Words.{token}
use Rattle.skolem.specs.Pass.{survey, blank_word}
use Rattle.skolem.proofs.ScopeLaws.{Surveying}
use Rattle.skolem.proofs.scope.survey.Given as goal

abbrev pub invariant-loop-i : goal.invariant-loop-i
invariant-loop-i l =
    let s = l.spellings in let g = l.initial.scope in
    Surveying s.text.now s.made.now l.prefix (survey (token s.text.now s.made.now) blank_word 0 false (take g.used g.words) l.prefix) l.heads (take l.scope.used l.scope.words) l.left l.exists l.i
