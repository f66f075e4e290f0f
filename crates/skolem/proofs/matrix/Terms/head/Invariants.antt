use mathlib.Core.Path.{◌≡◌}
use mathlib.Core.List.{map}
use mathlib.Core.Bool.{Bool}
use Prim.Native.Nat.{ℕ}
use Rattle.text.specs.declared.names.Spellings.{Spellings}
use Rattle.text.specs.Words.{spell, token}
use Rattle.skolem.specs.Pass.{pick, binds}
use Rattle.skolem.proofs.FillLaws.{picked}
use Rattle.skolem.proofs.matrix.Terms.head.Given as goal

abbrev named : Spellings → ℕ → ℕ → Bool
named s w b = binds (spell s.text.now s.made.now w) (token s.text.now s.made.now b)

abbrev pub invariant-loop-i : goal.invariant-loop-i
invariant-loop-i l =
    let s = l.self in picked (named s.spellings l.word) s.prefix.now s.heads.now l.word l.i ≡ pick l.word (map (named s.spellings l.word) s.prefix.now) s.heads.now
