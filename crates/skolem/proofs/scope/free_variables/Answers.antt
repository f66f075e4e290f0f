-- The loop keeps that the rest of the matrix adds what is left to add.
use Rattle.skolem.proofs.ScopeLaws.{gathered, passed, gathering_end}
use Rattle.skolem.proofs.scope.free_variables.Goals as goal
use Rattle.skolem.proofs.scope.free_variables.Goals.{then-is_free, else-is_free}

pub loop-word-preserved : goal.loop-word-preserved
loop-word-preserved c =
    let a = c.args in let s = a.spellings in let l = c.loop-word in elim c.if-is_free.branch [
      | then-is_free w ↦ rw (w.scope-is, w.push.ensures) (gathered s.text.now s.made.now _ a.matrix.now _ _ l.invariant c.loop-word-test.true (rw (← c.entries.ensures) c.is_free.ensures) w.if-is_free.true)
      | else-is_free w ↦ rw w.scope-is (passed s.text.now s.made.now _ a.matrix.now _ _ l.invariant c.loop-word-test.true (rw (← c.entries.ensures) c.is_free.ensures) w.if-is_free.false)
    ]

pub returns : goal.returns
returns c = let a = c.args in let s = a.spellings in gathering_end s.text.now s.made.now _ a.matrix.now _ _ c.loop-word.invariant c.loop-word-test.false
