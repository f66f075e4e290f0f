-- The loop keeps that the survey of the rest, from i on, completes that of the whole.
use native.Mathlib.Omega.{arith}
use Rattle.std.proofs.lemmas.List.{set-set}
use Rattle.skolem.proofs.ScopeLaws.{block_begun, head_made, entry_put, entry_passed, surveying_end}
use Rattle.skolem.proofs.scope.survey.Goals as goal
use Rattle.skolem.proofs.scope.survey.Goals.{then-left-eq0, else-left-eq0, then-exists, else-exists+then-not-binds, else-exists+else-not-binds}

pub loop-i-preserved : goal.loop-i-preserved
loop-i-preserved c =
    let a = c.args in let s = a.spellings in let l = c.loop-i in elim c.if-left-eq0.branch [
      | then-left-eq0 w ↦ rw (w.heads-is, w.scope-is, w.left-is, w.exists-is) (
          block_begun s.text.now s.made.now a.prefix.now (omega arith) (omega arith) l.invariant w.if-left-eq0.true w.block_size-left.ensures w.has_kind-exists.ensures)
      | else-left-eq0 w ↦ rw (w.heads-is, w.scope-is, w.left-is, w.exists-is) (elim w.if-exists.branch [
        | then-exists v ↦ rw (v.heads-is, v.scope-is, set-set) (
            head_made s.text.now s.made.now a.prefix.now (omega arith) (omega arith) l.invariant w.if-left-eq0.false v.if-exists.true (
            rw (← v.entries.ensures) v.blank.ensures))
        | else-exists+then-not-binds v ↦ rw (v.heads-is, v.scope-is, v.push.ensures) (
            entry_put s.text.now s.made.now a.prefix.now (omega arith) (omega arith) l.invariant w.if-left-eq0.false v.if-exists.false v.binds.ensures v.if-not-binds.true)
        | else-exists+else-not-binds v ↦ rw (v.heads-is, v.scope-is) (
            entry_passed s.text.now s.made.now a.prefix.now (omega arith) (omega arith) l.invariant w.if-left-eq0.false v.if-exists.false v.binds.ensures v.if-not-binds.false)
      ])
    ]

pub returns : goal.returns
returns c = let a = c.args in let s = a.spellings in surveying_end s.text.now s.made.now a.prefix.now (omega arith) (omega arith) c.loop-i.invariant
