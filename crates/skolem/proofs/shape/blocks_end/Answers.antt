-- The blocks end where a word behind one is no block's, or with the words.
use native.Mathlib.Omega.{arith}
use mathlib.Core.Path.{sym, ◌∙◌}
use Rattle.skolem.proofs.LookLaws.{ends_on, ends_here, ends_last}
use Rattle.skolem.proofs.shape.blocks_end.Goals as goal
use Rattle.skolem.proofs.shape.blocks_end.Goals.{then-loop-end-test+else-is_block, else-loop-end-test}

pub loop-end-preserved : goal.loop-end-preserved
loop-end-preserved c =
    let l = c.loop-end in rw c.count.ensures.0 (ends_on c.args.words.now l.end l.invariant c.loop-end-test.true (sym c.is_block.ensures ∙ c.if-is_block.true))

pub returns : goal.returns
returns c =
    let l = c.loop-end in elim c.loop-end-test.branch [
      | then-loop-end-test+else-is_block w ↦ (omega (arith, c.min.ensures), λ T M. c.min.ensures ∙ ends_here c.args.words.now l.end l.invariant w.loop-end-test.true (sym w.is_block.ensures ∙ w.if-is_block.false) T M)
      | else-loop-end-test w ↦ (omega (arith, c.min.ensures), λ T M. c.min.ensures ∙ ends_last c.args.words.now l.end l.invariant w.loop-end-test.false T M)
    ]
