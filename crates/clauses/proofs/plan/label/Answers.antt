-- The invariant: the words before i have ranks, where the atoms of all can be found, and those from i on are as they were.
use native.Mathlib.Omega.{arith}
use Rattle.clauses.proofs.Collecting.{mapped_more, mapped_all}
use Rattle.clauses.proofs.plan.label.Goals as goal

pub loop-word-preserved : goal.loop-word-preserved
loop-word-preserved c = let l = c.loop-word in mapped_more _ _ c.args.plan.now l.plan l.word-index _ (omega arith) l.invariant c.relabel.ensures

pub returns : goal.returns
returns c = let l = c.loop-word in (l.invariant.len, mapped_all _ _ c.args.plan.now l.plan l.word-index (omega arith) l.invariant)
