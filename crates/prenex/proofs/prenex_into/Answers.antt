-- The weight decides first, then the walk.
use native.Mathlib.Omega.{arith}
use lib.ListN.{length-take}
use Rattle.prenex.proofs.Lengths.{first_long, second_long, none_long, empty_begins}
use Rattle.prenex.proofs.Whole.{no_rule, too_heavy, stopped, too_long_names, walked}
use Rattle.prenex.proofs.prenex_into.Goals as goal
use Rattle.prenex.proofs.prenex_into.Goals.{then-lengthy-via-then-lengthy, then-lengthy-via-else-lengthy+then-lengthy-2}

pub returns-in_default-clause-stage : goal.returns-in_default-clause-stage
returns-in_default-clause-stage c = rw c.untouched-in_default.ensures (no_rule _ _ _ c.in_default.ensures)

pub returns-then-rule-gt-WEIGHT-clause-stage : goal.returns-then-rule-gt-WEIGHT-clause-stage
returns-then-rule-gt-WEIGHT-clause-stage c =
    rw c.untouched-then-rule-gt-WEIGHT.ensures (too_heavy _ _ c.in-Some.ensures (omega arith) (omega (arith, c.if-rule-gt-WEIGHT.true)))

pub outward-walked-requires : goal.outward-walked-requires
outward-walked-requires c =
    rw (c.empty.ensures, c.empty-2.ensures) (empty_begins (omega arith), omega (arith, length-take c.in-Some.rule.next c.args.words.now))

pub returns-in-Err-clause-stage : goal.returns-in-Err-clause-stage
returns-in-Err-clause-stage c =
    rw c.from.ensures
    (stopped _ _ c.in-Some.ensures (omega arith) (omega arith) (rw (c.empty.ensures, c.empty-2.ensures) at c.in-Err.ensures))

pub returns-then-lengthy-clause-stage : goal.returns-then-lengthy-clause-stage
returns-then-lengthy-clause-stage c =
    too_long_names _ _ c.in-Some.ensures (omega arith) (omega arith) (rw (c.empty.ensures, c.empty-2.ensures) at c.in_default-walked.ensures)
    (elim c.then-lengthy.branch [
      | then-lengthy-via-then-lengthy w ↦ first_long _ _ (rw c.words.ensures at c.lengthy.ensures) w.if-lengthy.true
      | then-lengthy-via-else-lengthy+then-lengthy-2 w ↦ second_long _ _ (rw w.words-else-lengthy.ensures at w.lengthy-else-lengthy.ensures) w.if-lengthy-2.true
    ])

pub returns-clause-stage : goal.returns-clause-stage
returns-clause-stage c =
    walked _ _ c.in-Some.ensures (omega arith) (omega arith) (rw (c.empty.ensures, c.empty-2.ensures) at c.in_default-walked.ensures)
    (none_long _ _ (rw c.words.ensures at c.lengthy.ensures) (rw c.words-else-lengthy.ensures at c.lengthy-else-lengthy.ensures) c.if-lengthy.false c.if-lengthy-2.false)
