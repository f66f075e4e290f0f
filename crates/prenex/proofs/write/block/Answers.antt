-- The loop keeps `Laying`: the head and the first i variables stand behind the prefix.
use native.Mathlib.Omega.{arith}
use Rattle.std.proofs.lemmas.Result.{err_from_is_err_and}
use Rattle.prenex.proofs.Appending.{run_at, run_below}
use Rattle.prenex.proofs.Blocking.{no_place, laying_on, laying_long, laying_done}
use Rattle.prenex.proofs.write.block.Goals as goal
use Rattle.prenex.proofs.write.block.Goals.{then-prefix-variables-gt-WEIGHT-via-then-prefix-variables-gt-WEIGHT, then-prefix-variables-gt-WEIGHT-via-else-prefix-variables-gt-WEIGHT+then-at-variables}

pub returns-then-prefix-variables-gt-WEIGHT : goal.returns-then-prefix-variables-gt-WEIGHT
returns-then-prefix-variables-gt-WEIGHT c =
    elim c.then-prefix-variables-gt-WEIGHT.branch [
      | then-prefix-variables-gt-WEIGHT-via-then-prefix-variables-gt-WEIGHT w ↦ no_place _ _ c.requires.0 (λ z. omega arith) c.requires.1
      | then-prefix-variables-gt-WEIGHT-via-else-prefix-variables-gt-WEIGHT+then-at-variables w ↦ no_place _ _ c.requires.0
          (λ z. omega arith) c.requires.1
    ]

pub returns-in_err-variable : goal.returns-in_err-variable
returns-in_err-variable c =
    let p = err_from_is_err_and c.from_residual.result c.from_residual.ensures.1 in
    let e = run_at c.args.src.now c.args.at _ c.loop-word.word-index c.loop-word-test.true in
    rw (p.1, p.2) (laying_long c.requires.0 c.args.head c.requires.3 c.requires.4 (omega arith) c.loop-word.invariant c.args.variables
    (rw e at c.in_err-variable.ensures)
    (omega (arith, run_below c.args.src.now c.args.at _ c.loop-word.word-index c.loop-word-test.true)))

pub loop-word-preserved : goal.loop-word-preserved
loop-word-preserved c =
    let e = run_at c.args.src.now c.args.at _ c.loop-word.word-index c.loop-word-test.true in
    laying_on c.loop-word.invariant (rw e at c.in_ok-variable.ensures)

pub returns : goal.returns
returns c =
    laying_done c.requires.0 c.args.head c.requires.3 c.requires.4 (omega arith) c.loop-word.invariant c.args.variables (omega arith)
