-- The loop keeps that what the first i words become is written.
use native.Mathlib.Omega.{arith}
use mathlib.Core.List.{[], flat_map}
use Rattle.text.specs.Words.{token}
use Rattle.skolem.specs.Pass.{filled}
use Rattle.skolem.proofs.FillLaws.{added_none, run_on, run_stop, filled_one, filled_joins}
use Rattle.skolem.proofs.matrix.Terms.fill.Goals as goal

pub loop-word-init : goal.loop-word-init
unfolding flat_map
loop-word-init c = added_none c.args.out.now

pub returns-in_err-end : goal.returns-in_err-end
returns-in_err-end c =
    let a = c.args in let s = a.self in let d = token s.spellings.text.now s.spellings.made.now in
    rw c.from_residual.ensures (run_stop (filled d s.scope.now s.prefix.now s.heads.now) (filled_joins d s.scope.now s.prefix.now s.heads.now) [] a.matrix.now
    c.loop-word.invariant c.loop-word-test.true (omega arith) (rw (filled_one d s.scope.now s.prefix.now s.heads.now) c.in_err-end.ensures))

pub loop-word-preserved : goal.loop-word-preserved
loop-word-preserved c =
    let a = c.args in let s = a.self in let d = token s.spellings.text.now s.spellings.made.now in
    run_on (filled d s.scope.now s.prefix.now s.heads.now) (filled_joins d s.scope.now s.prefix.now s.heads.now) [] a.matrix.now
    c.loop-word.invariant c.loop-word-test.true (rw (filled_one d s.scope.now s.prefix.now s.heads.now) c.in_ok-end.ensures)
