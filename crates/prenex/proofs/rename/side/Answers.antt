-- The loop keeps `Goes`: the words before `at` are done, and the walk of those left gives the rest.
use native.Mathlib.Omega.{arith}
use mathlib.Core.Path.{sym, ◌∙◌}
use borrow.Author.Tests.{eqb-true, eqb-false}
use Rattle.std.proofs.lemmas.Result.{err_from_is_err_and}
use Rattle.prenex.proofs.Goes.{goes_start, goes_head, goes_stop, goes_var, goes_end}
use Rattle.prenex.proofs.rename.side.Goals as goal
use Rattle.prenex.proofs.rename.side.Goals.{then-has_kind+in_ok-one, else-has_kind}

pub loop-at-init : goal.loop-at-init
loop-at-init c = goes_start c.args.spellings.text.now c.args.mine.first c.requires.0 c.requires.1

pub returns-in_err-one : goal.returns-in_err-one
returns-in_err-one c =
    let p = err_from_is_err_and c.from_residual.result c.from_residual.ensures.1 in
    rw p.1
    (goes_stop c.args.spellings.text.now c.args.mine.first c.requires.0 c.loop-at.invariant (omega arith) (eqb-true _ 12
    (sym c.has_kind.ensures ∙ c.if-has_kind.true)) c.in_err-one.ensures)

pub loop-at-preserved : goal.loop-at-preserved
loop-at-preserved c =
    let T = c.args.spellings.text.now in
    elim c.if-has_kind.branch [
      | then-has_kind+in_ok-one w ↦
          rw (w.prefix-is, w.matrix-is, w.low-is)
          (goes_var T c.args.mine.first c.requires.0 c.loop-at.invariant (omega arith) (eqb-true _ 12
          (sym c.has_kind.ensures ∙ w.if-has_kind.true)) w.in_ok-one.ensures)
      | else-has_kind w ↦
          rw (w.prefix-is, w.matrix-is, w.low-is)
          (goes_head T c.args.mine.first c.requires.0 c.loop-at.invariant (omega arith) (eqb-false _ 12 (sym c.has_kind.ensures ∙ w.if-has_kind.false)))
    ]

pub returns : goal.returns
returns c = goes_end c.args.spellings.text.now c.args.mine.first c.requires.0 c.loop-at.invariant c.requires.1 c.loop-at-test.false
