-- The head is written, and then its arguments one behind another.
use native.Mathlib.Omega.{arith}
use mathlib.Core.Path.{refl}
use mathlib.Core.List.{[], ◌∷◌}
use Rattle.skolem.proofs.FillLaws.{run_on, run_stop, head_lacks, term_lacks}
use Rattle.skolem.proofs.matrix.Terms.put_term.Goals as goal

pub returns-in_err-end : goal.returns-in_err-end
returns-in_err-end c =
    let a = c.args in let s = a.self in
    rw c.from_residual.ensures (head_lacks s.spellings.text.now s.spellings.made.now s.scope.now a.head a.out.now a.used c.in_err-end.ensures)

pub returns-in_err-end-2 : goal.returns-in_err-end-2
returns-in_err-end-2 c =
    let a = c.args in let s = a.self in
    rw c.from_residual-in_err-end-2.ensures (term_lacks s.spellings.text.now s.spellings.made.now s.scope.now a.head (c.arguments.ensures.0 _ _) c.min.ensures a.out.now a.used (
    run_stop (λ s. s) (λ x y. refl) (a.head ∷ []) _ c.loop-word.invariant c.loop-word-test.true (omega arith) c.in_err-end-2.ensures))

pub loop-word-preserved : goal.loop-word-preserved
loop-word-preserved c = run_on (λ s. s) (λ x y. refl) (c.args.head ∷ []) _ c.loop-word.invariant c.loop-word-test.true c.in_ok-end-2.ensures
