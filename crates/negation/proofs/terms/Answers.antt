-- `negation::terms` meets its contract. The loop's invariant is resumption: a run that copies the terms that are left, from where the loop
-- stands, copies all of them. The measure is what is left of the words.
use Rattle.std.proofs.Common.{◌∙◌, arith, length-set}
use Rattle.negation.proofs.TermLaws.{copy_on, no_copy, words_end, none_due}
use Rattle.negation.proofs.terms.Goals as goal

pub returns-in_err-word-clause-does : goal.returns-in_err-word-clause-does
returns-in_err-word-clause-does c =
    let l = c.loop-left.invariant in
    let e = rw c.in_err-word.ensures.ok_part at c.split_first.ensures.cases in λ T M. (l.on T M _ _ (words_end e (omega arith))).terms

pub returns-in_err-push-clause-does : goal.returns-in_err-push-clause-does
returns-in_err-push-clause-does c =
    let l = c.loop-left.invariant in λ T M.
    (l.on T M _ _ (no_copy (omega arith) c.in_err-push.ensures.0 c.from_residual-in_err-push.ensures.0)).terms

pub loop-left-preserved : goal.loop-left-preserved
loop-left-preserved c =
    let l = c.loop-left.invariant in
    let y = rw c.in_ok-word.ensures.ok_part at c.split_first.ensures.cases in record {
      forth = omega (arith, y.1);
      room = rw c.in_ok-push.ensures.1 (omega (arith, c.in_ok-push.ensures.0));
      size = rw c.in_ok-push.ensures.1 (length-set _ _ _ ∙ l.size);
      few = rw c.in_ok-push.ensures.1 (omega arith);
      on = λ T M r t₂ s. l.on T M r t₂ (copy_on y.0 (omega arith) c.in_ok-push.ensures (rw (c.arguments.ensures.0 T M) at s));
    }

pub returns-clause-does : goal.returns-clause-does
returns-clause-does c = let l = c.loop-left.invariant in λ T M. (l.on T M _ _ (none_due (omega arith))).terms
