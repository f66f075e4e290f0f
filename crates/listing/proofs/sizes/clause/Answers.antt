-- The line is measured, and then each text behind it.
use native.Mathlib.Omega.{arith}
use lib.ListN.{length}
use Rattle.definitions.specs.Clauses.{clause_word, counted_line}
use Rattle.listing.specs.Texts.{literal_in, clause_text}
use Rattle.listing.proofs.Loops.{counted_start, headless, counted_on, counted_out, counted_end}
use Rattle.listing.proofs.sizes.clause.Goals as goal

pub returns-in_err-size : goal.returns-in_err-size
unfolding clause_text
returns-in_err-size c =
    let a = c.args in
    rw c.from_residual.ensures (headless (literal_in a.source) a.numbers.now (counted_line clause_word (length a.numbers.now)) c.line.ensures c.in_err-size.was)

pub loop-number-init : goal.loop-number-init
unfolding clause_text
loop-number-init c =
    let a = c.args in
    counted_start (literal_in a.source) a.numbers.now (counted_line clause_word (length a.numbers.now)) c.line.ensures c.in_ok-size.was

pub returns-in_err-size-2 : goal.returns-in_err-size-2
unfolding clause_text
returns-in_err-size-2 c =
    rw c.from_residual-in_err-size-2.ensures (counted_out _ _ _ c.loop-number.invariant (omega arith) c.literal.ensures c.in_err-size-2.was)

pub loop-number-preserved : goal.loop-number-preserved
unfolding clause_text
loop-number-preserved c = counted_on _ _ _ c.loop-number.invariant (omega arith) c.literal.ensures c.in_ok-size-2.was

pub returns : goal.returns
unfolding clause_text
returns c = counted_end _ _ _ c.loop-number.invariant (omega arith)
