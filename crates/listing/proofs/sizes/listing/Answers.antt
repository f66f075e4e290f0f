-- The line is measured, and then each text behind it.
use native.Mathlib.Omega.{arith}
use lib.ListN.{length}
use Rattle.definitions.specs.Clauses.{clauses_word, counted_line}
use Rattle.listing.specs.Texts.{stored_in, set_text}
use Rattle.listing.proofs.Loops.{counted_start, headless, counted_on, counted_out, counted_end}
use Rattle.listing.proofs.sizes.listing.Goals as goal

pub returns-in_err-size : goal.returns-in_err-size
unfolding set_text
returns-in_err-size c =
    let a = c.args in
    rw c.from_residual.ensures (headless (stored_in a.source) a.source.index.now (counted_line clauses_word (length a.source.index.now)) c.line.ensures c.in_err-size.was)

pub loop-word-init : goal.loop-word-init
unfolding set_text
loop-word-init c =
    let a = c.args in
    counted_start (stored_in a.source) a.source.index.now (counted_line clauses_word (length a.source.index.now)) c.line.ensures c.in_ok-size.was

pub returns-in_err-size-2 : goal.returns-in_err-size-2
unfolding set_text
returns-in_err-size-2 c =
    rw c.from_residual-in_err-size-2.ensures
    (counted_out _ _ _ c.loop-word.invariant (omega arith) (rw c.numbers.ensures at c.clause.ensures) c.in_err-size-2.was)

pub loop-word-preserved : goal.loop-word-preserved
unfolding set_text
loop-word-preserved c = counted_on _ _ _ c.loop-word.invariant (omega arith) (rw c.numbers.ensures at c.clause.ensures) c.in_ok-size-2.was

pub returns : goal.returns
unfolding set_text
returns c = counted_end _ _ _ c.loop-word.invariant (omega arith)
