-- Without room nothing is printed; otherwise the state says what is.
use mathlib.Core.Path.{sym}
use Rattle.stream.specs.Machine.{due_print}
use Rattle.stream.proofs.PrintLaws.{prints_put, nothing_due, done_put}
use Rattle.stream.proofs.print.due.Goals as goal

pub returns-in-First : goal.returns-in-First
returns-in-First c = nothing_due _ _ _ _ c.in-First.is

pub returns-in-Second : goal.returns-in-Second
unfolding due_print
returns-in-Second c = rw c.in-Second.is (prints_put c.if-out-lt-ROOM.false (done_put _ c.put_done.ensures))

pub returns-in-Text : goal.returns-in-Text
unfolding due_print
returns-in-Text c = rw c.in-Text.is (prints_put c.if-out-lt-ROOM.false (rw (sym c.saturating_sub.ensures) c.put_rule.ensures))

pub returns-in-Skipped : goal.returns-in-Skipped
unfolding due_print
returns-in-Skipped c = rw c.in-Skipped.is (prints_put c.if-out-lt-ROOM.false (c.put_unnamed.ensures _ _ _ _))
