-- Without room nothing is printed; otherwise the state says what is.
use mathlib.Core.Path.{sym, ◌∙◌}
use Rattle.stream.specs.Machine.{last_print}
use Rattle.stream.proofs.PrintLaws.{prints_put, second_done, second_refused, refused_last, unnamed_last}
use Rattle.stream.proofs.print.last.Goals as goal

pub returns-in-First : goal.returns-in-First
returns-in-First c = refused_last _ _ c.if-out-lt-ROOM.false c.put_refusal.ensures c.in-First.is

pub returns-in-Second-default-eq0 : goal.returns-in-Second-default-eq0
unfolding last_print
returns-in-Second-default-eq0 c =
    let i = c.in-Second-default-eq0 in
    rw i.is (prints_put c.if-out-lt-ROOM.false (second_done _ _ (sym i.matched-is ∙ i.matched-test) c.put_done.ensures))

pub returns-in-Second : goal.returns-in-Second
unfolding last_print
returns-in-Second c =
    let i = c.in-Second in
    rw i.is (prints_put c.if-out-lt-ROOM.false (second_refused _ _ (λ e. i.matched-test.1 (i.matched-is ∙ e)) c.put_refusal-in-Second.ensures))

pub returns-in-Label : goal.returns-in-Label
returns-in-Label c = unnamed_last _ _ c.if-out-lt-ROOM.false c.put_unnamed.ensures c.in-Label.is

pub returns-in-Text : goal.returns-in-Text
unfolding last_print
returns-in-Text c = rw c.in-Text.is (prints_put c.if-out-lt-ROOM.false c.put_rule.ensures)

pub returns-in-Poised : goal.returns-in-Poised
unfolding last_print
returns-in-Poised c = rw c.in-Poised.is (prints_put c.if-out-lt-ROOM.false (c.put_early.ensures _ _))
