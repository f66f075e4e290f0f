-- The steps one after another: the form fits, or it is too large.
use native.Mathlib.Omega.{arith}
use lib.ListN.{length-take, length-append, length-drop}
use Rattle.skolem.proofs.StageEnds.{form_heavy, form_made}
use Rattle.skolem.proofs.skolemise.Goals as goal

pub returns-in-Some : goal.returns-in-Some
returns-in-Some c =
    let a = c.args in
    form_made a.text.now a.made.now a.used a.counters a.prefix.now a.matrix.now (omega arith)
    (simp length-take (omega arith)) c.free_variables-scope.ensures c.survey.ensures (omega arith) c.in_ok-end.ensures (omega arith) c.foralls-kept.ensures (omega arith) a.body.now.nodes (omega arith)
    c.fill.new.out _ (omega arith) (simp (length-append, length-drop) (omega arith)) (rw (← c.entries.ensures) c.in-Some.ensures) (omega arith)

pub returns-in-None : goal.returns-in-None
returns-in-None c =
    let a = c.args in
    form_heavy a.text.now a.made.now a.used a.counters a.prefix.now a.matrix.now (omega arith)
    (simp length-take (omega arith)) c.free_variables-scope.ensures c.survey.ensures (omega arith) c.in_ok-end.ensures (omega arith) c.foralls-kept.ensures (omega arith) a.body.now.nodes (omega arith)
    (omega arith) (simp (length-append, length-drop) (omega arith)) (rw (← c.entries.ensures) c.in-None.ensures)
