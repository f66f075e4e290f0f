-- The lengths of the parts, which are short enough to be added.
use native.Mathlib.Omega.{arith}
use mathlib.Core.Path.{ap}
use lib.ListN.{length, length-append}
use Rattle.writer.proofs.Tokens.{body_due, body_unknown, body_plain, body_counted, body_named}
use Rattle.writer.proofs.body_size.Goals as goal

pub returns-then-left-gt0 : goal.returns-then-left-gt0
returns-then-left-gt0 c = grind (arith, body_due)

pub returns-in_default : goal.returns-in_default
returns-in_default c = grind (arith, body_unknown)

pub overflow_add-result-in-Predicate-2 : goal.overflow_add-result-in-Predicate-2
overflow_add-result-in-Predicate-2 c = omega (arith, c.keyword-key.ensures)

pub returns-in-Predicate : goal.returns-in-Predicate
returns-in-Predicate c =
    let a = c.args in
    let b = body_counted a.spellings a.word a.left c.if-left-gt0.false c.in-Some.ensures c.keyword-key.ensures.0 c.in-Predicate.is in
    let n = simp length-append at (ap length b) in
    grind arith

pub returns-in-Variable : goal.returns-in-Variable
returns-in-Variable c =
    let a = c.args in
    let b = body_named a.spellings a.word a.left c.if-left-gt0.false c.in-Some.ensures c.keyword-key.ensures.0 c.in-Variable.is in
    let n = simp length-append at (ap length b) in
    omega arith

pub returns-in_default-kind : goal.returns-in_default-kind
returns-in_default-kind c =
    let a = c.args in
    let n = c.in_default-kind in
    let b = body_plain a.spellings a.word a.left c.if-left-gt0.false c.in-Some.ensures c.keyword-key.ensures.0
    n.not-Predicate n.not-Function n.not-Variable n.not-Constant in
    grind arith
