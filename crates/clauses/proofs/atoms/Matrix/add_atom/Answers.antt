-- The atom is in the table already, or those from its place on are moved up by one.
use native.Mathlib.Omega.{arith}
use mathlib.Core.Path.{ap}
use lib.ListN.{length, length-take}
use Rattle.clauses.specs.Ranks.{cmp_parts}
use Rattle.clauses.proofs.Searching.{insert_there, put_in}
use Rattle.clauses.proofs.atoms.Matrix.add_atom.Goals as goal

pub returns-in_default-clause-does : goal.returns-in_default-clause-does
returns-in_default-clause-does c =
    let a = c.args in let m = a.self in
    let cmp = cmp_parts m.spellings.text.now m.spellings.made.now m.words.now in
    let e = c.words.ensures in
    λ f. rw e at (insert_there cmp a.part c.words.result.now c.in_default.field-0 (rw c.in_default.is at (c.find.ensures.does (rw e f))))

pub returns-in-Err-clause-does : goal.returns-in-Err-clause-does
returns-in-Err-clause-does c =
    let a = c.args in let m = a.self in
    let cmp = cmp_parts m.spellings.text.now m.spellings.made.now m.words.now in
    let e = c.words.ensures in
    λ f. put_in cmp a.part a.atoms.now.nodes a.atoms.now.used c.in-Err.at (rw e at (rw c.in-Err.is at (c.find.ensures.does (rw e f))))
    (omega (arith, c.in-Err.ensures.bound, ap length e, length-take a.atoms.now.used a.atoms.now.nodes)) (omega arith) _ c.shift.ensures.1
