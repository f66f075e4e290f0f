-- The literal is in the clause already, or those from its place on are moved up by one.
use native.Mathlib.Omega.{arith}
use Prim.Native.Nat.{compare}
use Rattle.clauses.specs.Search.{Falls}
use Rattle.clauses.proofs.Orderings.{turned_numbers}
use Rattle.clauses.proofs.Searching.{searched, insert_there, put_in}
use Rattle.clauses.proofs.sets.Clause.add.Goals as goal

pub returns-in_default : goal.returns-in_default
returns-in_default c =
    let a = c.args in let l = c.literals.result.now in let e = c.literals.ensures.0 in
    λ h f.
    let g : Falls (compare a.x) l = rw e f in
    let s = searched (compare a.x) l g _ (λ w. turned_numbers a.x w) c.binary_search.result c.binary_search.ensures.bound c.binary_search.ensures.position in
    rw e at (insert_there compare a.x l c.in_default.field-0 (rw c.in_default.is at s))

pub returns-in-Err : goal.returns-in-Err
returns-in-Err c =
    let a = c.args in let l = c.literals.result.now in let e = c.literals.ensures.0 in
    λ h f.
    let g : Falls (compare a.x) l = rw e f in
    let s = searched (compare a.x) l g _ (λ w. turned_numbers a.x w) c.binary_search.result c.binary_search.ensures.bound c.binary_search.ensures.position in
    put_in compare a.x a.self.now.numbers a.self.now.used c.in-Err.at (rw e at (rw c.in-Err.is at s))
    (omega (arith, c.in-Err.ensures.bound, c.literals.ensures.1)) (omega arith) _ c.shift.ensures.1
