-- The invariant: what stands before i comes before the new clause.
use native.Mathlib.Omega.{arith}
use mathlib.Core.Path.{◌≡◌, refl}
use Rattle.clauses.specs.Ranks.{part}
use Rattle.clauses.specs.Sets.{cmp_numbers}
use Rattle.clauses.proofs.Carry.{sought_past, sought_same, sought_here, sought_end}
use Rattle.clauses.proofs.Growing.{within_put}
use Rattle.clauses.proofs.Orderings.{compared}
use Rattle.clauses.proofs.sets.add_clause.Goals as goal

pub returns-in-Less-clause-within : goal.returns-in-Less-clause-within
returns-in-Less-clause-within c =
    let l = c.loop-i in let a = c.args in let s = a.set.now in
    λ used w h. within_put used a.word l.i s.count s.index c.shift.new.out (omega arith) c.shift.ensures.1 h w

pub returns-in-Less-clause-does : goal.returns-in-Less-clause-does
returns-in-Less-clause-does c =
    let l = c.loop-i in let a = c.args in let s = a.set.now in let D = s.literals in
    sought_here cmp_numbers (part D) (part D a.word) s.index s.count (omega arith) l.i (omega arith) l.invariant c.shift.new.out a.word refl
    (compared c.in-Less.is c.cmp.ensures c.part-clause.ensures c.part.ensures) c.shift.ensures.1

pub returns-in-Equal-clause-does : goal.returns-in-Equal-clause-does
returns-in-Equal-clause-does c =
    let l = c.loop-i in let a = c.args in let s = a.set.now in let D = s.literals in
    sought_same cmp_numbers (part D) (part D a.word) s.index s.count (omega arith) l.i (omega arith) l.invariant
    (compared c.in-Equal.is c.cmp.ensures c.part-clause.ensures c.part.ensures)

pub loop-i-preserved : goal.loop-i-preserved
loop-i-preserved c =
    let l = c.loop-i in
    sought_past _ _ _ _ _ (omega arith) _ (omega arith) l.invariant (compared c.in-Greater.is c.cmp.ensures c.part-clause.ensures c.part.ensures)

pub returns-clause-within : goal.returns-clause-within
returns-clause-within c =
    let a = c.args in let s = a.set.now in
    λ used w h. within_put used a.word s.count s.count s.index c.shift-2.new.out (omega arith) c.shift-2.ensures.1 h w

pub returns-clause-does : goal.returns-clause-does
returns-clause-does c =
    let z : c.loop-i.i ≡ c.args.set.now.count = omega arith in
    let a = c.args in let s = a.set.now in let D = s.literals in
    sought_end cmp_numbers (part D) (part D a.word) s.index s.count (omega arith) s.count refl (rw z at c.loop-i.invariant) c.shift-2.new.out a.word refl c.shift-2.ensures.1
