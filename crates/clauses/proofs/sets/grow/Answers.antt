-- The sorted clause is a new part of the literals, and goes into the set by that part.
use native.Mathlib.Omega.{arith}
use mathlib.Core.Path.{refl, ◌∙◌}
use Rattle.clauses.proofs.Growing.{copied, got, got_length, grown}
use Rattle.clauses.proofs.sets.grow.Goals as goal

pub returns-then-size-used-clause-does : goal.returns-then-size-used-clause-does
returns-then-size-used-clause-does c =
    let a = c.args in let n = c.walk.new.clause in
    λ p rest x i l. record { grows = λ short room v. absurd (omega (arith, got_length a.clause.now.numbers n.numbers n.used _ (omega arith) (omega arith) short (c.walk.ensures p rest x i l))) }

pub returns-clause-does : goal.returns-clause-does
returns-clause-does c =
    let a = c.args in let s = a.set.now in let n = c.walk.new.clause in let t = c.add_clause.ensures in
    let e = c.copy_from_slice.ensures.after ∙ c.literals.ensures.0 in
    let k = copied s.literals n.numbers c.copy_from_slice.new.self a.used n.used _ (omega arith) e (omega arith) in
    λ p rest x i l. record {
      grows = λ short room v.
          grown s.literals _ _ a.used n.used k.1 (omega arith) k.0 s _ _ refl t.safe.2 (omega arith)
          (e ∙ got a.clause.now.numbers n.numbers n.used _ (omega arith) (omega arith) short (c.walk.ensures p rest x i l))
          (got_length a.clause.now.numbers n.numbers n.used _ (omega arith) (omega arith) short (c.walk.ensures p rest x i l)) t.within t.does v;
    }
