use Rattle.std.proofs.Common.{rules}
use native.Mathlib.Omega.{arith}
use Rattle.clauses.proofs.Carry.{shifted}
use Rattle.clauses.proofs.sets.shift.Goals as goal

pub returns : goal.returns
returns c =
    let a = c.args in (search rules, rw c.copy_within.ensures.after (shifted a.out.now a.i a.n a.x (omega arith) (omega arith)))
