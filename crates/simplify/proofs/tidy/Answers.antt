-- `simplify::tidy` meets its contract.
use Rattle.std.proofs.Common.{arith, rules}
use Rattle.simplify.proofs.Joining.{joins_left, joins_right, joins_both, joins_nothing}
use Rattle.simplify.proofs.tidy.Goals as goal

pub returns-then-middle-end : goal.returns-then-middle-end
returns-then-middle-end c = joins_nothing (omega arith) (omega arith) (omega arith) (omega arith)

pub returns-in-Some : goal.returns-in-Some
returns-in-Some c = joins_left (omega arith) (omega arith) (omega arith) (rw c.in-Some.is at c.constant_in.ensures) c.law_for.ensures c.settle.ensures

pub returns-in-Some-constant_in : goal.returns-in-Some-constant_in
returns-in-Some-constant_in c =
    joins_right (omega arith) (omega arith) (omega arith) (search rules) (rw c.in-Some-constant_in.is at c.constant_in-2.ensures) c.law_for-in-Some-constant_in.ensures c.settle-in-Some-constant_in.ensures

pub returns : goal.returns
returns c = joins_both (omega arith) (omega arith) (omega arith) (search rules) (search rules)
