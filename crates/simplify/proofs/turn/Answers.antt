-- `simplify::turn` meets its contract.
use Rattle.std.proofs.Common.{arith, rules}
use Rattle.simplify.proofs.Moving.{becomes_nothing, turned_top, turned_bottom, turned_not, turned_other}
use Rattle.simplify.proofs.turn.Goals as goal

pub returns-then-from-end : goal.returns-then-from-end
returns-then-from-end c = becomes_nothing (omega arith) (omega arith)

pub returns-in-Some-Top : goal.returns-in-Some-Top
returns-in-Some-Top c = turned_top (omega arith) (omega arith) (omega arith) (search rules) c.put.ensures

pub returns-in-Some-Bottom : goal.returns-in-Some-Bottom
returns-in-Some-Bottom c = turned_bottom (omega arith) (omega arith) (omega arith) (search rules) c.put-in-Some-Bottom.ensures

pub returns-in-Some-Not : goal.returns-in-Some-Not
returns-in-Some-Not c = turned_not (omega arith) (omega arith) (omega arith) (omega arith) (search rules) c.shift.ensures

pub returns-in_default : goal.returns-in_default
returns-in_default c =
    turned_other (omega arith) (omega arith) (omega arith) (search rules) c.put-behind.ensures c.shift-in_default.ensures
