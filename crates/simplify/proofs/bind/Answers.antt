-- `simplify::bind` meets its contract.
use Rattle.std.proofs.Common.{arith, rules}
use Rattle.std.proofs.lemmas.Grind.{common_steps}
use Rattle.simplify.proofs.Binding.{small, binds_none, binds_some}
use Rattle.simplify.proofs.bind.Goals as goal

pub returns-then-is_empty : goal.returns-then-is_empty
returns-then-is_empty c = binds_none (small c.args.kind) (omega arith) (omega arith) (omega arith) (omega arith) (search rules) c.shift.ensures

pub returns : goal.returns
returns c =
    binds_some (small c.args.kind) (omega arith) (omega arith) (omega arith) (omega arith) (grind (arith, common_steps)) (omega arith) (rw c.from.ensures at c.paste-body.ensures) c.shift-2.ensures
