-- `simplify::simplify` meets its contract.
use Rattle.std.proofs.Common.{arith, ap}
use Rattle.text.specs.declared.table.Table.{Table}
use Rattle.simplify.proofs.Reducing.{simplified}
use Rattle.simplify.proofs.simplify.Goals as goal

pub returns : goal.returns
returns c = simplified (omega arith) (ap (λ (t : Table). t.nodes) c.empty.ensures) c.reduce-went.ensures.safe c.reduce-went.ensures.does
