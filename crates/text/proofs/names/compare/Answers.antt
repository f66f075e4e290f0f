use Rattle.text.proofs.Comparing.{compared}
use Rattle.text.proofs.names.compare.Goals as goal

pub returns : goal.returns
returns c = compared c.args.a.now c.args.b.now c.cmp.result c.cmp.ensures
