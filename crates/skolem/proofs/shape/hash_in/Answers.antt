use Rattle.skolem.proofs.LookLaws.{hash_any}
use Rattle.skolem.proofs.shape.hash_in.Goals as goal

pub returns : goal.returns
returns c = rw (← hash_any c.args.name.now) c.contains.ensures.value
