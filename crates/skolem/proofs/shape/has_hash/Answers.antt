-- A formula's tokens tell whether it has a `#`.
use Rattle.skolem.proofs.LookLaws.{hash_told}
use Rattle.skolem.proofs.shape.has_hash.Goals as goal

pub returns : goal.returns
returns c = hash_told _ _ _ c.any_hashed.ensures
