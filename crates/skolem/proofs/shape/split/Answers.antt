-- The blocks are the front of the words, and the matrix is the rest.
use Rattle.skolem.proofs.LookLaws.{parts_told}
use Rattle.skolem.proofs.shape.split.Goals as goal

pub returns : goal.returns
returns c = parts_told c.blocks_end.ensures.1 c.split_at.ensures.front c.split_at.ensures.back
