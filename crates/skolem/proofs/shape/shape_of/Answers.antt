-- The looks at the matrix and at the blocks tell the shape.
use Rattle.skolem.proofs.LookLaws.{other_told, prenex_told, skolem_told}
use Rattle.skolem.proofs.shape.shape_of.Goals as goal

pub returns-then-any_block : goal.returns-then-any_block
returns-then-any_block c = λ T M f h. other_told c.split.ensures T M f h c.any_block.ensures c.if-any_block.true

pub returns-then-any_exists : goal.returns-then-any_exists
returns-then-any_exists c =
    λ T M f h. prenex_told c.split.ensures T M f h c.any_block.ensures c.if-any_block.false c.any_exists.ensures c.if-any_exists.true

pub returns-else-any_exists : goal.returns-else-any_exists
returns-else-any_exists c =
    λ T M f h. skolem_told c.split.ensures T M f h c.any_block.ensures c.if-any_block.false c.any_exists.ensures c.if-any_exists.false
