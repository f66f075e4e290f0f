-- What a prenex form that is given looks like, at the level of bytes: blocks, and then a matrix with no block and no iff; and the blocks
-- are the simplified rule's in reading order, iffs written out, each flipped by its sign.
use Rattle.std.specs.Prelude.{◌≡◌, true, false}
use Rattle.definitions.specs.Bytes.{Bytes}
use Rattle.definitions.specs.Syntax.{Formula}
use Rattle.definitions.specs.Limits.{Limits}
use Rattle.definitions.specs.RuleText.{written}
use Rattle.definitions.specs.Reading.{read, tree}
use Rattle.definitions.specs.Simplify.{simplify}
use Rattle.definitions.specs.Prenex.{Prenex, formula}
use Rattle.definitions.specs.Laws.Once.{flat}
use Rattle.definitions.specs.Laws.Outward.{blocks, prefix_blocks}

-- the text s is a prenex form of the rule that stands in the text
pub record PrenexTold (L : Limits) (text s : Bytes) : Type 0 where
  pub rule : Formula
  pub form : Prenex
  pub reads : read L text ≡ tree rule
  pub writes : s ≡ written (formula form)
  pub shape : flat form.matrix ≡ true
  pub order : prefix_blocks form.prefix ≡ blocks false (simplify rule)
