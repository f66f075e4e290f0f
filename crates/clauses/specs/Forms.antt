-- The forms of a plan's words in their lowest two bits.
use Rattle.std.specs.Prelude.{ℕ}
use Rattle.clauses.specs.declared.plan.Form.{Form}
use Rattle.clauses.specs.declared.plan.Form.TheVariants.{Constant, Leaf, Sum, Product}

abbrev pub bits : Form → ℕ
bits Constant = 0
bits Leaf = 1
bits Sum = 2
bits Product = 3
