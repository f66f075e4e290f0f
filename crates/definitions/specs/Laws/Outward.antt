-- The order of blocks. In the prenex form the blocks of a rule stand in reading order (an iff read as its two implications, left to right
-- first), each as its sign has it: flipped once for each `not` and each premise around it. So no block comes out before one that it stood
-- inside. A block keeps its number of variables; renaming changes their names alone.
use Rattle.std.specs.Prelude.{Bool, not, cond, List, [], ◌∷◌, ◌++◌, ℕ, length}
use Rattle.definitions.specs.Syntax.{and, or, imp, iff, Quant, Formula, top, bot, pred, eq, neg, bin, blk}
use Rattle.definitions.specs.Negation.{flip}
use Rattle.definitions.specs.Prenex.{Prefix, plain, more}

-- a block: its quantifier, and how many variables it has
pub record Block : Type 0 where
  pub quantifier : Quant
  pub variables : ℕ

abbrev pub turned : Bool → Block → Block
turned b k = record { quantifier = cond b (flip k.quantifier) k.quantifier; variables = k.variables }

-- the blocks of a formula under a sign, in reading order
unfoldable pub blocks : Bool → Formula → List Block
blocks s top = []
blocks s bot = []
blocks s (pred p ts) = []
blocks s (eq t u) = []
blocks s (neg f) = blocks (not s) f
blocks s (bin and f g) = blocks s f ++ blocks s g
blocks s (bin or f g) = blocks s f ++ blocks s g
blocks s (bin imp f g) = blocks (not s) f ++ blocks s g
blocks s (bin iff f g) = (blocks (not s) f ++ blocks s g) ++ (blocks (not s) g ++ blocks s f)
blocks s (blk q vs f) = turned s (record { quantifier = q; variables = length vs }) ∷ blocks s f

-- the blocks of a prefix
unfoldable pub prefix_blocks : Prefix → List Block
prefix_blocks plain = []
prefix_blocks (more q vs p) = record { quantifier = q; variables = length vs } ∷ prefix_blocks p
