-- The free variables stand each once. A prenex formula without iff is its own prenex form, so that the Rust's restart at each block changes nothing.
use Rattle.std.specs.Prelude.{Bool, true, false, not, ◌&&◌, List, [], ◌∷◌}
use Rattle.definitions.specs.Syntax.{Formula, Name, and, bin, blk, bot, eq, iff, imp, neg, or, pred, top}
use Rattle.definitions.specs.Names.{mem}

unfoldable pub once : List Name → Bool
once [] = true
once (x ∷ l) = not (mem x l) && once l

-- no block and no iff
unfoldable pub flat : Formula → Bool
flat top = true
flat bot = true
flat (pred p ts) = true
flat (eq t u) = true
flat (neg f) = flat f
flat (bin and f g) = flat f && flat g
flat (bin or f g) = flat f && flat g
flat (bin imp f g) = flat f && flat g
flat (bin iff f g) = false
flat (blk q vs f) = false
