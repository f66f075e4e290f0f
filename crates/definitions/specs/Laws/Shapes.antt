-- The shape of a negation form, and that of a matrix which is ready for distribution.
use Rattle.std.specs.Prelude.{Bool, true, false, ◌&&◌}
use Rattle.definitions.specs.Syntax.{Op, and, or, imp, iff, Formula, top, bot, pred, eq, neg, bin, blk}
use Rattle.definitions.specs.Prenex.{no_block}

-- Negation form, blocks allowed.
abbrev pub is_atom : Formula → Bool
is_atom top = false
is_atom bot = false
is_atom (pred p ts) = true
is_atom (eq t u) = true
is_atom (neg f) = false
is_atom (bin o f g) = false
is_atom (blk q vs f) = false

abbrev pub and_or : Op → Bool
and_or and = true
and_or or = true
and_or imp = false
and_or iff = false

unfoldable pub negated : Formula → Bool
negated top = true
negated bot = true
negated (pred p ts) = true
negated (eq t u) = true
negated (neg f) = is_atom f
negated (bin o f g) = and_or o && (negated f && negated g)
negated (blk q vs f) = negated f

-- ready for distribution: a negation form without blocks
unfoldable pub ready : Formula → Bool
ready f = negated f && no_block f
