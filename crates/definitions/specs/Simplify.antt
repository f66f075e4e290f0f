-- Simplify (source document 005, stage 1): parts first. Constants vanish by the usual laws; a double negation goes; an implication to
-- bottom, or an iff with it, becomes the other part's simplified negation. A block keeps its body's free variables that it binds, in the
-- body's order, and vanishes if none is left.
use Rattle.std.specs.Prelude.{Bool, true, false, cond, List, [], ◌∷◌}
use Rattle.definitions.specs.Syntax.{Name, Op, and, or, imp, iff, Quant, Formula, top, bot, pred, eq, neg, bin, blk}
use Rattle.definitions.specs.Names.{keep, free}

unfoldable pub is_top : Formula → Bool
is_top top = true
is_top bot = false
is_top (pred p ts) = false
is_top (eq t u) = false
is_top (neg f) = false
is_top (bin o f g) = false
is_top (blk q vs f) = false

unfoldable pub is_bot : Formula → Bool
is_bot top = false
is_bot bot = true
is_bot (pred p ts) = false
is_bot (eq t u) = false
is_bot (neg f) = false
is_bot (bin o f g) = false
is_bot (blk q vs f) = false

-- the negation of a simplified formula, simplified
unfoldable pub turn : Formula → Formula
turn top = bot
turn bot = top
turn (pred p ts) = neg (pred p ts)
turn (eq t u) = neg (eq t u)
turn (neg f) = f
turn (bin o f g) = neg (bin o f g)
turn (blk q vs f) = neg (blk q vs f)

-- two simplified formulae joined, simplified
unfoldable pub tidy : Op → Formula → Formula → Formula
tidy and f g = cond (is_bot f) bot (cond (is_bot g) bot (cond (is_top f) g (cond (is_top g) f (bin and f g))))
tidy or f g = cond (is_top f) top (cond (is_top g) top (cond (is_bot f) g (cond (is_bot g) f (bin or f g))))
tidy imp f g = cond (is_bot f) top (cond (is_top g) top (cond (is_top f) g (cond (is_bot g) (turn f) (bin imp f g))))
tidy iff f g = cond (is_top f) g (cond (is_top g) f (cond (is_bot f) (turn g) (cond (is_bot g) (turn f) (bin iff f g))))

unfoldable pub over_kept : Quant → List Name → Formula → Formula
over_kept q [] f = f
over_kept q (x ∷ vs) f = blk q (x ∷ vs) f

unfoldable pub simplify : Formula → Formula
simplify top = top
simplify bot = bot
simplify (pred p ts) = pred p ts
simplify (eq t u) = eq t u
simplify (neg f) = turn (simplify f)
simplify (bin o f g) = tidy o (simplify f) (simplify g)
simplify (blk q vs f) = over_kept q (keep vs (free (simplify f))) (simplify f)
