-- Negation form (source document 002, stage 4): a negation is handed to the second routine, which hands its parts back to the first.
-- Nothing is simplified; constants inside stay.
use Rattle.definitions.specs.Syntax.{and, or, imp, iff, Quant, all, ex, Formula, top, bot, pred, eq, neg, bin, blk}

abbrev pub flip : Quant → Quant
flip all = ex
flip ex = all

unfoldable mutual
  pub nnf : Formula → Formula
  nnf top = top
  nnf bot = bot
  nnf (pred p ts) = pred p ts
  nnf (eq t u) = eq t u
  nnf (neg f) = push_negation f
  nnf (bin and f g) = bin and (nnf f) (nnf g)
  nnf (bin or f g) = bin or (nnf f) (nnf g)
  nnf (bin imp f g) = bin or (push_negation f) (nnf g)
  nnf (bin iff f g) = bin and (bin or (push_negation f) (nnf g)) (bin or (nnf f) (push_negation g))
  nnf (blk q vs f) = blk q vs (nnf f)

  pub push_negation : Formula → Formula
  push_negation top = bot
  push_negation bot = top
  push_negation (pred p ts) = neg (pred p ts)
  push_negation (eq t u) = neg (eq t u)
  push_negation (neg f) = nnf f
  push_negation (bin and f g) = bin or (push_negation f) (push_negation g)
  push_negation (bin or f g) = bin and (push_negation f) (push_negation g)
  push_negation (bin imp f g) = bin and (nnf f) (push_negation g)
  push_negation (bin iff f g) = bin or (bin and (nnf f) (push_negation g)) (bin and (push_negation f) (nnf g))
  push_negation (blk q vs f) = blk (flip q) vs (push_negation f)
