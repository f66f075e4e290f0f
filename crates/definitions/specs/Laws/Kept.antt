-- What the stages keep, as a test of a formula's variables and functions.
use Rattle.std.specs.Prelude.{Bool, true, ◌&&◌, ℕ}
use Rattle.definitions.specs.Syntax.{Formula, Name, Term, Terms, app, bin, blk, bot, con, cons, count, eq, neg, nil, pred, top, var}
use Rattle.definitions.specs.Truth.{every}

-- each variable of a formula, in a block or in a term, passes a test, and so does the number of arguments of each function
module _ (p : Name → Bool) (w : ℕ → Bool) where
  unfoldable mutual
    pub term_each : Term → Bool
    term_each (var x) = p x
    term_each (con c) = true
    term_each (app f ts) = w (count ts) && terms_each ts

    pub terms_each : Terms → Bool
    terms_each nil = true
    terms_each (cons t ts) = term_each t && terms_each ts

  unfoldable pub each : Formula → Bool
  each top = true
  each bot = true
  each (pred q ts) = terms_each ts
  each (eq t u) = term_each t && term_each u
  each (neg f) = each f
  each (bin o f g) = each f && each g
  each (blk q vs f) = every p vs && each f
