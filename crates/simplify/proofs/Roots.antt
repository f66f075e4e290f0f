-- The kind of a formula's first word tells which formula it is.
use mathlib.Core.Path.{◌≡◌, refl, sym, ap, ◌∙◌}
use mathlib.Core.Bool.{false}
use mathlib.Core.List.{List, ◌∷◌}
use Prim.Native.Nat.{ℕ, ◌+◌, ◌<◌, ◌≤◌}
use native.Mathlib.Omega.{arith}
use native.Mathlib.Decide.{dec_le}
use lib.ListN.{length, get_or}
use lib.Seq.{slice}
use Rattle.definitions.specs.Bytes.{Bytes}
use Rattle.definitions.specs.Syntax.{Formula, top, bot, pred, eq, neg, bin, blk}
use Rattle.definitions.specs.Simplify.{is_top, is_bot, turn}
use Rattle.text.specs.Words.{token, tokens, kind_of_word, kind, code, root, below}
use Rattle.text.specs.WordLaws.{kind_is}
use Rattle.text.specs.Shapes.{code_splits, op_range, block_range}
use Rattle.substitution.specs.Slices.{slice_next, slice_none}

abbrev pub root_kind : Formula → ℕ
root_kind f = kind (root f)

-- the first word of a formula, and the tokens behind it
pub record Rooted (T M : Bytes) (O : List ℕ) (from end : ℕ) (f : Formula) : Type 0 where
  pub kind : kind_of_word (get_or O from 0) ≡ root_kind f
  pub behind : tokens T M (slice (from + 1) end O) ≡ below f

-- a formula has a first word
pub runs_on : (T M : Bytes) (O : List ℕ) (from end : ℕ) (f : Formula) → tokens T M (slice from end O) ≡ code f → from < end
runs_on T M O from end f e = go (dec_le end from)
  where
    go : Dec (end ≤ from) → from < end
    go (yes h) = let x = sym (ap (tokens T M) (slice_none from end O h)) ∙ e ∙ code_splits f in let z : ◌≡◌ {A = ℕ} 0 1 = cc in omega arith
    go (no h) = omega arith

pub rooted : (T M : Bytes) (O : List ℕ) (from end : ℕ) (f : Formula) → end ≤ length O → tokens T M (slice from end O) ≡ code f → Rooted T M O from end f
rooted T M O from end f l e =
    let y : token T M (get_or O from 0) ∷ tokens T M (slice (from + 1) end O) ≡ root f ∷ below f = sym (ap (tokens T M) (slice_next from end O 0 (runs_on T M O from end f e) l)) ∙ e ∙ code_splits f in
    let w : token T M (get_or O from 0) ≡ root f = cc in
    record { kind = sym (kind_is T M (get_or O from 0)) ∙ ap kind w; behind = cc }

pub top_of : (f : Formula) → root_kind f ≡ 0 → f ≡ top
top_of top e = refl
top_of bot e = absurd (omega arith)
top_of (pred p ts) e = absurd (omega arith)
top_of (eq t u) e = absurd (omega arith)
top_of (neg f) e = absurd (omega arith)
top_of (bin o f g) e = absurd (omega (arith, op_range o))
top_of (blk q vs f) e = absurd (omega (arith, block_range q))

pub bot_of : (f : Formula) → root_kind f ≡ 1 → f ≡ bot
bot_of top e = absurd (omega arith)
bot_of bot e = refl
bot_of (pred p ts) e = absurd (omega arith)
bot_of (eq t u) e = absurd (omega arith)
bot_of (neg f) e = absurd (omega arith)
bot_of (bin o f g) e = absurd (omega (arith, op_range o))
bot_of (blk q vs f) e = absurd (omega (arith, block_range q))

-- a negation turned is its part, and neither a constant nor a negation turned is negated
pub turn_not : (f : Formula) → root_kind f ≡ 2 → below f ≡ code (turn f)
unfolding turn
turn_not top e = absurd (omega arith)
turn_not bot e = absurd (omega arith)
turn_not (pred p ts) e = absurd (omega arith)
turn_not (eq t u) e = absurd (omega arith)
turn_not (neg f) e = refl
turn_not (bin o f g) e = absurd (omega (arith, op_range o))
turn_not (blk q vs f) e = absurd (omega (arith, block_range q))

pub turn_other : (f : Formula) → 2 < root_kind f → turn f ≡ neg f
unfolding turn
turn_other top e = absurd (omega arith)
turn_other bot e = absurd (omega arith)
turn_other (pred p ts) e = refl
turn_other (eq t u) e = refl
turn_other (neg f) e = absurd (omega arith)
turn_other (bin o f g) e = refl
turn_other (blk q vs f) e = refl

pub no_constant : (f : Formula) → 1 < root_kind f → (is_top f ≡ false) × (is_bot f ≡ false)
unfolding is_top is_bot
no_constant top e = absurd (omega arith)
no_constant bot e = absurd (omega arith)
no_constant (pred p ts) e = (refl, refl)
no_constant (eq t u) e = (refl, refl)
no_constant (neg f) e = (refl, refl)
no_constant (bin o f g) e = (refl, refl)
no_constant (blk q vs f) e = (refl, refl)
