-- A formula is told by the kind of its first word: what is to be shown of any formula is to be shown of those of that kind.
use Rattle.std.specs.Prelude.{◌≡◌, refl, List, [], ◌∷◌, ◌++◌, ℕ, zero, suc, ◌+◌, ◌-◌, ◌<◌, ◌≤◌, length, get_or}
use Rattle.std.proofs.Common.{sym, ap, ◌∙◌, append-nil, arith}
use Rattle.std.proofs.Math.ListN.{get_or-eq_default}
use Rattle.definitions.specs.Bytes.{Bytes}
use Rattle.definitions.specs.Syntax.{Name, Term, Terms, count, Op, and, or, imp, iff, Quant, all, ex, Formula, top, bot, pred, eq, neg, bin, blk}
use Rattle.text.specs.Words.{sign, token, kind_of_word, count_of, term_code, terms_code, op_kind, block_kind, code, sides, root, below}
use Rattle.text.specs.WordLaws.{sign_word}

pub sides_code : (t u : Term) → terms_code (sides t u) ≡ term_code t ++ term_code u
unfolding terms_code
sides_code t u = rw append-nil

pub code_splits : (f : Formula) → code f ≡ root f ∷ below f
unfolding code
code_splits top = refl
code_splits bot = refl
code_splits (pred p ts) = refl
code_splits (eq t u) = ap (sign 7 0 [] ∷◌) (sym (sides_code t u))
code_splits (neg f) = refl
code_splits (bin o f g) = refl
code_splits (blk q vs f) = refl

pub op_range : (o : Op) → (2 < op_kind o) × (op_kind o < 7)
op_range and = omega arith
op_range or = omega arith
op_range imp = omega arith
op_range iff = omega arith

pub block_range : (q : Quant) → (7 < block_kind q) × (block_kind q < 10)
block_range all = omega arith
block_range ex = omega arith

-- a statement of each formula whose first word has the kind k and the count n
abbrev pub Each : ℕ → ℕ → (Formula → Type 0) → Type 0
Each k n P =
    get_or
    (P top ∷ P bot ∷ ((a : Formula) → P (neg a)) ∷
    ((a b : Formula) → P (bin and a b)) ∷ ((a b : Formula) → P (bin or a b)) ∷
    ((a b : Formula) → P (bin imp a b)) ∷ ((a b : Formula) → P (bin iff a b)) ∷ ((t u : Term) → P (eq t u)) ∷
    ((vs : List Name) → length vs ≡ n → (a : Formula) → P (blk all vs a)) ∷ ((vs : List Name) → length vs ≡ n → (a : Formula) → P (blk ex vs a)) ∷
    ((p : Name) (ts : Terms) → count ts ≡ n → P (pred p ts)) ∷ [])
    k
    (Unit {0})

pub record Shapes (k n : ℕ) (P : Formula → Type 0) : Type 0 where
  pub shape : Each k n P

pub by_shape : (T M : Bytes) (w : ℕ) (P : Formula → Type 0) {k : ℕ} → kind_of_word w ≡ k → Shapes k (count_of w) P
    → (f : Formula) → token T M w ≡ root f → P f
by_shape T M w P {k} h s f e = go f e
  where
    at_kind : {j n : ℕ} {x : Name} → token T M w ≡ sign j n x → Each j (count_of w) P
    at_kind e = rw (sym h ∙ (sign_word T M w e).0) at s.shape

    go : (f : Formula) → token T M w ≡ root f → P f
    go top e = at_kind e
    go bot e = at_kind e
    go (pred p ts) e = at_kind e p ts (sym (sign_word T M w e).1)
    go (eq t u) e = at_kind e t u
    go (neg a) e = at_kind e a
    go (bin and a b) e = at_kind e a b
    go (bin or a b) e = at_kind e a b
    go (bin imp a b) e = at_kind e a b
    go (bin iff a b) e = at_kind e a b
    go (blk all vs a) e = at_kind e vs (sym (sign_word T M w e).1) a
    go (blk ex vs a) e = at_kind e vs (sym (sign_word T M w e).1) a

-- the kind is known, or two tests tell it
module _ {k n : ℕ} {P : Formula → Type 0} where
  pub shaped : (j : ℕ) → k ≡ j → Each j n P → Shapes k n P
  shaped j e x = record { shape = rw e x }

  pub shaped_constant : k ≤ 1 → P top → P bot → Shapes k n P
  shaped_constant h x y = go k refl h
    where
      go : (j : ℕ) → k ≡ j → j ≤ 1 → Shapes k n P
      go zero e l = shaped 0 e x
      go (suc zero) e l = shaped 1 e y
      go (suc (suc j)) e l = absurd (omega arith)

  pub shaped_binary : 2 < k → k < 7 → ((o : Op) → op_kind o ≡ k → (a b : Formula) → P (bin o a b)) → Shapes k n P
  shaped_binary h l x = go (k - 3) (omega arith) (omega arith)
    where
      go : (j : ℕ) → k ≡ j + 3 → j < 4 → Shapes k n P
      go zero e l = shaped 3 e (x and (sym e))
      go (suc zero) e l = shaped 4 e (x or (sym e))
      go (suc (suc zero)) e l = shaped 5 e (x imp (sym e))
      go (suc (suc (suc zero))) e l = shaped 6 e (x iff (sym e))
      go (suc (suc (suc (suc j)))) e l = absurd (omega arith)

  pub shaped_block : 7 < k → k ≤ 9 → ((q : Quant) → block_kind q ≡ k → (vs : List Name) → length vs ≡ n → (a : Formula) → P (blk q vs a))
      → Shapes k n P
  shaped_block h l x = go (k - 8) (omega arith) (omega arith)
    where
      go : (j : ℕ) → k ≡ j + 8 → j < 2 → Shapes k n P
      go zero e l = shaped 8 e (x all (sym e))
      go (suc zero) e l = shaped 9 e (x ex (sym e))
      go (suc (suc j)) e l = absurd (omega arith)

  -- no formula has another kind
  pub no_shape : 10 < k → Shapes k n P
  no_shape h = record { shape = rw (get_or-eq_default _ (Unit {0}) h) tt }
