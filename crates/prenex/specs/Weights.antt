-- How much a formula weighs once its blocks are out. An iff, written out as two implications joined by and, has each side twice; nothing
-- else changes, and names have no part in it.
use Rattle.std.specs.Prelude.{◌++◌, ◌≡◌, ℕ, ◌+◌, ◌*◌, ◌≤◌, ◌<◌, min, length, drop, List, Option, MatchOption}
use Rattle.definitions.specs.Bytes.{Bytes}
use Rattle.definitions.specs.Limits.{house}
use Rattle.definitions.specs.Syntax.{Terms, count, term_weight, terms_weight, and, or, imp, iff, Formula, top, bot, pred, eq, neg, bin, blk, weight}
use Rattle.text.specs.Words.{Token, tokens, terms_code, code}
use Rattle.prenex.specs.declared.weight.Weighed.{Weighed}

unfoldable pub outward_weight : Formula → ℕ
outward_weight top = 1
outward_weight bot = 1
outward_weight (pred p ts) = 1 + terms_weight ts
outward_weight (eq t u) = 1 + (term_weight t + term_weight u)
outward_weight (neg f) = 1 + outward_weight f
outward_weight (bin and f g) = 1 + (outward_weight f + outward_weight g)
outward_weight (bin or f g) = 1 + (outward_weight f + outward_weight g)
outward_weight (bin imp f g) = 1 + (outward_weight f + outward_weight g)
outward_weight (bin iff f g) = 3 + 2 * (outward_weight f + outward_weight g)
outward_weight (blk q vs f) = 1 + length vs + outward_weight f

-- one past the limit: a weight that is larger still is told as this
abbrev pub clamped : ℕ → ℕ
clamped n = min (1 + house.weight) n

-- `due` terms from `at` on end there, if all of them stand in the source
pub record Ends (S : List ℕ) (at due : ℕ) (r : Option ℕ) : Type 0 where
  -- whatever the source holds
  pub near : MatchOption r Unit (λ n. (at ≤ n) × (n ≤ length S))
  pub ends : (T M : Bytes) (ts : Terms) (rest : List Token) → count ts ≡ due → tokens T M (drop at S) ≡ terms_code ts ++ rest
      → MatchOption r ⊥ (λ n. n ≡ at + terms_weight ts)

-- an atom with `due` terms behind its word
pub record Atom (S : List ℕ) (at due : ℕ) (r : Option Weighed) : Type 0 where
  pub near : MatchOption r Unit (λ w. (at < w.next) × (w.next ≤ length S) × (w.weight ≤ house.weight))
  pub ends : (T M : Bytes) (ts : Terms) (rest : List Token) → count ts ≡ due → tokens T M (drop (at + 1) S) ≡ terms_code ts ++ rest
      → MatchOption r ⊥ (λ w. (w.next ≡ at + 1 + terms_weight ts) × (w.weight ≡ 1 + terms_weight ts))

-- a formula from `at` on: where it ends, and what it weighs once its blocks are out
pub record Weighs (S : List ℕ) (at : ℕ) (r : Option Weighed) : Type 0 where
  -- whatever the source holds
  pub near : MatchOption r Unit (λ w. (at < w.next) × (w.next ≤ length S) × (w.weight ≤ 1 + house.weight))
  pub told : (T M : Bytes) (f : Formula) (rest : List Token) → tokens T M (drop at S) ≡ code f ++ rest
      → MatchOption r ⊥ (λ w. (w.next ≡ at + weight f) × (w.weight ≡ clamped (outward_weight f)))
