-- The domain 0 .. n, of any size from 1 on: the laws speak of all of these.
use Rattle.std.specs.Prelude.{◌≡◌, refl, ◌≢◌, true, false, ℕ, zero, suc, ◌≤◌, ◌<◌, ltb, eqb, length}
use Rattle.std.proofs.Common.{◌∙◌, ap, arith, ltb→lt, lt→ltb, eqb→eq, le_refl}
use mathlib.Core.HLevel.{Σ_prop_path}
use Rattle.std.proofs.Math.Bool.{Bool-set}
use mathlib.Core.List.{List, [], ◌∷◌, Memᴰ}
use Rattle.std.proofs.Math.Dec.{eqb_refl}
use Rattle.definitions.specs.Bytes.{same}
use Rattle.definitions.specs.Syntax.{Formula, all, blk, eq, ex, neg, var}
use Rattle.definitions.specs.Truth.{Domain, Meaning, any, block, every, truth, val}
use Rattle.definitions.proofs.Laws.Bools.{T→, by_cases, clash, →T}
use Rattle.definitions.specs.Laws.Finite.{Below}

pub below_path : (n : ℕ) (a b : Below n) → a.0 ≡ b.0 → a ≡ b
below_path n a b e = Σ_prop_path (λ i. Bool-set (ltb i n) true) e

pub less : (i n : ℕ) → i < n → ltb i n ≡ true
less i n h = T→ (ltb i n) (lt→ltb i n h)

pub down : (n k : ℕ) → suc k ≤ n → k ≤ n
down n k h = omega arith

unfoldable pub upto : (n k : ℕ) → k ≤ n → List (Below n)
upto n zero h = []
upto n (suc k) h = (k, less k n h) ∷ upto n k (down n k h)

pub upto_all : (n k : ℕ) (h : k ≤ n) (a : Below n) → a.0 < k → Memᴰ a (upto n k h)
unfolding upto
upto_all n zero h a l = absurd (omega arith)
upto_all n (suc k) h a l =
    by_cases (eqb a.0 k)
    (λ t. Memᴰ.head (below_path n a (k, less k n h) (eqb→eq a.0 k (→T (eqb a.0 k) t))))
    (λ f.
    let differs : a.0 ≢ k = λ e. clash (ap (λ z. eqb z k) e ∙ T→ (eqb k k) (eqb_refl k)) f in
    Memᴰ.tail (upto_all n k (down n k h) a (omega arith)))

pub upto_length : (n k : ℕ) (h : k ≤ n) → length (upto n k h) ≡ k
unfolding upto
upto_length n zero h = refl
upto_length n (suc k) h = ap suc (upto_length n k (down n k h))

abbrev pub finite : ℕ → Domain
finite n = record {
  Elem = Below (suc n);
  elems = upto (suc n) (suc n) (le_refl (suc n));
  whole = λ a. upto_all (suc n) (suc n) (le_refl (suc n)) a (ltb→lt a.0 (suc n) (→T (ltb a.0 (suc n)) a.1));
  point = (0, less 0 (suc n) (omega arith));
  equal = λ a b. eqb a.0 b.0;
  equal_refl = λ a. T→ (eqb a.0 a.0) (eqb_refl a.0);
  equal_eq = λ a b e. below_path (suc n) a b (eqb→eq a.0 b.0 (→T (eqb a.0 b.0) e));
}

empty_meaning : (n : ℕ) → Meaning (finite n)
empty_meaning n = record { const = λ c. (finite n).point; func = λ f ds. (finite n).point; rel = λ p ds. false }

-- for each there is another: true of two elements, false of one
another : Formula
another = blk all ((120 ∷ []) ∷ []) (blk ex ((121 ∷ []) ∷ []) (neg (eq (var (120 ∷ [])) (var (121 ∷ [])))))

of_two : truth (finite 1) (empty_meaning 1) another (λ x. (finite 1).point) ≡ true
unfolding truth block val every any same another empty_meaning upto
of_two = refl

of_one : truth (finite 0) (empty_meaning 0) another (λ x. (finite 0).point) ≡ false
unfolding truth block val every any same another empty_meaning upto
of_one = refl
