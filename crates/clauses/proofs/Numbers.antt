-- Facts about numbers: how `compare` answers, and that clamping goes through sums and products.
use mathlib.Core.Path.{◌≡◌, sym, ◌∙◌}
use Prim.Native.Nat.compare
use Prim.Native.Nat.{Ordering}
use Prim.Native.Nat.{ℕ, zero, suc, ◌+◌, ◌*◌, ◌<◌, ◌≤◌, compare}
use native.Mathlib.Omega.{arith}
use native.Mathlib.Nat.{mul-le-mul, mul-zero, zero-mul, min-eq_left}
use native.Mathlib.Decide.{dec_le}
use Rattle.definitions.proofs.Laws.Order.{itself, compare_orders}
use Rattle.clauses.specs.Plans.{clamped}

pub compare_lt : (a b : ℕ) → a < b → compare a b ≡ Ordering.lt
compare_lt zero zero h = absurd (omega arith)
compare_lt zero (suc b) h = compare.zero-suc b
compare_lt (suc a) zero h = absurd (omega arith)
compare_lt (suc a) (suc b) h = compare.suc-suc a b ∙ compare_lt a b (omega arith)

pub compare_gt : (a b : ℕ) → b < a → compare a b ≡ Ordering.gt
compare_gt zero zero h = absurd (omega arith)
compare_gt zero (suc b) h = absurd (omega arith)
compare_gt (suc a) zero h = compare.suc-zero a
compare_gt (suc a) (suc b) h = compare.suc-suc a b ∙ compare_gt a b (omega arith)

pub compare_same : (a b : ℕ) → a ≡ b → compare a b ≡ Ordering.eq
compare_same a b e = rw e (itself compare_orders b)

-- two numbers, one way round or the other
pub either_way : {P : Type 0} (a b : ℕ) → (a ≤ b → P) → (b < a → P) → P
either_way a b f g = elim (dec_le a b) [ yes h ↦ f h | no n ↦ g (omega arith) ]

-- a number added on both sides
pub compare_add : (k a b : ℕ) → compare (k + a) (k + b) ≡ compare a b
compare_add k a b = either_way a b
    (λ h. either_way b a (λ g. compare_same (k + a) (k + b) (omega arith) ∙ sym (compare_same a b (omega arith)))
    (λ g. compare_lt (k + a) (k + b) (omega arith) ∙ sym (compare_lt a b (omega arith))))
    (λ h. compare_gt (k + a) (k + b) (omega arith) ∙ sym (compare_gt a b (omega arith)))

-- the clamp goes through sums and products
pub clamp_add : (a b : ℕ) → clamped (clamped a + clamped b) ≡ clamped (a + b)
clamp_add a b = omega arith

past : (x y : ℕ) → 2049 ≤ x → 2049 ≤ y → clamped x ≡ clamped y
past x y h k = omega arith

pub clamp_mul : (a b : ℕ) → clamped (clamped a * clamped b) ≡ clamped (a * b)
clamp_mul a zero = rw (mul-zero a, mul-zero (clamped a))
clamp_mul zero (suc b) = rw (zero-mul (suc b), zero-mul (clamped (suc b)))
clamp_mul (suc a) (suc b) =
    either_way (suc a) 2049
    (λ h. either_way (suc b) 2049 (λ k. rw (min-eq_left h, min-eq_left k))
    (λ k. past _ _ (mul_both 1 2049 (clamped (suc a)) (clamped (suc b)) (omega arith) (omega arith)) (mul_both 1 2049 (suc a) (suc b) (omega arith) (omega arith))))
    (λ h. past _ _ (mul_both 2049 1 (clamped (suc a)) (clamped (suc b)) (omega arith) (omega arith)) (mul_both 2049 1 (suc a) (suc b) (omega arith) (omega arith)))
  where
    mul_both : (k l m n : ℕ) → k ≤ m → l ≤ n → k * l ≤ m * n
    mul_both k l m n h g = mul-le-mul h g

pub clamp_sums : (a b c d : ℕ) → clamped (clamped a * clamped b + clamped c * clamped d) ≡ clamped (a * b + c * d)
clamp_sums a b c d = omega (arith, clamp_mul a b, clamp_mul c d)
