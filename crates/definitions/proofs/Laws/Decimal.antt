-- A number's decimal text writes that number and no other, and no other text writes it.
use Rattle.std.specs.Prelude.{◌≡◌, refl, [], ◌∷◌, ◌++◌, ℕ, zero, suc, ◌+◌, ◌*◌, ◌-◌, ◌/◌, ◌%◌, ◌<◌, ltb}
use Rattle.std.proofs.Common.{sym, ◌∙◌, ap, arith, ltb-false}
use Rattle.std.proofs.Math.Option.{none, some}
use Rattle.definitions.specs.Bytes.{Bytes, same, digits, decimal, value, number}
use Rattle.definitions.proofs.Laws.Bools.{by_cases}
use Rattle.definitions.proofs.Laws.Sets.{same_eq, same_refl}

value_append : (v : ℕ) (a b : Bytes) → value v (a ++ b) ≡ value (value v a) b
unfolding value
value_append v [] b = refl
value_append v (d ∷ a) b = value_append (v * 10 + (d - 48)) a b

value_digits : (k n : ℕ) → n < k → value 0 (digits k n) ≡ n
unfolding value digits
value_digits zero n l = absurd (omega arith)
value_digits (suc k) n l =
    by_cases (ltb n 10)
    (λ t. rw t (omega arith))
    (λ f. rw f (value_append 0 (digits k (n / 10)) ((48 + n % 10) ∷ [])
    ∙ rw (value_digits k (n / 10) (omega (arith, ltb-false n 10 f))) (omega arith)))

pub value_decimal : (n : ℕ) → value 0 (decimal n) ≡ n
unfolding decimal
value_decimal n = value_digits (suc n) n (omega arith)

pub decimal_inj : (j k : ℕ) → decimal j ≡ decimal k → j ≡ k
decimal_inj j k e = sym (value_decimal j) ∙ ap (value 0) e ∙ value_decimal k

pub number_decimal : (n : ℕ) → number (decimal n) ≡ some n
unfolding number
number_decimal n = rw (value_decimal n, same_refl (decimal n))

pub decimal_of_number : (s : Bytes) (n : ℕ) → number s ≡ some n → s ≡ decimal n
unfolding number
decimal_of_number s n e =
    by_cases (same (decimal (value 0 s)) s)
    (λ t. sym (same_eq (decimal (value 0 s)) s t) ∙ ap decimal (same_some (rw t at e)))
    (λ f. absurd (not_some (rw f at e)))
  where
    same_some : some (value 0 s) ≡ some n → value 0 s ≡ n
    same_some d = cc

    not_some : none ≡ some n → ⊥
    not_some d = let z : ◌≡◌ {A = ℕ} 0 1 = cc in omega arith
