-- Decimal digits one by one: how many steps `digits` may take does not matter once it is enough, so a number's digits are those of its
-- tenth and then its last one.
use Rattle.std.specs.Prelude.{◌≡◌, [], ◌∷◌, ◌++◌, ℕ, zero, suc, ◌+◌, ◌*◌, ◌^◌, ◌/◌, ◌%◌, ◌≤◌, ◌<◌, ltb, length}
use Rattle.std.proofs.Common.{◌∙◌, ap, arith, ltb-false, lt-ltb, le-ltb, length-append, pow-suc}
use Rattle.definitions.specs.Bytes.{Bytes, digits, decimal}
use Rattle.definitions.proofs.Laws.Bools.{by_cases}

digits_same : (k j n : ℕ) → n < k → n < j → digits k n ≡ digits j n
unfolding digits
digits_same zero j n h l = absurd (omega arith)
digits_same (suc k) zero n h l = absurd (omega arith)
digits_same (suc k) (suc j) n h l =
    by_cases (ltb n 10)
    (λ t. rw t)
    (λ f. rw f (ap (λ (s : Bytes). s ++ ((48 + n % 10) ∷ [])) (digits_same k j (n / 10) (omega (arith, ltb-false n 10 f)) (omega (arith, ltb-false n 10 f)))))

pub decimal_one : (n : ℕ) → n < 10 → decimal n ≡ (48 + n) ∷ []
unfolding decimal digits
decimal_one n h = rw (lt-ltb n 10 h)

pub decimal_more : (n : ℕ) → 10 ≤ n → decimal n ≡ decimal (n / 10) ++ ((48 + n % 10) ∷ [])
unfolding decimal digits
decimal_more n h =
    rw (le-ltb n 10 h) (ap (λ (s : Bytes). s ++ ((48 + n % 10) ∷ [])) (digits_same n (suc (n / 10)) (n / 10) (omega arith) (omega arith)))

digits_length : (k n : ℕ) → length (digits k n) ≤ k
unfolding digits
digits_length zero n = omega arith
digits_length (suc k) n =
    by_cases (ltb n 10)
    (λ t. rw t (omega arith))
    (λ f. rw f (omega (arith, length-append (digits k (n / 10)) ((48 + n % 10) ∷ []), digits_length k (n / 10))))

pub decimal_length : (n : ℕ) → length (decimal n) ≤ n + 1
unfolding decimal
decimal_length n = omega (arith, digits_length (suc n) n)

-- one digit more than its tenth
pub length_more : (n : ℕ) → 10 ≤ n → length (decimal n) ≡ length (decimal (n / 10)) + 1
length_more n h = ap length (decimal_more n h) ∙ length-append (decimal (n / 10)) ((48 + n % 10) ∷ [])

one_ten : (k : ℕ) → 0 < 10 ^ k
one_ten zero = omega arith
one_ten (suc k) = omega (arith, pow-suc 10 k, one_ten k)

-- one digit more than the highest power of ten within the number
pub decimal_power : (k n : ℕ) → 10 ^ k ≤ n → n < 10 * 10 ^ k → length (decimal n) ≡ k + 1
decimal_power zero n h l = ap length (decimal_one n (omega arith))
decimal_power (suc k) n h l =
    let p = 10 ^ k in
    let e : 10 ^ suc k ≡ 10 * p = omega (arith, pow-suc 10 k) in
    let above : p ≤ n / 10 = omega arith in
    let below : n / 10 < 10 * p = omega arith in
    omega (arith, length_more n (omega (arith, one_ten k)), decimal_power k (n / 10) above below)
