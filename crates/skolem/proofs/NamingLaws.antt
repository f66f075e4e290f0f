-- A name is a letter, `#` and at most five digits; the word of its head points at it, and whatever is written behind it leaves it as it is.
use mathlib.Core.Path.{◌≡◌, refl, sym, ap, ◌∙◌}
use mathlib.Core.List.{List, [], ◌∷◌}
use Prim.Native.Nat.{ℕ, zero, suc, ◌+◌, ◌-◌, ◌*◌, ◌/◌, ◌%◌, ◌≤◌, ◌<◌}
use native.Mathlib.Omega.{arith}
use borrow.Author.Tests.{eq-eqb, lt-ltb}
use lib.Dec.{ltb}
use lib.ListN.{length, take, drop, length-append}
use lib.Seq.{take-nil, take_at, drop_at, take-take, drop-drop, length-take-le}
use Rattle.definitions.specs.Bytes.{Bytes, digits, decimal}
use Rattle.definitions.proofs.Laws.Bools.{by_cases}
use Rattle.text.specs.Words.{spell, kind_of_word, count_of, size_of, start_of}
use Rattle.writer.specs.Writer.{Wrote, Puts}
use Rattle.writer.specs.PutLaws.{wrote_both}
use Rattle.skolem.specs.Counting.{last_number}
use Rattle.skolem.specs.Naming.{longest, far, Grown, IsNamed}

-- At most five digits: one more for ten times as many numbers.
abbrev DigitsBelow : ℕ → ℕ → Type 0
DigitsBelow b j = (k n : ℕ) → n < b → length (digits k n) ≤ j

one_digit : DigitsBelow 10 1
unfolding digits
one_digit zero n h = omega arith
one_digit (suc k) n h = rw (lt-ltb n 10 h) (omega arith)

one_more_digit : (b j : ℕ) → DigitsBelow b j → 1 ≤ j → DigitsBelow (10 * b) (j + 1)
unfolding digits
one_more_digit b j h l zero n s = omega arith
one_more_digit b j h l (suc k) n s =
    by_cases (ltb n 10) (λ t. rw t (omega arith)) (λ f. rw f (omega (arith, length-append (digits k (n / 10)) ((48 + n % 10) ∷ []), h k (n / 10) (omega arith))))

pub decimal_short : (n : ℕ) → n ≤ last_number → length (decimal n) ≤ 5
unfolding decimal
decimal_short n h =
    one_more_digit 10000 4 (one_more_digit 1000 3 (one_more_digit 100 2 (one_more_digit 10 1 one_digit (omega arith)) (omega arith)) (omega arith)) (omega arith) (suc n) n (omega arith)

take_drop : {A : Type 0} (m n : ℕ) (l : List A) → take m (drop n l) ≡ drop n (take (n + m) l)
take_drop m zero l = let e : 0 + m ≡ m = omega arith in rw e
take_drop m (suc n) [] = take-nil m ∙ sym (ap (drop (suc n)) (take-nil (suc n + m)))
take_drop m (suc n) (x ∷ l) = let e : suc n + m ≡ suc (n + m) = omega arith in rw e (take_drop m n l)

-- What is written behind the made names.
pub grown_wrote : {M M' s : Bytes} {at end : ℕ} → at ≤ length M → Wrote M at s M' end → Grown M at M' end
grown_wrote {M} {M'} {s} {at} {end} h w = record {
  size = w.size;
  on = omega (arith, w.ends);
  front = sym (take-take at end M' (omega (arith, w.ends))) ∙ ap (take at) w.front ∙ take_at (take at M) s at (length-take-le at M h);
  back = w.back;
}

pub grown_none : (M : Bytes) (at : ℕ) → Grown M at M at
grown_none M at = record { size = refl; on = omega arith; front = refl; back = refl }

pub grown_both : {M M₁ M₂ : Bytes} {at n end : ℕ} → Grown M at M₁ n → Grown M₁ n M₂ end → Grown M at M₂ end
grown_both {M} {M₁} {M₂} {at} {n} {end} p q = record {
  size = q.size ∙ p.size;
  on = omega (arith, p.on, q.on);
  front = sym (take-take at n M₂ p.on) ∙ ap (take at) q.front ∙ take-take at n M₁ p.on ∙ p.front;
  back = q.back ∙ further;
}
  where
    split : n + (end - n) ≡ end
    split = omega (arith, q.on)

    further : drop end M₁ ≡ drop end M
    further = ap (λ (k : ℕ). drop k M₁) (sym split) ∙ sym (drop-drop (end - n) n M₁) ∙ ap (drop (end - n)) p.back ∙ drop-drop (end - n) n M ∙ ap (λ (k : ℕ). drop k M) split

-- the word of a head with a name of that size at that place
abbrev pub with_name : ℕ → ℕ → ℕ → ℕ
with_name head size at = head % 1024 + 1024 + 2048 * size + 131072 * at

module _ (head size at : ℕ) (short : size < 64) (near : at < far) where
  word_kind : kind_of_word (with_name head size at) ≡ kind_of_word head
  word_kind = omega arith

  word_count : count_of (with_name head size at) ≡ count_of head
  word_count = omega arith

  word_made : (with_name head size at) / 1024 % 2 ≡ 1
  word_made = omega arith

  word_size : size_of (with_name head size at) ≡ size
  word_size = omega arith

  word_start : start_of (with_name head size at) ≡ at
  word_start = omega arith

  word_spelled : (T M : Bytes) → spell T M (with_name head size at) ≡ take size (drop at M)
  word_spelled T M = rw (eq-eqb ((with_name head size at) / 1024 % 2) 1 word_made, word_size, word_start)

-- the three pieces of a name
pub record Written (M : Bytes) (at letter number : ℕ) (M' : Bytes) (end : ℕ) : Type 0 where
  pub name : Wrote M at (letter ∷ 35 ∷ decimal number) M' end
  pub short : end ≤ at + longest

pub pieces : {M M₁ M₂ M₃ : Bytes} {at n₁ n₂ n₃ letter number : ℕ} → Puts M at (letter ∷ []) M₁ n₁ → Puts M₁ n₁ (35 ∷ []) M₂ n₂ → Puts M₂ n₂ (decimal number) M₃ n₃
    → at + longest ≤ length M → number ≤ last_number → Written M at letter number M₃ n₃
pieces {M} {M₁} {M₂} {M₃} {at} {n₁} {n₂} {n₃} {letter} {number} p q r h s =
    let a : Wrote M at (letter ∷ []) M₁ n₁ = p.room (omega arith) in
    let b : Wrote M₁ n₁ (35 ∷ []) M₂ n₂ = q.room (omega (arith, a.ends, a.size)) in
    let five = decimal_short number s in
    let d : Wrote M₂ n₂ (decimal number) M₃ n₃ = r.room (omega (arith, a.ends, a.size, b.ends, b.size)) in
    record { name = wrote_both (wrote_both a b) d; short = omega (arith, a.ends, b.ends, d.ends) }

pub name_made : {M M' : Bytes} {at end letter number head : ℕ} → at + longest ≤ length M → at < far → number ≤ last_number → Written M at letter number M' end
    → IsNamed M at (letter ∷ 35 ∷ decimal number) number head M' (record { word = with_name head (end - at) at; at = end })
name_made {M} {M'} {at} {end} {letter} {number} {head} h near s r =
    let w = r.name in
    let size : end - at ≡ length (letter ∷ 35 ∷ decimal number) = omega (arith, w.ends) in
    let small : end - at < 64 = omega (arith, r.short) in record {
      grown = grown_wrote (omega arith) w;
      short = r.short;
      within = s;
      kind = word_kind head (end - at) at small near;
      count = word_count head (end - at) at small near;
      spelled = λ T M'' k. word_spelled head (end - at) at small near T M'' ∙ take_drop (end - at) at M'' ∙ ap (drop at) (
          ap (λ (z : ℕ). take z M'') (back at end (omega (arith, w.ends))) ∙ k ∙ w.front) ∙ drop_at (take at M) (letter ∷ 35 ∷ decimal number) at (length-take-le at M (omega arith));
    }
  where
    back : (at end : ℕ) → at ≤ end → at + (end - at) ≡ end
    back at end l = omega arith
