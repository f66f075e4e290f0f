-- Bytes written one behind another are written as a whole, and what was not written is as it was.
use Rattle.std.specs.Prelude.{◌≡◌, refl, [], ◌∷◌, ◌++◌, ℕ, ◌+◌, ◌≤◌, ◌<◌, leb, length, take, drop, set}
use Rattle.std.proofs.Common.{sym, ap, ◌∙◌, append_assoc, append-nil, add-one, arith, leb-true, leb-false, length-set, length-append, take-append-drop, drop-drop, take-suc-set, drop-set-lt}
use Rattle.definitions.specs.Bytes.{Bytes}
use Rattle.definitions.proofs.Laws.Bools.{by_cases}
use Rattle.writer.specs.Writer.{Wrote, Puts}

pub wrote_none : (o : Bytes) (at : ℕ) → Wrote o at [] o at
wrote_none o at = record { ends = omega arith; front = sym (append-nil (take at o)); back = refl; size = refl }

pub wrote_byte : (o : Bytes) (at b : ℕ) → at < length o → Wrote o at (b ∷ []) (set o at b) (at + 1)
wrote_byte o at b h =
    record {
      ends = refl;
      front = rw (add-one at) (take-suc-set o at b h);
      back = drop-set-lt (at + 1) o at b (omega arith);
      size = length-set o at b;
    }

behind : (n k : ℕ) (o o₁ : Bytes) → drop n o₁ ≡ drop n o → drop (n + k) o₁ ≡ drop (n + k) o
behind n k o o₁ e = sym (drop-drop k n o₁) ∙ ap (drop k) e ∙ drop-drop k n o

pub wrote_both : {o o₁ o₂ s t : Bytes} {at n n₁ : ℕ} → Wrote o at s o₁ n → Wrote o₁ n t o₂ n₁ → Wrote o at (s ++ t) o₂ n₁
wrote_both {o} {o₁} {o₂} {s} {t} {at} {n} {n₁} p q =
    record {
      ends = omega (arith, length-append s t, p.ends, q.ends);
      front = q.front ∙ ap (λ (a : Bytes). a ++ t) p.front ∙ append_assoc (take at o) s t;
      back = q.back ∙ rw q.ends (behind n (length t) o o₁ p.back);
      size = q.size ∙ p.size;
    }

-- the room for the first of two, and behind it for the second
pub head_room : (at : ℕ) {n : ℕ} (s t : Bytes) → at + length (s ++ t) ≤ n → at + length s ≤ n
head_room at s t h = omega (arith, length-append s t)

pub rest_room : {o o₁ s : Bytes} {at n : ℕ} (t : Bytes) → at + length (s ++ t) ≤ length o → Wrote o at s o₁ n → n + length t ≤ length o₁
rest_room {s = s} t h w = omega (arith, length-append s t, w.ends, w.size)

-- what out holds then
pub wrote_is : {o o₁ s : Bytes} {at n : ℕ} → Wrote o at s o₁ n → o₁ ≡ take at o ++ (s ++ drop (at + length s) o)
wrote_is {o} {o₁} {s} {at} {n} p =
    sym (take-append-drop n o₁) ∙ rw (p.front, p.back, p.ends) (append_assoc (take at o) s (drop (at + length s) o))

-- A put with room and without.
pub puts : {o s o₁ : Bytes} {at n : ℕ} → at + length s ≤ length o → Wrote o at s o₁ n → Puts o at s o₁ n
puts h w = record { room = λ k. w; none = λ k. absurd (omega arith) }

pub puts_none : {o s : Bytes} {at : ℕ} → length o < at + length s → Puts o at s o at
puts_none h = record { room = λ k. absurd (omega arith); none = λ k. (refl, refl) }

pub puts_nothing : (o : Bytes) (at : ℕ) → Puts o at [] o at
puts_nothing o at = record { room = λ k. wrote_none o at; none = λ k. (refl, refl) }

pub puts_size : {o s o₁ : Bytes} {at n : ℕ} → Puts o at s o₁ n → length o₁ ≡ length o
puts_size {o} {s} {o₁} {at} {n} p =
    by_cases (leb (at + length s) (length o))
    (λ t. (p.room (leb-true (at + length s) (length o) t)).size)
    (λ f. ap length (p.none (leb-false (at + length s) (length o) f)).1)

-- Behind what was written, and one behind another, where there is room for both.
pub wrote_then : {o o₁ o₂ s t : Bytes} {at n n₁ : ℕ} → at + length (s ++ t) ≤ length o → Wrote o at s o₁ n → Puts o₁ n t o₂ n₁ → Wrote o at (s ++ t) o₂ n₁
wrote_then {t = t} h w p = wrote_both w (p.room (rest_room t h w))

pub puts_both : {o o₁ o₂ s t : Bytes} {at n n₁ : ℕ} → at + length (s ++ t) ≤ length o → Puts o at s o₁ n → Puts o₁ n t o₂ n₁ → Wrote o at (s ++ t) o₂ n₁
puts_both {s = s} {t = t} {at = at} h p q = wrote_then h (p.room (head_room at s t h)) q
