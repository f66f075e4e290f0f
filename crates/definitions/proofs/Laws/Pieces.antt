-- A text and its pieces: joined again they are the text, and what has no separator inside is a piece of its own.
use Rattle.std.specs.Prelude.{◌≡◌, Bool, true, false, ◌&&◌, eqb, ltb, length}
use Rattle.std.proofs.Math.Path.{refl}
use Rattle.std.proofs.Common.{◌∙◌, ap, arith}
use mathlib.Core.List.{List, [], ◌∷◌, ◌++◌, append-nil}
use Prim.Native.Nat.{ℕ, zero, suc, ◌+◌, ◌/◌, ◌%◌, ◌<◌}
use borrow.Author.Tests.{eqb-true, eq-eqb, ne_eqb, lt-leb}
use Rattle.std.proofs.Math.Dec.{leb}
use Rattle.definitions.specs.Bytes.{Bytes, null, split, behind_each, skip, digits, decimal}
use Rattle.definitions.specs.Limits.{Limits}
use Rattle.definitions.specs.RuleText.{letter, digit, word, hashed, tick, Manner, simple_name, variable_name, symbol_name, behind, is_name}
use Rattle.definitions.proofs.Laws.Bools.{by_cases, clash, and_true_left, and_true_right}
use Rattle.definitions.specs.Laws.Pieces.{AllClear, Clear, joined}

-- there is always a first piece
pub split_some : (b : ℕ) (s : Bytes) → (f : Bytes) × (l : List Bytes) × (split b s ≡ f ∷ l)
unfolding split
split_some b [] = ([], [], refl)
split_some b (x ∷ s) =
    by_cases (eqb x b)
    (λ t. ([], split b s, rw t))
    (λ f. let p = split_some b s in (x ∷ p.0, p.1, rw (f, p.2)))

pub join_split : (b : ℕ) (s : Bytes) → joined b (split b s) ≡ s
unfolding split joined behind_each
join_split b [] = refl
join_split b (x ∷ s) =
    let p = split_some b s in
    let j : joined b (p.0 ∷ p.1) ≡ s = rw p.2 at (join_split b s) in
    by_cases (eqb x b)
    (λ t. rw (t, p.2, j, eqb-true x b t))
    (λ f. rw (f, p.2, j))

-- the pieces of a text that goes on behind a separator
pub split_append : (b : ℕ) (s t : Bytes) → split b (s ++ (b ∷ t)) ≡ split b s ++ split b t
unfolding split
split_append b [] t = rw (eq-eqb b b refl)
split_append b (x ∷ s) t =
    let p = split_some b s in
    by_cases (eqb x b) (λ y. rw (y, split_append b s t)) (λ n. rw (n, split_append b s t, p.2))

pub split_whole : (b : ℕ) (s : Bytes) → Clear b s → split b s ≡ s ∷ []
unfolding split
split_whole b [] h = refl
split_whole b (x ∷ s) h = rw (h.0, split_whole b s h.1)

pub split_clear : (b : ℕ) (s t : Bytes) → Clear b s → split b (s ++ (b ∷ t)) ≡ s ∷ split b t
split_clear b s t h = split_append b s t ∙ rw (split_whole b s h)

pub split_joined : (b : ℕ) (f : Bytes) (l : List Bytes) → AllClear b (f ∷ l) → split b (f ++ behind_each b l) ≡ f ∷ l
unfolding behind_each
split_joined b f [] h = rw (append-nil f) (split_whole b f h.0)
split_joined b f (g ∷ l) h = split_clear b f (g ++ behind_each b l) h.0 ∙ ap (λ (p : List Bytes). f ∷ p) (split_joined b g l h.1)

pub clear_append : (b : ℕ) (s t : Bytes) → Clear b s → Clear b t → Clear b (s ++ t)
clear_append b [] t h k = k
clear_append b (x ∷ s) t h k = (h.0, clear_append b s t h.1 k)

clear_null : (b : ℕ) (s : Bytes) → null s ≡ true → Clear b s
clear_null b [] e = tt
clear_null b (x ∷ s) e = clash e refl

-- a byte outside a set is none of those inside it
module _ (p : ℕ → Bool) (b : ℕ) (out : p b ≡ false) where
  other : (x : ℕ) → p x ≡ true → eqb x b ≡ false
  other x e = by_cases (eqb x b) (λ t. clash (rw (eqb-true x b t) at e) out) (λ f. f)

  clear_skip : (s : Bytes) → Clear b (skip p s) → Clear b s
  unfolding skip
  clear_skip [] h = tt
  clear_skip (x ∷ s) h = by_cases (p x) (λ t. (other x t, clear_skip s (rw t at h))) (λ f. rw f at h)

-- No name holds a byte below `#`, no number one below `0`; so neither a tab nor a line feed.
module _ (b : ℕ) (low : b < 35) where
  no_letter : letter b ≡ false
  unfolding letter
  no_letter = rw (lt-leb 65 b (omega arith), lt-leb 97 b (omega arith), ne_eqb b 95 (omega arith))

  pub letter_clear : (x : ℕ) → letter x ≡ true → eqb x b ≡ false
  letter_clear x e = other letter b no_letter x e

  no_word : word b ≡ false
  unfolding word digit
  no_word = rw (no_letter, lt-leb 48 b (omega arith))

  no_hashed : hashed b ≡ false
  unfolding hashed
  no_hashed = rw (no_word, ne_eqb b 35 (omega arith))

  no_tick : tick b ≡ false
  unfolding tick
  no_tick = ne_eqb b 96 (omega arith)

  behind_clear : (m : Manner) (s : Bytes) → null (behind m s) ≡ true → Clear b s
  unfolding behind
  behind_clear simple_name s e = clear_skip word b no_word s (clear_null b (skip word s) e)
  behind_clear variable_name s e = clear_skip word b no_word s (clear_skip tick b no_tick (skip word s) (clear_null b (skip tick (skip word s)) e))
  behind_clear symbol_name s e = clear_skip hashed b no_hashed s (clear_null b (skip hashed s) e)

  pub name_clear : (L : Limits) (m : Manner) (s : Bytes) → is_name L m s ≡ true → Clear b s
  unfolding is_name
  name_clear L m [] e = clash e refl
  name_clear L m (x ∷ s) e =
      let short = leb (length (x ∷ s)) L.name in
      let both = and_true_left (short && letter x) (null (behind m s)) e in
      (letter_clear x (and_true_right short (letter x) both), behind_clear m s (and_true_right (short && letter x) (null (behind m s)) e))

  digits_clear : (k n : ℕ) → Clear b (digits k n)
  unfolding digits
  digits_clear zero n = tt
  digits_clear (suc k) n =
      by_cases (ltb n 10)
      (λ t. rw t (ne_eqb (48 + n) b (omega arith), tt))
      (λ f. rw f (clear_append b (digits k (n / 10)) ((48 + n % 10) ∷ []) (digits_clear k (n / 10)) (ne_eqb (48 + n % 10) b (omega arith), tt)))

  pub decimal_clear : (n : ℕ) → Clear b (decimal n)
  unfolding decimal
  decimal_clear n = digits_clear (suc n) n
