-- The fields of a line: how a count is written, how many variables there are, and which words stand for a name in the text.
use mathlib.Core.Path.{◌≡◌, refl, sym, ap, ◌∙◌}
use mathlib.Core.Logic.{◌≢◌}
use mathlib.Core.Bool.{Bool, true, false, ◌&&◌, cond, and_assoc, and-false}
use mathlib.Core.List.{List, [], ◌∷◌, ◌++◌, map, map-append, append_assoc, append-nil}
use mathlib.Core.Option.{Option as Perhaps, none, some}
use Prim.Native.Nat.{ℕ, zero, suc, ◌+◌, ◌*◌, ◌-◌, ◌/◌, ◌%◌, ◌^◌, ◌<◌, ◌≤◌}
use native.Mathlib.Numerals.{add-one}
use native.Mathlib.Omega.{arith}
use borrow.Author.Tests.{le-leb, lt-leb, leb-true, leb-false, lt-ltb, le-ltb, ltb-true, ltb-false}
use lib.Dec.{eqb, leb, ltb}
use lib.ListN.{length, get_or, take, drop, set, take-append-drop, length-drop}
use lib.Seq.{take-suc-set, drop-drop, take-append-le, drop-append-le}
use Rattle.definitions.specs.Bytes.{Bytes, null, split, digits, decimal, number}
use Rattle.definitions.specs.Limits.{house}
use Rattle.definitions.specs.RuleText.{letter, digit, Manner, behind, variable_name, is_name, Node}
use Rattle.definitions.specs.Reading.{counted, all_names}
use Rattle.definitions.proofs.Laws.Bools.{by_cases, and_true_left, and_true_right}
use Rattle.definitions.proofs.Laws.Decimal.{number_decimal, decimal_of_number}
use Rattle.text.specs.Words.{word_of, kind_of_word, count_of, size_of, start_of, Token, var_token, sign}
use Rattle.std.specs.Prelude.{Option, Some, None}
use Rattle.reader.specs.Lines.{upto, digit_value, Counted, inside, all_inside, Stand, Lies, names_from, Fields}
use Rattle.reader.proofs.Pieces.{piece, some_piece, first_piece, last_piece, piece_length}

-- Counts. A number below 100 has one or two digits, and these are its own.
one_digit : (n : ℕ) → n ≤ 9 → decimal n ≡ (48 + n) ∷ []
unfolding decimal digits
one_digit n h = rw (lt-ltb n 10 (omega arith))

two_digits : (n : ℕ) → 9 < n → n ≤ 99 → decimal n ≡ (48 + n / 10) ∷ (48 + n % 10) ∷ []
unfolding decimal digits
two_digits zero h g = absurd (omega arith)
two_digits (suc m) h g = rw (le-ltb (suc m) 10 (omega arith), lt-ltb (suc m / 10) 10 (omega arith))

-- a digit's value, 100 for any other byte
abbrev digit_or : ℕ → ℕ
digit_or b = cond (digit b) (b - 48) 100

digit_value_is : (b : ℕ) → digit b ≡ true → (48 ≤ b) × (b ≤ 57)
unfolding digit
digit_value_is b e = (leb-true 48 b (and_true_left (leb 48 b) (leb b 57) e), leb-true b 57 (and_true_right (leb 48 b) (leb b 57) e))

value_digit : (v : ℕ) → v ≤ 9 → digit_or (48 + v) ≡ v
unfolding digit
value_digit v h = rw (le-leb 48 (48 + v) (omega arith), le-leb (48 + v) 57 (omega arith)) (omega arith)

digit_of_value : (b : ℕ) → digit_or b ≤ 9 → b ≡ 48 + digit_or b
digit_of_value b h = by_cases (digit b) (λ t. rw t (omega (arith, digit_value_is b t))) (λ f. absurd (omega (arith, rw f at h)))

low_value : (b : ℕ) → digit_or b ≤ 99 → digit_or b ≤ 9
low_value b h = by_cases (digit b) (λ t. rw t (omega (arith, digit_value_is b t))) (λ f. absurd (omega (arith, rw f at h)))

module _ (s : Bytes) (k : ℕ → Node) where
  writes : (n : ℕ) → s ≡ decimal n → counted house (number s) k ≡ counted house (some n) k
  writes n e = rw (e, number_decimal n)

  -- a text that is no small number's
  no_count : ((n : ℕ) → n ≤ 32 → s ≡ decimal n → ⊥) → counted house (number s) k ≡ counted house (some 100) k
  no_count h = go (number s) refl
    where
      go : (o : Perhaps ℕ) → number s ≡ o → counted house o k ≡ none
      go none e = refl
      go (some n) e = by_cases (leb n 32) (λ t. absurd (h n (leb-true n 32 t) (decimal_of_number s n e))) (λ f. rw f)

-- the digits of a small number's text
record Small (s : Bytes) : Type 0 where
  some : 0 < length s
  two : length s ≤ 2
  ones : digit_or (get_or s (length s - 1) 0) ≤ 9
  tens : length s ≡ 2 → (1 ≤ digit_or (get_or s 0 0)) × (digit_or (get_or s 0 0) ≤ 9)

small : (s : Bytes) (n : ℕ) → n ≤ 32 → s ≡ decimal n → Small s
small s n h e =
    by_cases (leb n 9)
    (λ t. let g = leb-true n 9 t in rw (e ∙ one_digit n g)
    (record { some = omega arith; two = omega arith; ones = rw (value_digit n g) g; tens = omega arith }))
    (λ f. let g = leb-false n 9 f in
    rw (e ∙ two_digits n g (omega arith)) (record {
      some = omega arith;
      two = omega arith;
      ones = rw (value_digit (n % 10) (omega arith)) (omega arith);
      tens = λ q. rw (value_digit (n / 10) (omega arith)) (omega arith);
    }))

one : (s : Bytes) → length s ≡ 1 → (k : ℕ → Node) → counted house (number s) k ≡ counted house (some (digit_or (get_or s 0 0))) k
one [] h k = absurd (omega arith)
one (b ∷ []) h k =
    by_cases (leb (digit_or b) 9)
    (λ t. let g = leb-true (digit_or b) 9 t in writes (b ∷ []) k (digit_or b) (ap (λ (x : ℕ). x ∷ []) (digit_of_value b g) ∙ sym (one_digit (digit_or b) g)))
    (λ f. let g = leb-false (digit_or b) 9 f in
    let z : counted house (some (digit_or b)) k ≡ none = rw
    (lt-leb (digit_or b) 32
    (by_cases (leb (digit_or b) 99) (λ t. absurd (omega (arith, low_value b (leb-true (digit_or b) 99 t))))
    (λ u. omega (arith, leb-false (digit_or b) 99 u)))) in
    no_count (b ∷ []) k (λ n l e. omega (arith, (small (b ∷ []) n l e).ones)) ∙ sym z)
one (b ∷ c ∷ s) h k = absurd (omega arith)

pub count_one : (s : Bytes) → length s ≡ 1 → Counted s (digit_value (get_or s 0 0))
count_one s h k = one s h k ∙ by_cases (digit (get_or s 0 0)) (λ t. rw t) (λ f. rw f)

pub count_else : (s : Bytes) → length s ≢ 1 → length s ≢ 2 → Counted s None
count_else s h g k = no_count s k (λ n l e. let d = small s n l e in omega (arith, h, g))

pub value_none : (b : ℕ) (r : Option ℕ) → r ≡ digit_value b → r ≡ None → digit_or b ≡ 100
value_none b r e n = by_cases (digit b) (λ t. let q = rw t at e in absurd cc) (λ f. rw f)

pub value_some : (b : ℕ) (r : Option ℕ) (v : ℕ) → r ≡ digit_value b → r ≡ Some v → (digit_or b ≡ v) × (v ≤ 9)
value_some b r v e n =
    by_cases (digit b)
    (λ t. let q = rw t at e in let z : b - 48 ≡ v = cc in (rw t z, omega (arith, digit_value_is b t)))
    (λ f. let q = rw f at e in absurd cc)

module _ (s : Bytes) (h : length s ≡ 2) where
  pub count_bad : ((1 ≤ digit_or (get_or s 0 0)) → (digit_or (get_or s 0 0) ≤ 9) → (digit_or (get_or s 1 0) ≤ 9) → ⊥) → Counted s None
  count_bad w k =
      no_count s k
      (λ n l e. let d = small s n l e in let z : length s - 1 ≡ 1 = omega arith in let t = d.tens h in let o = rw z at d.ones in w (omega arith)
      (omega arith) (omega arith))

  pub count_two : (x y : ℕ) → (digit_or (get_or s 0 0) ≡ x) × (x ≤ 9) → (digit_or (get_or s 1 0) ≡ y) × (y ≤ 9) → 1 ≤ x → Counted s (Some (10 * x + y))
  count_two x y p q a k =
      let u : (10 * x + y) / 10 ≡ x = omega arith in
      let v : (10 * x + y) % 10 ≡ y = omega arith in
      writes s k (10 * x + y) (pair s h x y (sym p.0) (sym q.0) p.1 q.1 ∙ sym (rw (two_digits (10 * x + y) (omega arith) (omega arith), u, v)))
    where
      pair : (s : Bytes) → length s ≡ 2 → (x y : ℕ) → x ≡ digit_or (get_or s 0 0) → y ≡ digit_or (get_or s 1 0) → x ≤ 9 → y ≤ 9 → s ≡ (48 + x) ∷ (48 + y) ∷ []
      pair [] h x y p q b c = absurd (omega arith)
      pair (i ∷ []) h x y p q b c = absurd (omega arith)
      pair (i ∷ j ∷ []) h x y p q b c =
          let m : i ≡ 48 + x = digit_of_value i (omega arith) ∙ omega arith in
          let n : j ≡ 48 + y = digit_of_value j (omega arith) ∙ omega arith in
          cc
      pair (i ∷ j ∷ m ∷ s) h x y p q b c = absurd (omega arith)

-- Variables of a block, n before those of f and l.
abbrev pub fits_after : ℕ → List Bytes → Bool
fits_after n l = leb (n + length l) 32 && all_names house variable_name l

module _ (n : ℕ) (f : Bytes) (l : List Bytes) where
  pub fits_full : 32 ≤ n → fits_after n (f ∷ l) ≡ false
  fits_full h = rw (lt-leb (n + suc (length l)) 32 (omega arith))

  pub fits_bad : is_name house variable_name f ≡ false → fits_after n (f ∷ l) ≡ false
  unfolding all_names
  fits_bad e = rw e (and-false (leb (n + suc (length l)) 32))

  pub fits_on : is_name house variable_name f ≡ true → fits_after n (f ∷ l) ≡ fits_after (n + 1) l
  unfolding all_names
  fits_on e = let z : n + suc (length l) ≡ n + 1 + length l = omega arith in rw (e, z)

pub fits_end : (n : ℕ) → n ≤ 32 → fits_after n [] ≡ true
unfolding all_names
fits_end n h = let z : n + 0 ≡ n = omega arith in rw (z, le-leb n 32 h)

-- Words. What stands at a place of a line stands in the text.
piece_of_line : (T : Bytes) (at : ℕ) (l : Bytes) (from n : ℕ) → Lies T at l → from + n ≤ length l → take n (drop (at + from) T) ≡ take n (drop from l)
piece_of_line T at l from n w h =
    let d : drop at T ≡ l ++ drop (length l) (drop at T) = sym (take-append-drop (length l) (drop at T))
    ∙ ap (λ (x : Bytes). x ++ drop (length l) (drop at T)) w.there in
    let g : n ≤ length (drop from l) = rw length-drop (omega arith) in
    ap (take n) (sym (drop-drop from at T) ∙ ap (drop from) d ∙ drop-append-le from l (drop (length l) (drop at T)) (omega arith))
    ∙ take-append-le n (drop from l) (drop (length l) (drop at T)) g

abbrev pub name_token : ℕ → ℕ → Bytes → Token
name_token k c f = cond (eqb k 12) (var_token f) (sign k c f)

stand_word : (T : Bytes) (k c n a : ℕ) → k ≤ 15 → c ≤ 63 → n ≤ 63 → a < 2 ^ 32 → a + n ≤ length T
    → Stand T (word_of k c 0 n a ∷ []) (name_token k c (take n (drop a T)) ∷ [])
unfolding all_inside
stand_word T k c n a hk hc hn ha h =
    let p : kind_of_word (word_of k c 0 n a) ≡ k = omega arith in
    let u : word_of k c 0 n a / 16 ≡ c + 64 * (0 + 2 * (n + 64 * a)) = omega arith in
    let v : word_of k c 0 n a / 1024 ≡ 0 + 2 * (n + 64 * a) = omega arith in
    let w : word_of k c 0 n a / 2048 ≡ n + 64 * a = omega arith in
    let x : word_of k c 0 n a / 131072 ≡ a = omega arith in
    let q : count_of (word_of k c 0 n a) ≡ c = rw u (omega arith) in
    let r : word_of k c 0 n a / 1024 % 2 ≡ 0 = rw v (omega arith) in
    let s : size_of (word_of k c 0 n a) ≡ n = rw w (omega arith) in
    let t : start_of (word_of k c 0 n a) ≡ a = rw x (omega arith) in
    record { mean = λ M. rw (p, q, r, s, t); within = rw (r, s, t, le-leb (a + n) (length T) h) }

-- a word without a symbol
pub stand_sign : (T : Bytes) (k c : ℕ) → k ≤ 15 → eqb k 12 ≡ false → c ≤ 63 → Stand T (word_of k c 0 0 0 ∷ []) (sign k c [] ∷ [])
stand_sign T k c h e g = rw e at (stand_word T k c 0 0 h g (omega arith) (omega arith) (omega arith))

-- the word of a name that stands in a line
pub stand_name : (T : Bytes) (at : ℕ) (l : Bytes) (k c from n w : ℕ) → Lies T at l → k ≤ 15 → c ≤ 63 → n ≤ 63 → from + n ≤ length l
    → at + from < 2 ^ 32 → w ≡ word_of k c 0 n (at + from)
    → Stand T (w ∷ []) (name_token k c (take n (drop from l)) ∷ [])
stand_name T at l k c from n w i hk hc hn h low e =
    rw (e, ← piece_of_line T at l from n i h) (stand_word T k c n (at + from) hk hc hn low (omega (arith, i.fits)))

inside_append : (T : Bytes) (a b : List ℕ) → all_inside T (a ++ b) ≡ (all_inside T a && all_inside T b)
unfolding all_inside
inside_append T [] b = refl
inside_append T (w ∷ a) b = rw (inside_append T a b) (sym (and_assoc (inside T w) (all_inside T a) (all_inside T b)))

pub stand_append : (T : Bytes) (a b : List ℕ) (s t : List Token) → Stand T a s → Stand T b t → Stand T (a ++ b) (s ++ t)
stand_append T a b s t x y = record { mean = λ M. rw (map-append, x.mean M, y.mean M); within = inside_append T a b ∙ rw (x.within, y.within) }

-- one more word behind the first n of a table
pub stand_more : (T : Bytes) (O : List ℕ) (n w : ℕ) (s t : List Token) → n < length O → Stand T (take n O) s → Stand T (w ∷ []) t
    → Stand T (take (n + 1) (set O n w)) (s ++ t)
stand_more T O n w s t h x y = rw (add-one, take-suc-set O n w h) (stand_append T (take n O) (w ∷ []) s t x y)

-- words stand for the first part of `whole`, of which `rest` is left
pub record Half (T : Bytes) (ws : List ℕ) (whole rest : List Token) : Type 0 where
  pub begun : List Token
  pub stand : Stand T ws begun
  pub left : begun ++ rest ≡ whole

pub half_more : (T : Bytes) (O : List ℕ) (n w : ℕ) (whole : List Token) (t : Token) (rest : List Token) → n < length O
    → Half T (take n O) whole (t ∷ rest) → Stand T (w ∷ []) (t ∷ [])
    → Half T (take (n + 1) (set O n w)) whole rest
half_more T O n w whole t rest h x y = record
    { begun = x.begun ++ (t ∷ []); stand = stand_more T O n w x.begun (t ∷ []) h x.stand y; left = append_assoc x.begun (t ∷ []) rest ∙ x.left }

pub half_end : (T : Bytes) (ws : List ℕ) (whole : List Token) → Half T ws whole [] → Stand T ws whole
half_end T ws whole x = rw (← x.left, append-nil) x.stand

-- a name is short
pub name_short : (m : Manner) (s : Bytes) → is_name house m s ≡ true → length s ≤ house.name
unfolding is_name
name_short m [] e = omega arith
name_short m (b ∷ s) e =
    let short = leb (length (b ∷ s)) 24 in
    leb-true (length (b ∷ s)) 24 (and_true_left short (letter b) (and_true_left (short && letter b) (null (behind m s)) e))

-- The variables of a block that are left: the next of them ends at `end`.
pub no_variables : (l : Bytes) (from : ℕ) → Fields l from 0
unfolding all_names
no_variables l from = record { starts = λ h. absurd (omega arith); number = omega arith; names = refl }

module _ (s : Bytes) (from end m : ℕ) (f : Fields s from (suc m)) (found : end ≡ from + upto 9 (drop from s)) (inner : (from ≤ end) × (end ≤ length s)) where
  record Next : Type 0 where
    rest : take (suc m) (split 9 (drop from s)) ≡ piece s from end ∷ names_from s (end + 1) m
    starts : 0 < m → end + 1 ≤ length s
    number : m ≤ length (split 9 (drop (end + 1) s))

  next : Next
  next =
      by_cases (ltb end (length s))
      (λ t.
      let e = first_piece 9 s from end (f.starts (omega arith)) found (ltb-true end (length s) t) in
      record { rest = rw e; starts = λ h. omega (arith, ltb-true end (length s) t); number = omega (arith, f.number, ap length e) })
      (λ g.
      let e = last_piece 9 s from end (f.starts (omega arith)) found (ltb-false end (length s) g) in
      let z : m ≡ 0 = omega (arith, f.number, ap length e) in
      record { rest = rw (e, z); starts = λ h. absurd (omega arith); number = omega arith })

  both : (is_name house variable_name (piece s from end) ≡ true) × (all_names house variable_name (names_from s (end + 1) m) ≡ true)
  unfolding all_names
  both =
      let g = rw next.rest at f.names in (
        and_true_left (is_name house variable_name (piece s from end)) (all_names house variable_name (names_from s (end + 1) m)) g,
        and_true_right
            (is_name house variable_name (piece s from end)) (all_names house variable_name (names_from s (end + 1) m)) g,
      )

  pub field_short : end - from ≤ house.name
  field_short =
      let e = piece_length s from end inner.0 inner.1 in
      rw (← e) (name_short variable_name (piece s from end) both.0)

  pub fields_left : Fields s (end + 1) m
  fields_left = record { starts = next.starts; number = next.number; names = both.1 }

  pub variable_more : (at : ℕ) (O : List ℕ) (n w : ℕ) (T : Bytes) (whole : List Token) → Lies T at s → n < length O → at + from < 2 ^ 32
      → w ≡ word_of 12 0 0 (end - from) (at + from)
      → Half T (take n O) whole (map var_token (names_from s from (suc m))) → Half T (take (n + 1) (set O n w)) whole (map var_token (names_from s (end + 1) m))
  variable_more at O n w T whole i g low q x =
      half_more T O n w whole (var_token (piece s from end)) (map var_token (names_from s (end + 1) m)) g (rw next.rest at x)
      (stand_name T at s 12 0 from (end - from) w i (omega arith) (omega arith) (omega (arith, field_short)) (omega (arith, inner)) low q)

-- what the counting functions need
pub ruleset counting = (count_one, count_else, count_bad, count_two, value_none, value_some)

pub ruleset tallying = (fits_full, fits_bad, fits_on, fits_end, some_piece, first_piece, last_piece)
