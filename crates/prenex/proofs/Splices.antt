-- Lists, part of which has been replaced: read, written on, and put together.
use mathlib.Core.Path.{◌≡◌, sym, ap, ◌∙◌}
use mathlib.Core.List.{List, [], ◌∷◌, ◌++◌, append_assoc}
use Prim.Native.Nat.{ℕ, zero, suc, ◌+◌, ◌-◌, ◌≤◌, ◌<◌}
use native.Mathlib.Omega.{arith}
use native.Mathlib.Nat.{suc-add, zero-add}
use native.Mathlib.Numerals.{add-one}
use lib.Dec.{leb}
use lib.ListN.{length, take, drop, get_or, set, length-append, length-take, length-drop, take-append-drop, drop_of_length-le}
use lib.Seq.{slice, length-take-le, drop-cons, take-suc, take-nil, take-take, drop-drop, drop-append-le, take_at, drop_at, get_or_at, set_at, take-suc-set, take-set-lt, drop-set-lt}
use borrow.Author.Tests.{leb-true, leb-false}
use Rattle.definitions.proofs.Laws.Bools.{by_cases}
use Rattle.text.specs.Words.{Token}
use Rattle.prenex.specs.Renaming.{splice, Beside, under, over}

-- a run cut in two
pub slice_append : (f m t : ℕ) (W : List Token) → f ≤ m → m ≤ t → t ≤ length W → slice f t W ≡ slice f m W ++ slice m t W
slice_append f m t W h k l =
    ap (drop f) (sym (take-append-drop m (take t W)) ∙ ap (λ (z : List Token). z ++ drop m (take t W)) (take-take m t W k))
    ∙ drop-append-le f (take m W) (drop m (take t W)) (simp (length-take-le m W (omega arith)) h)

pub slice_none : (f t : ℕ) (W : List Token) → t ≤ f → slice f t W ≡ []
slice_none f t W h = drop_of_length-le (take t W) {i = f} (simp length-take (omega arith))

-- one token more
pub slice_more : (f i : ℕ) (W : List Token) (d : Token) → f ≤ i → i < length W → slice f (i + 1) W ≡ slice f i W ++ (get_or W i d ∷ [])
slice_more f i W d h k =
    rw (add-one, take-suc W i d k) (drop-append-le f (take i W) (get_or W i d ∷ []) (simp (length-take-le i W (omega arith)) h))

-- a run that is no part of what was written, and one that ends with it
pub slice_set : (f t i : ℕ) (v : Token) (W : List Token) → i < f → f ≤ t → slice f t (set W i v) ≡ slice f t W
slice_set f t i v W h k = rw (take-set-lt t W i v (omega arith)) (drop-set-lt f (take t W) i v h)

pub slice_end : (f i : ℕ) (v : Token) (W : List Token) → f ≤ i → i < length W → slice f (i + 1) (set W i v) ≡ slice f i W ++ (v ∷ [])
slice_end f i v W h k =
    rw (add-one, take-suc-set W i v k) (drop-append-le f (take i W) (v ∷ []) (simp (length-take-le i W (omega arith)) h))

-- three parts
pub three_parts : (f t : ℕ) (X : List Token) → f ≤ t → splice f t X (slice f t X) ≡ X
three_parts f t X h =
    sym (append_assoc (take f X) (slice f t X) (drop t X))
    ∙ ap (λ (l : List Token). l ++ drop t X) (ap (λ (l : List Token). l ++ slice f t X) (sym (take-take f t X h)) ∙ take-append-drop f (take t X))
    ∙ take-append-drop t X

-- the run f .. t of X replaced by l, as long as it
module _ (f t : ℕ) (X l : List Token) (h : f ≤ t) (k : t ≤ length X) (e : length l ≡ t - f) where
  front : length (take f X ++ l) ≡ t
  front = simp (length-append, length-take-le f X (omega arith), e) (omega arith)

  parts : splice f t X l ≡ (take f X ++ l) ++ drop t X
  parts = sym (append_assoc (take f X) l (drop t X))

  pub splice_length : length (splice f t X l) ≡ length X
  splice_length = ap length parts ∙ length-append (take f X ++ l) (drop t X) ∙ rw (front, length-drop) (omega arith)

  pub splice_take : take f (splice f t X l) ≡ take f X
  splice_take = take_at (take f X) (l ++ drop t X) f (length-take-le f X (omega arith))

  pub splice_drop : drop t (splice f t X l) ≡ drop t X
  splice_drop = rw parts (drop_at (take f X ++ l) (drop t X) t front)

  pub splice_front : take t (splice f t X l) ≡ take f X ++ l
  splice_front = rw parts (take_at (take f X ++ l) (drop t X) t front)

  pub splice_slice : slice f t (splice f t X l) ≡ l
  splice_slice = rw splice_front (drop_at (take f X) l f (length-take-le f X (omega arith)))

  pub splice_at : (d : Token) → t < length X → get_or (splice f t X l) t d ≡ get_or X t d
  splice_at d b = rw (parts, drop-cons X t d b) (get_or_at (take f X ++ l) (get_or X t d) (drop (suc t) X) d t front)

  -- the next token written, or left
  pub splice_next : (d v : Token) → t < length X → set (splice f t X l) t v ≡ splice f (t + 1) X (l ++ (v ∷ []))
  splice_next d v b =
      rw (add-one, parts, drop-cons X t d b)
      (set_at (take f X ++ l) (get_or X t d) (drop (suc t) X) v t front ∙ simp append_assoc)

  pub splice_stay : (d : Token) → t < length X → splice f t X l ≡ splice f (t + 1) X (l ++ (get_or X t d ∷ []))
  splice_stay d b = rw (add-one, drop-cons X t d b) (simp append_assoc)

-- what is known of a list's three parts
pub as_splice : (f t : ℕ) (X Y : List Token) → f ≤ t → take f Y ≡ take f X → drop t Y ≡ drop t X → Y ≡ splice f t X (slice f t Y)
as_splice f t X Y h a b = sym (three_parts f t Y h) ∙ rw (a, b)

pub part {ℓ} : {A : Type ℓ} (a b : ℕ) (l : List A) → take a (drop b l) ≡ drop b (take (b + a) l)
part a zero l = rw zero-add
part a (suc b) [] = rw suc-add (take-nil a)
part a (suc b) (x ∷ l) = rw suc-add (part a b l)

-- what two lists share from a place on, or up to a place
pub drop_further {ℓ} : {A : Type ℓ} (m n : ℕ) (a b : List A) → m ≤ n → drop m a ≡ drop m b → drop n a ≡ drop n b
drop_further m n a b h e =
    let z : m + (n - m) ≡ n = omega arith in
    sym (ap (λ (k : ℕ). drop k a) z) ∙ sym (drop-drop (n - m) m a) ∙ ap (drop (n - m)) e ∙ drop-drop (n - m) m b ∙ ap (λ (k : ℕ). drop k b) z

pub take_nearer {ℓ} : {A : Type ℓ} (m n : ℕ) (a b : List A) → m ≤ n → take n a ≡ take n b → take m a ≡ take m b
take_nearer m n a b h e = sym (take-take m n a h) ∙ ap (take m) e ∙ take-take m n b h

-- a run beside what was replaced
pub beside_kept : (from to other end : ℕ) (W X : List Token) → Beside from to other end → take from X ≡ take from W → drop to X ≡ drop to W
    → slice other end X ≡ slice other end W
beside_kept from to other end W X (under h) a b = rw (← take-take end from X h, ← take-take end from W h, a)
beside_kept from to other end W X (over h) a b =
    by_cases (leb other end)
    (λ t. let l = leb-true other end t in far l X ∙ ap (λ (z : List Token). take (end - other) (drop (other - to) z)) b ∙ sym (far l W))
    (λ f. let l : end ≤ other = omega (arith, leb-false other end f) in slice_none other end X l ∙ sym (slice_none other end W l))
  where
    far : other ≤ end → (Z : List Token) → slice other end Z ≡ take (end - other) (drop (other - to) (drop to Z))
    far l Z =
        let z : other + (end - other) ≡ end = omega arith in
        let y : to + (other - to) ≡ other = omega arith in
        sym (rw (drop-drop (other - to) to Z, y) (part (end - other) other Z ∙ rw z))
