-- Parts of a list between two places, and what a store outside of them leaves.
use Rattle.std.specs.Prelude.{◌≡◌, List, [], ◌∷◌, ◌++◌, map, ℕ, ◌+◌, ◌-◌, ◌<◌, ◌≤◌, length, get_or, take, drop, set}
use Rattle.std.proofs.Common.{sym, ap, ◌∙◌, arith, add-one, length-take, take-append-drop, drop_of_length-le, take-take, take-suc-set, length-take-le, drop-set-lt, drop-drop, take_at, drop_at}
use Rattle.std.proofs.lemmas.Slice.{between_is}
use Rattle.std.proofs.Math.Seq.{take-suc}
use Rattle.std.proofs.lemmas.List.{map-append, length-map, take-set-le, drop-append-le}
use Rattle.std.proofs.Math.Decide.{dec_le}
use Rattle.std.proofs.Math.Seq.{slice, slice-cons, length-slice, take-set-lt}

module _ {A : Type 0} where
  -- two lists agree below n, and so below m
  pub kept_below : (m n : ℕ) (a b : List A) → m ≤ n → take n a ≡ take n b → take m a ≡ take m b
  kept_below m n a b h e = sym (take-take m n a h) ∙ ap (take m) e ∙ take-take m n b h

  pub kept_twice : (m n : ℕ) (a b c : List A) → m ≤ n → take n c ≡ take n b → take m b ≡ take m a → take m c ≡ take m a
  kept_twice m n a b c h e k = kept_below m n c b h e ∙ k

  pub slice_kept : (f t n : ℕ) (a b : List A) → t ≤ n → take n a ≡ take n b → slice f t a ≡ slice f t b
  slice_kept f t n a b h e = ap (drop f) (kept_below t n a b h e)

  pub slice_none : (f t : ℕ) (l : List A) → t ≤ f → slice f t l ≡ []
  slice_none f t l h = drop_of_length-le (take t l) {i = f} (rw (length-take t l) (omega arith))

  -- the front in two
  pub take_split : (m t : ℕ) (l : List A) → m ≤ t → take t l ≡ take m l ++ slice m t l
  take_split m t l h = sym (take-append-drop m (take t l)) ∙ ap (λ (x : List A). x ++ slice m t l) (take-take m t l h)

  -- a part in two
  pub slice_split : (f m t : ℕ) (l : List A) → f ≤ m → m ≤ t → t ≤ length l → slice f t l ≡ slice f m l ++ slice m t l
  slice_split f m t l h k e =
      ap (drop f) (sym (take-append-drop m (take t l)) ∙ ap (λ (x : List A). x ++ slice m t l) (take-take m t l k))
      ∙ drop-append-le f (take m l) (slice m t l) (rw (length-take-le m l (omega arith)) h)

  -- a part and the element behind it
  pub slice_more : (f t : ℕ) (l : List A) (d : A) → f ≤ t → t < length l → slice f (t + 1) l ≡ slice f t l ++ (get_or l t d ∷ [])
  slice_more f t l d h k =
      rw (add-one, take-suc l t d k) (drop-append-le f (take t l) (get_or l t d ∷ []) (rw (length-take-le t l (omega arith)) h))

  -- an element stored at the end of a part
  pub slice_put : (f t : ℕ) (l : List A) (a : A) → f ≤ t → t < length l → slice f (t + 1) (set l t a) ≡ slice f t l ++ (a ∷ [])
  slice_put f t l a h k =
      rw (add-one, take-suc-set l t a k) (drop-append-le f (take t l) (a ∷ []) (rw (length-take-le t l (omega arith)) h))

  -- an element of a part, and what is behind it
  pub slice_next : (f t : ℕ) (l : List A) (d : A) → f < t → t ≤ length l → slice f t l ≡ get_or l f d ∷ slice (f + 1) t l
  slice_next f t l d h k = rw add-one (slice-cons f t l d h k)

  -- a part of what two lists have in common
  pub slice_after : (n f t : ℕ) (a b : List A) → n ≤ f → drop n a ≡ drop n b → slice f t a ≡ slice f t b
  slice_after n f t a b h e = sym (between_is a f t) ∙ ap (take (t - f)) (onward a ∙ ap (drop (f - n)) e ∙ sym (onward b)) ∙ between_is b f t
    where
      onward : (l : List A) → drop f l ≡ drop (f - n) (drop n l)
      onward l = let k : f ≡ n + (f - n) = omega arith in ap (λ (i : ℕ). drop i l) k ∙ sym (drop-drop (f - n) n l)

  -- a store before a part
  pub slice_behind : (f t i : ℕ) (l : List A) (a : A) → i < f → slice f t (set l i a) ≡ slice f t l
  slice_behind f t i l a h = go (dec_le t i)
    where
      go : Dec (t ≤ i) → slice f t (set l i a) ≡ slice f t l
      go (yes k) = ap (drop f) (take-set-le t l i a k)
      go (no k) = ap (drop f) (take-set-lt t l i a (omega arith)) ∙ drop-set-lt f (take t l) i a h

-- a part that begins as a list of n elements does, cut behind them
pub slice_cut : {A B : Type 0} (d : A → B) (f n t : ℕ) (l : List A) (x y : List B) → length x ≡ n → f + n ≤ t → t ≤ length l → map d (slice f t l) ≡ x ++ y
    → (map d (slice f (f + n) l) ≡ x) × (map d (slice (f + n) t l) ≡ y)
slice_cut d f n t l x y e h k g =
    let z = sym (ap (map d) (slice_split f (f + n) t l (omega arith) h k) ∙ map-append d (slice f (f + n) l) (slice (f + n) t l)) ∙ g in
    let s = length-map (slice f (f + n) l) d ∙ length-slice f (f + n) l (omega arith) in (
      sym (take_at (map d (slice f (f + n) l)) (map d (slice (f + n) t l)) n (omega (arith, s))) ∙ ap (take n) z ∙ take_at x y n e,
      sym (drop_at (map d (slice f (f + n) l)) (map d (slice (f + n) t l)) n (omega (arith, s))) ∙ ap (drop n) z ∙ drop_at x y n e,
    )
