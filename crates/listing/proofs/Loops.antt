-- The loops of a listing: behind a head the texts of words, one a turn. h: the head; f: a word's text; l: the words.
use mathlib.Core.Path.{◌≡◌, refl, sym, ap, ◌∙◌}
use mathlib.Core.List.{List, [], ◌∷◌, ◌++◌, append_assoc, append-nil}
use Prim.Native.Nat.{ℕ, ◌+◌, ◌-◌, ◌≤◌, ◌<◌}
use native.Mathlib.Numerals.{add-one}
use native.Mathlib.Omega.{arith}
use lib.ListN.{length, take, drop, get_or, length-append, take-append-drop}
use lib.Seq.{take-suc, take_all}
use Rattle.definitions.specs.Bytes.{Bytes}
use Rattle.std.specs.Prelude.{Option, Some, None}
use Rattle.writer.specs.Writer.{Measured, Wrote}
use Rattle.writer.specs.PutLaws.{wrote_none, wrote_both}
use Rattle.writer.specs.MeasureLaws.{too_long, short_enough, was_short, was_long, was_size}
use Rattle.listing.specs.Texts.{each_text}

each_append : (f : ℕ → Bytes) (a b : List ℕ) → each_text f (a ++ b) ≡ each_text f a ++ each_text f b
unfolding each_text
each_append f [] b = refl
each_append f (x ∷ a) b = rw (each_append f a b) (sym (append_assoc (f x) (each_text f a) (each_text f b)))

single : (f : ℕ → Bytes) (x : ℕ) → each_text f (x ∷ []) ≡ f x
unfolding each_text
single f x = append-nil (f x)

module _ (f : ℕ → Bytes) (l : List ℕ) where
  -- the text of the first i words
  abbrev pub so_far : ℕ → Bytes
  so_far i = each_text f (take i l)

  one_more : (i : ℕ) → i < length l → so_far (i + 1) ≡ so_far i ++ f (get_or l i 0)
  one_more i k = rw (add-one i, take-suc l i 0 k, each_append f (take i l) (get_or l i 0 ∷ []), single f (get_or l i 0))

  all_of : (i : ℕ) → length l ≤ i → so_far i ≡ each_text f l
  all_of i k = rw (take_all i l k)

  shorter : (i : ℕ) → length (so_far i) ≤ length (each_text f l)
  shorter i =
      let e : each_text f l ≡ so_far i ++ each_text f (drop i l) =
      sym (ap (each_text f) (take-append-drop i l)) ∙ each_append f (take i l) (drop i l) in
      omega (arith, ap length e, length-append (so_far i) (each_text f (drop i l)))

  next_length : (i : ℕ) → i < length l → length (so_far (i + 1)) ≡ length (so_far i) + length (f (get_or l i 0))
  next_length i k = ap length (one_more i k) ∙ length-append (so_far i) (f (get_or l i 0))

  -- Written: what stands behind the place where the loop began is the text so far.
  pub wrote_start : (o : Bytes) (at : ℕ) → Wrote o at (so_far 0) o at
  unfolding each_text
  wrote_start o at = wrote_none o at

  module _ {o o₁ : Bytes} {at n : ℕ} (i : ℕ) (w : Wrote o at (so_far i) o₁ n) where
    pub wrote_room : i < length l → at + length (each_text f l) ≤ length o → n + length (f (get_or l i 0)) ≤ length o₁
    wrote_room k room = omega (arith, w.ends, w.size, shorter (i + 1), next_length i k)

    pub wrote_on : {o₂ : Bytes} {n₁ : ℕ} → i < length l → Wrote o₁ n (f (get_or l i 0)) o₂ n₁ → Wrote o at (so_far (i + 1)) o₂ n₁
    wrote_on k v = rw (one_more i k) (wrote_both w v)

    pub wrote_end : length l ≤ i → Wrote o at (each_text f l) o₁ n
    wrote_end k = rw (← all_of i k) w

  -- Measured: the size of the head and of the text so far is within the room.
  module _ (h : Bytes) where
    pub record Counted (room i size : ℕ) : Type 0 where
      pub within : size ≤ room
      pub is : length h + length (so_far i) ≡ size

    pub counted_start : {room n : ℕ} {r : Option ℕ} → Measured h room r → r ≡ Some n → Counted room 0 n
    unfolding each_text
    counted_start m e = record { within = omega (arith, was_short m e, was_size m e); is = omega (arith, was_size m e) }

    -- no room for the head
    pub headless : {room : ℕ} {r : Option ℕ} → Measured h room r → r ≡ None → Measured (h ++ each_text f l) room None
    headless {room} m e = too_long (h ++ each_text f l) room (omega (arith, was_long m e, length-append h (each_text f l)))

    module _ {room i size : ℕ} (c : Counted room i size) where
      pub counted_end : length l ≤ i → Measured (h ++ each_text f l) room (Some size)
      counted_end k =
          let e : length (h ++ each_text f l) ≡ size = omega (arith, length-append h (each_text f l), ap length (all_of i k), c.is) in
          short_enough (h ++ each_text f l) room size (omega (arith, e, c.within)) e

      module _ {r : Option ℕ} (k : i < length l) (m : Measured (f (get_or l i 0)) (room - size) r) where
        pub counted_on : {n : ℕ} → r ≡ Some n → Counted room (i + 1) (size + n)
        counted_on e =
            record {
              within = omega (arith, c.within, was_short m e, was_size m e);
              is = omega (arith, c.is, next_length i k, was_size m e);
            }

        pub counted_out : r ≡ None → Measured (h ++ each_text f l) room None
        counted_out e =
            too_long (h ++ each_text f l) room
            (omega (arith, c.within, c.is, next_length i k, shorter (i + 1), was_long m e, length-append h (each_text f l)))
