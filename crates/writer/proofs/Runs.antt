-- A run of nodes, measured or written node by node. What is left of its text is the text of the nodes that are left, with the variables
-- that are still due; so the loops keep that what is done and what is left are the whole.
use mathlib.Core.Path.{◌≡◌, refl, sym, ap, ◌∙◌}
use mathlib.Core.List.{List, [], ◌++◌, append_assoc, append-nil}
use Prim.Native.Nat.{ℕ, ◌+◌, ◌≤◌, ◌<◌}
use native.Mathlib.Numerals.{add-one}
use native.Mathlib.Omega.{arith}
use lib.ListN.{length, drop, get_or, length-append, drop_of_length-le}
use lib.Seq.{drop-cons}
use Rattle.definitions.specs.Bytes.{Bytes}
use Rattle.text.specs.declared.names.Spellings.{Spellings}
use Rattle.text.specs.Words.{token, tokens}
use Rattle.writer.specs.Writer.{after, end, body_in, text_from, Wrote, Puts}
use Rattle.writer.specs.PutLaws.{wrote_both}

-- S: the whole text; R: what is left of it, behind o₁'s place p
pub record Filling (o : Bytes) (at : ℕ) (S o₁ : Bytes) (p : ℕ) (R : Bytes) : Type 0 where
  pub done : Bytes
  pub split : S ≡ done ++ R
  pub wrote : Wrote o at done o₁ p

filling_room : {o S o₁ R : Bytes} {at p : ℕ} → Filling o at S o₁ p R → at + length S ≤ length o → p + length R ≤ length o₁
filling_room {R = R} f h = omega (arith, ap length f.split, length-append f.done R, f.wrote.ends, f.wrote.size)

module _ (s : Spellings) (ns : List ℕ) where
  -- what is left from word i on, where `left` variables are due
  abbrev pub rest : ℕ → ℕ → Bytes
  rest left i = text_from left (tokens s.text.now s.made.now (drop i ns))

  -- nothing is left at the end
  pub past : (left i : ℕ) → length ns ≤ i → rest left i ≡ []
  unfolding text_from
  past left i h = rw (drop_of_length-le ns h)

  module _ (i left m : ℕ) (inside : i < length ns) (next : m ≡ after left (token s.text.now s.made.now (get_or ns i 0))) where
    one_word : rest left i ≡ (body_in s left (get_or ns i 0) ++ end m) ++ rest m (i + 1)
    unfolding text_from
    one_word = rw (drop-cons ns i 0 inside, next, add-one i)

    -- how much one word takes off it
    pub word_length : length (rest left i) ≡ length (body_in s left (get_or ns i 0)) + length (end m) + length (rest m (i + 1))
    word_length =
        let b = body_in s left (get_or ns i 0) in
        ap length one_word ∙ omega (arith, length-append (b ++ end m) (rest m (i + 1)), length-append b (end m))

    -- written
    pub filling_on : {o S o₁ o₂ o₃ : Bytes} {at p q r : ℕ} → at + length S ≤ length o
        → Wrote o₁ p (body_in s left (get_or ns i 0)) o₂ q → Puts o₂ q (end m) o₃ r
        → Filling o at S o₁ p (rest left i) → Filling o at S o₃ r (rest m (i + 1))
    filling_on room first last f =
        let b = body_in s left (get_or ns i 0) in
        let w = last.room (omega (arith, filling_room f room, word_length, first.ends, first.size)) in
        record {
          done = f.done ++ (b ++ end m);
          split = f.split ∙ ap (f.done ++◌) one_word ∙ sym (append_assoc f.done (b ++ end m) (rest m (i + 1)));
          wrote = wrote_both f.wrote (wrote_both first w);
        }

  pub body_room : {o S o₁ : Bytes} {at p : ℕ} (i left : ℕ) → i < length ns → Filling o at S o₁ p (rest left i) → at + length S ≤ length o
      → p + length (body_in s left (get_or ns i 0)) ≤ length o₁
  body_room i left inside f h = omega (arith, filling_room f h, word_length i left (after left (token s.text.now s.made.now (get_or ns i 0))) inside refl)

  pub filling_end : {o S o₁ : Bytes} {at p : ℕ} (left i : ℕ) → length ns ≤ i → Filling o at S o₁ p (rest left i) → Wrote o at S o₁ p
  filling_end left i h f = rw (f.split, past left i h, append-nil f.done) f.wrote
