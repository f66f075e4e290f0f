-- A name that grows within its slot, one backtick at a time, until it is none of the names taken.
use mathlib.Core.Path.{◌≡◌, sym, ap, ◌∙◌}
use mathlib.Core.Bool.{true, false}
use mathlib.Core.List.{List}
use Prim.Native.Nat.{ℕ, ◌+◌, ◌*◌, ◌%◌, ◌/◌, ◌≤◌, ◌<◌}
use native.Mathlib.Omega.{arith}
use native.Mathlib.Numerals.{add-one}
use borrow.Author.Tests.{eq-eqb}
use lib.ListN.{length, take, drop, get_or, length-drop}
use lib.Seq.{take-suc, get_or-drop, length-take-le}
use Rattle.definitions.specs.Bytes.{Bytes}
use Rattle.definitions.specs.Syntax.{Name}
use Rattle.definitions.specs.Names.{mem}
use Rattle.definitions.specs.Prenex.{ticked, fresh}
use Rattle.text.specs.Words.{kind_of_word, is_made, size_of, start_of, spell}
use Rattle.prenex.specs.Tables.{slot_word}
use Rattle.prenex.specs.Renaming.{Named}
use Rattle.prenex.proofs.Fresh.{fresh_on, fresh_stop, fresh_longer}

-- the parts of a slot's word
module _ (i n : ℕ) (h : i < 1024) (k : n ≤ 25) where
  pub slot_kind : kind_of_word (slot_word i n) ≡ 12
  slot_kind = omega arith

  pub slot_made : is_made (slot_word i n) ≡ true
  slot_made = eq-eqb (slot_word i n / 1024 % 2) 1 (omega arith)

  pub slot_length : size_of (slot_word i n) ≡ n
  slot_length = omega arith

  pub slot_start : start_of (slot_word i n) ≡ 25 * i
  slot_start = omega arith

  pub slot_spell : (T M : Bytes) → spell T M (slot_word i n) ≡ take n (drop (25 * i) M)
  slot_spell T M = rw (slot_made, slot_length, slot_start)

-- the name in the slot of place `at` has grown to the word w: the new name for x is the new name for it
pub record Grows (T M : Bytes) (at : ℕ) (U : List Name) (x : Name) (w : ℕ) : Type 0 where
  pub size : ℕ
  pub word : w ≡ slot_word at size
  pub most : size ≤ 25
  pub ticks : (j : ℕ) → size ≤ j → j < 25 → get_or M (25 * at + j) 0 ≡ 96
  pub name : fresh U x ≡ fresh U (take size (drop (25 * at) M))

module _ {T M : Bytes} {at : ℕ} {U : List Name} {x : Name} {w : ℕ} (g : Grows T M at U x w) (h : at < 1024) (room : 25600 ≤ length M) where
  spelled : spell T M w ≡ take g.size (drop (25 * at) M)
  spelled = ap (spell T M) g.word ∙ slot_spell at g.size h g.most T M

  long_as : length (take g.size (drop (25 * at) M)) ≡ g.size
  long_as = length-take-le g.size (drop (25 * at) M) (simp length-drop (omega (arith, g.most)))

  -- what the loop's test looks at
  pub grows_size : size_of w ≡ g.size
  grows_size = ap size_of g.word ∙ slot_length at g.size h g.most

  pub grows_on : size_of w ≤ 24 → mem (spell T M w) U ≡ true → Grows T M at U x (w + 2048)
  grows_on l t = record {
    size = g.size + 1;
    word = omega (arith, g.word);
    most = omega (arith, grows_size);
    ticks = λ j a b. g.ticks j (omega arith) b;
    name = g.name ∙ fresh_on U (take g.size (drop (25 * at) M)) (ap (λ y. mem y U) (sym spelled) ∙ t) ∙ ap (fresh U) (sym longer);
  }
    where
      longer : take (g.size + 1) (drop (25 * at) M) ≡ ticked (take g.size (drop (25 * at) M))
      longer =
          rw (add-one, take-suc (drop (25 * at) M) g.size 0 (simp length-drop (omega (arith, grows_size))), get_or-drop, g.ticks g.size (omega arith) (omega (arith, grows_size)))

  -- how it ends
  pub grown : size_of w ≤ 24 → mem (spell T M w) U ≡ false → Named T M at (fresh U x) w
  grown l f =
      let n : spell T M w ≡ fresh U x = spelled ∙ sym (g.name ∙ fresh_stop U (take g.size (drop (25 * at) M)) (ap (λ y. mem y U) (sym spelled) ∙ f)) in
      record {
        size = g.size;
        word = g.word;
        most = g.most;
        name = λ z. n;
        slot = λ z. record { size = g.size; word = g.word; short = z; ticks = g.ticks };
        long = λ z. absurd (omega (arith, grows_size));
      }

  pub too_long : 24 < size_of w → Named T M at (fresh U x) w
  too_long l = record {
    size = g.size;
    word = g.word;
    most = g.most;
    name = λ z. absurd (omega (arith, grows_size));
    slot = λ z. absurd (omega (arith, grows_size));
    long = λ z. rw g.name (omega (arith, fresh_longer U (take g.size (drop (25 * at) M)), long_as));
  }
