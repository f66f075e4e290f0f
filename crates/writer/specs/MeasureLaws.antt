-- What a measure answers, by the text's length, and what follows for a text that is written behind its measure.
use Rattle.std.specs.Prelude.{◌≡◌, ℕ, ◌≤◌, ◌<◌, leb, length, Option, Some, None}
use Rattle.std.proofs.Common.{sym, ap, ◌∙◌, arith, zero-add, leb-true, leb-false, le-leb}
use Rattle.std.proofs.lemmas.Bool.{lt-leb}
use Rattle.definitions.specs.Bytes.{Bytes}
use Rattle.definitions.specs.Convert.{accepted, not_given}
use Rattle.definitions.proofs.Laws.Bools.{by_cases}
use Rattle.writer.specs.Writer.{answer_of, Measured, Writes, Wrote}
use Rattle.writer.specs.PutLaws.{wrote_is}

-- The answer, by the text's length.
pub too_long : (S : Bytes) (room : ℕ) → room < length S → Measured S room None
too_long S room h = record { answers = rw (lt-leb (length S) room h) }

pub short_enough : (S : Bytes) (room n : ℕ) → length S ≤ room → length S ≡ n → Measured S room (Some n)
short_enough S room n h e = record { answers = rw (le-leb (length S) room h) (ap accepted (sym e)) }

-- and back
pub was_short : {S : Bytes} {room n : ℕ} {r : Option ℕ} → Measured S room r → r ≡ Some n → length S ≤ room
was_short {S} {room} {n} {r} a e =
    by_cases (leb (length S) room)
    (λ t. leb-true (length S) room t)
    (λ f. absurd (no_length (sym (ap answer_of e) ∙ a.answers ∙ rw f)))
  where
    no_length : accepted n ≡ not_given 1 0 → ⊥
    no_length p = let z : ◌≡◌ {A = ℕ} 0 1 = cc in omega arith

pub was_long : {S : Bytes} {room : ℕ} {r : Option ℕ} → Measured S room r → r ≡ None → room < length S
was_long {S} {room} {r} a e =
    by_cases (leb (length S) room)
    (λ t. absurd (no_refusal (sym (ap answer_of e) ∙ a.answers ∙ rw t)))
    (λ f. leb-false (length S) room f)
  where
    no_refusal : not_given 1 0 ≡ accepted (length S) → ⊥
    no_refusal p = let z : ◌≡◌ {A = ℕ} 0 1 = cc in omega arith

pub was_size : {S : Bytes} {room n : ℕ} {r : Option ℕ} → Measured S room r → r ≡ Some n → length S ≡ n
was_size {S} {room} {n} m e = same (sym (ap answer_of e) ∙ m.answers ∙ rw (le-leb (length S) room (was_short m e)))
  where
    same : accepted n ≡ accepted (length S) → length S ≡ n
    same p = cc

-- the text is too long for out, or was written to its front
pub not_written : {S o : Bytes} {r : Option ℕ} → Measured S (length o) r → r ≡ None → Writes S o o None
not_written {S} {o} m e =
    record { answers = ap answer_of (sym e) ∙ m.answers; leaves = rw (lt-leb (length S) (length o) (was_long m e)) }

pub all_written : {S o o₁ : Bytes} {n k : ℕ} {r : Option ℕ} → Measured S (length o) r → r ≡ Some n → Wrote o 0 S o₁ k → Writes S o o₁ (Some n)
all_written {S} {o} m e w =
    record {
      answers = ap answer_of (sym e) ∙ m.answers;
      leaves = rw (le-leb (length S) (length o) (was_short m e)) (wrote_is w ∙ rw (zero-add (length S)));
    }
