-- Where terms end, one word after another.
use mathlib.Core.Path.{◌≡◌, ap, ◌∙◌}
use Rattle.std.proofs.Common.{Option, None, Some}
use mathlib.Core.List.{List, ◌++◌}
use Prim.Native.Nat.{ℕ, ◌+◌, ◌-◌, ◌<◌, ◌≤◌}
use native.Mathlib.Omega.{arith}
use lib.ListN.{length, get_or, length-append, drop_of_length-le}
use Rattle.definitions.specs.Bytes.{Bytes}
use Rattle.definitions.specs.Syntax.{terms_weight}
use Rattle.text.specs.Words.{Token, token, behind}
use Rattle.text.specs.Weights.{terms_words}
use Rattle.text.specs.Streams.{behind_word}
use Rattle.text.specs.Arguments.{first, some_terms, no_terms}
use Rattle.prenex.specs.Weights.{Ends}

-- none are due
pub none_due : {S : List ℕ} {at : ℕ} → at ≤ length S → Ends S at 0 (Some at)
unfolding terms_weight
none_due h = record { near = (omega arith, h); ends = λ T M ts rest c x. rw (no_terms ts c) (omega arith) }

-- the source ends before the terms do
pub source_ends : {S : List ℕ} {at due : ℕ} → length S ≤ at → 0 < due → Ends S at due None
source_ends {S} {at} l h = record {
  near = tt;
  ends = λ T M ts rest c x.
      absurd (omega (arith, some_terms ts (omega (arith, c)), simp (drop_of_length-le S {i = at} l, length-append) at (ap length x)));
}

-- one word more
pub one_more : {S : List ℕ} {at due n : ℕ} (r : Option ℕ) → at < length S → 0 < due → ((T M : Bytes) → n ≡ behind (token T M (get_or S at 0)))
    → Ends S (at + 1) (due - 1 + n) r → Ends S at due r
one_more {S} {at} {due} {n} (Some m) l h k e = record {
  near = let g = e.near in (omega arith, omega arith);
  ends = λ T M ts rest c x.
      let f = first ts (omega (arith, c)) in
      let y = behind_word T M S at l (x ∙ ap (λ (z : List Token). z ++ rest) f.split) in
      omega (
        arith,
        e.ends T M f.after rest (omega (arith, c, f.due, k T M, ap behind y.0)) y.1,
        terms_words ts,
        terms_words f.after,
        ap length f.split,
      );
}
one_more {S} {at} {due} {n} None l h k e = record {
  near = tt;
  ends = λ T M ts rest c x.
      let f = first ts (omega (arith, c)) in
      let y = behind_word T M S at l (x ∙ ap (λ (z : List Token). z ++ rest) f.split) in
      e.ends T M f.after rest (omega (arith, c, f.due, k T M, ap behind y.0)) y.1;
}
