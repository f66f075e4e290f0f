-- Names over the limit, looked for one word at a time; and the tables and the source as the walk over a whole rule finds them.
use mathlib.Core.Path.{◌≡◌, refl, sym, ap, ap₂, ◌∙◌}
use mathlib.Core.Bool.{Bool, true, false, ◌||◌}
use mathlib.Core.List.{List, [], ◌∷◌, append-nil}
use Prim.Native.Nat.{ℕ, zero, suc, ◌≤◌, ◌<◌, max}
use native.Mathlib.Omega.{arith}
use lib.Dec.{eqb, ltb}
use Rattle.std.specs.List.{list_any}
use lib.ListN.{length, replicate, length-replicate}
use borrow.Author.Tests.{le-ltb, lt-ltb, ltb-true, ltb-false}
use Rattle.definitions.specs.Bytes.{Bytes}
use Rattle.definitions.specs.Syntax.{Formula}
use Rattle.definitions.specs.Prenex.{longest}
use Rattle.definitions.proofs.Laws.Bools.{by_cases, clash}
use Rattle.text.specs.declared.table.Table.{Table}
use Rattle.text.specs.Words.{Token, kind_of_word, spell, tokens, code}
use Rattle.text.specs.Prefixes.{names}
use Rattle.prenex.specs.Tables.{AllKnown}
use Rattle.prenex.specs.Writing.{Plain, Reads}
use Rattle.prenex.specs.Outward.{Begins}
use Rattle.prenex.specs.Stage.{long_variable}
use Rattle.prenex.proofs.Appending.{plain_token}

-- words have a name over the limit where one of them has
pub some_long : (T M : Bytes) (W : List ℕ) → list_any (long_variable T M) W ≡ ltb 24 (longest (names (tokens T M W)))
unfolding names longest
some_long T M = go
  where
    either : (a b : ℕ) → (ltb 24 a || ltb 24 b) ≡ ltb 24 (max a b)
    either a b =
        by_cases (ltb 24 a)
        (λ t. rw t (sym (lt-ltb 24 (max a b) (omega (arith, ltb-true 24 a t)))))
        (λ f. rw f (by_cases (ltb 24 b)
        (λ t. t ∙ sym (lt-ltb 24 (max a b) (omega (arith, ltb-true 24 b t))))
        (λ g. g ∙ sym (le-ltb 24 (max a b) (omega (arith, ltb-false 24 a f, ltb-false 24 b g))))))

    go : (W : List ℕ) → list_any (long_variable T M) W ≡ ltb 24 (longest (names (tokens T M W)))
    go [] = refl
    go (w ∷ W) =
        by_cases (eqb (kind_of_word w) 12)
        (λ t. rw t (ap (λ (b : Bool). ltb 24 (length (spell T M w)) || b) (go W) ∙ either (length (spell T M w)) (longest (names (tokens T M W)))))
        (λ f. rw f (go W))

-- what two tests for such a name say
pub first_long : (a b : ℕ) {r : Bool} → r ≡ ltb 24 a → r ≡ true → 24 < max a b
first_long a b e t = omega (arith, ltb-true 24 a (sym e ∙ t))

pub second_long : (a b : ℕ) {s : Bool} → s ≡ ltb 24 b → s ≡ true → 24 < max a b
second_long a b f t = omega (arith, ltb-true 24 b (sym f ∙ t))

pub none_long : (a b : ℕ) {r s : Bool} → r ≡ ltb 24 a → s ≡ ltb 24 b → r ≡ false → s ≡ false → max a b ≤ 24
none_long a b e f t u = omega (arith, ltb-false 24 a (sym e ∙ t), ltb-false 24 b (sym f ∙ u))

-- empty tables
zeros_known : (n m : ℕ) → AllKnown n (replicate m 0)
zeros_known n zero i z = clash z refl
zeros_known n (suc m) zero z = clash z refl
zeros_known n (suc m) (suc i) z = zeros_known n m i z

abbrev pub empty : Table
empty = record { nodes = replicate 1024 0; used = 0 }

pub empty_begins : {M : Bytes} → 25600 ≤ length M → Begins M empty empty
empty_begins h = record {
  ready = record {
    places = record { room = h; size = length-replicate {A = ℕ} 1024 0; used = omega arith; slots = λ i l k. absurd (omega arith); known = zeros_known 0 1024 };
    matrix_size = length-replicate {A = ℕ} 1024 0;
    matrix_known = zeros_known 0 1024;
  };
  room = omega arith;
}

-- words of a formula that point into the rule text
same_tokens : (T M N : Bytes) (W : List ℕ) → Plain W → tokens T M W ≡ tokens T N W
same_tokens T M N [] h = refl
same_tokens T M N (w ∷ W) h = ap₂ (λ (t : Token) (l : List Token). t ∷ l) (plain_token T M N w (h zero)) (same_tokens T M N W (λ i. h (suc i)))

pub whole_read : {T : Bytes} {S : List ℕ} (N : Bytes) (f : Formula) → tokens T N S ≡ code f → Plain S → Reads T S 0 (code f) []
whole_read {T} {S} N f h p = record {
  stream = same_tokens T [] N S p ∙ h ∙ sym (append-nil (code f));
}
