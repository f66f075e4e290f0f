-- Blocks and matrix one behind the other; the words of a rule that was read.
use mathlib.Core.Path.{◌≡◌, refl, sym, ap, ◌∙◌}
use mathlib.Core.Bool.{true, false, not}
use mathlib.Core.List.{List, [], ◌∷◌, ◌++◌, append_assoc, map-append}
use Prim.Native.Nat.{ℕ, zero, suc, ◌+◌, ◌-◌, min}
use native.Mathlib.Omega.{arith}
use lib.ListN.{length, take, get_or, replicate, length-append, length-map}
use lib.Seq.{length-take-le, take-length}
use borrow.Rule.Slice.PartMut.{put_mid}
use Rattle.std.proofs.lemmas.Slice.{take-put_mid}
use Rattle.text.specs.declared.table.Table.{Table}
use Rattle.convert.specs.Stages.{Joined}
use Rattle.definitions.specs.Bytes.{Bytes}
use Rattle.definitions.specs.Syntax.{Formula, weight}
use Rattle.definitions.specs.Limits.{house}
use Rattle.definitions.specs.Prenex.{Prefix, plain, more, close}
use Rattle.definitions.proofs.Laws.Bools.{and_true_left, and_true_right, not_flip}
use Rattle.text.specs.Words.{Token, token, tokens, code, block_code, is_made}
use Rattle.text.specs.Weights.{words_weight}
use Rattle.text.specs.Tables.{words_of}
use Rattle.text.specs.Prefixes.{prefix_code}
use Rattle.reader.specs.Lines.{inside, all_inside}
use Rattle.substitution.specs.Runs.{Unmade}

-- the words of a formula with its blocks are those of the blocks, and then those of the matrix
close_code : (p : Prefix) (m : Formula) → code (close p m) ≡ prefix_code p ++ code m
unfolding close code prefix_code
close_code plain m = refl
close_code (more q vs p) m = ap (λ (l : List Token). block_code q vs ++ l) (close_code p m) ∙ sym (append_assoc (block_code q vs) (prefix_code p) (code m))

-- there are as many words as tokens
as_many : (T M : Bytes) (W : List ℕ) (ts : List Token) → tokens T M W ≡ ts → length W ≡ length ts
as_many T M W ts e = sym (length-map W (token T M)) ∙ ap length e

-- together they are as many as the formula weighs
joined_weight : (T M : Bytes) (B X : List ℕ) (p : Prefix) (m : Formula) → tokens T M B ≡ prefix_code p → tokens T M X ≡ code m → length B + length X ≡ weight (close p m)
joined_weight T M B X p m e h =
    omega (arith, as_many T M B (prefix_code p) e, as_many T M X (code m) h, words_weight (close p m), ap length (close_code p m), length-append (prefix_code p) (code m))

joined_words : (T M : Bytes) (B X : List ℕ) (p : Prefix) (m : Formula) → tokens T M B ≡ prefix_code p → tokens T M X ≡ code m → tokens T M (B ++ X) ≡ code (close p m)
joined_words T M B X p m e h = map-append (token T M) B X ∙ rw (e, h) (sym (close_code p m))

-- the words of a matrix laid behind those of its blocks
pub joined_tables : (P : Table) (X : List ℕ) (from k size : ℕ) (ys : List ℕ) → length P.nodes ≡ house.weight → from ≡ min P.used house.weight
    → size ≡ min (length X) (house.weight - from) → ys ≡ take size X → Joined P X (record { nodes = put_mid from k P.nodes ys; used = from + size })
joined_tables P X from k size ys a f s y = record {
  form = λ T M p m w u e h.
      let n = joined_weight T M (words_of P) X p m e h in
      let b : length (words_of P) ≡ P.used = length-take-le P.used P.nodes (omega arith) in
      let i : from ≡ P.used = omega arith in
      let j : size ≡ length X = omega arith in
      let all : ys ≡ X = y ∙ rw j (take-length X) in record {
        room = omega arith;
        words = ap (tokens T M) (take-put_mid from k P.nodes ys (from + size) (omega (arith, ap length all)) (omega arith) ∙ rw (i, all)) ∙ joined_words T M (words_of P) X p m e h;
      };
}

-- the words of a rule that was read are not among the made names
all_unmade : (T : Bytes) (l : List ℕ) → all_inside T l ≡ true → (i : ℕ) → is_made (get_or l i 0) ≡ false
unfolding all_inside
all_unmade T [] h i = refl
all_unmade T (w ∷ l) h zero =
    not_flip (is_made w) true (and_true_left (not (is_made w)) _ (and_true_left (inside T w) (all_inside T l) h))
all_unmade T (w ∷ l) h (suc i) = all_unmade T l (and_true_right (inside T w) (all_inside T l) h) i

pub unmade : (T : Bytes) (l : List ℕ) → all_inside T l ≡ true → Unmade l
unmade T l h = record { each = all_unmade T l h }

-- an empty array points nowhere
pub unmade_zeros : (n : ℕ) → Unmade (replicate n 0)
unmade_zeros n = record { each = go n }
  where
    go : (n i : ℕ) → is_made (get_or (replicate n 0) i 0) ≡ false
    go zero i = refl
    go (suc n) zero = refl
    go (suc n) (suc i) = go n i
