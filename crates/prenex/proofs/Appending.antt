-- Words written behind the matrix: one word, and a run of the source word by word.
use mathlib.Core.Path.{◌≡◌, sym, ap, ap₂, ◌∙◌}
use mathlib.Core.Bool.{false}
use mathlib.Core.List.{List, [], ◌∷◌, ◌++◌, append_assoc}
use Prim.Native.Nat.{ℕ, ◌+◌, ◌-◌, ◌≤◌, ◌<◌}
use native.Mathlib.Omega.{arith}
use native.Mathlib.Numerals.{add-one}
use lib.ListN.{length, take, drop, get_or, set, length-set, length-map, length-append, length-take, length-drop}
use lib.Seq.{slice, take-suc-set, take-append_seam, get_or-take, get_or-drop}
use Rattle.definitions.specs.Bytes.{Bytes}
use Rattle.text.specs.declared.table.Table.{Table}
use Rattle.definitions.proofs.Laws.Bools.{clash}
use Rattle.text.specs.Words.{Token, is_made, token, tokens}
use Rattle.text.specs.WordLaws.{map_drop}
use Rattle.prenex.specs.Tables.{Known, AllKnown}
use Rattle.prenex.specs.Writing.{Plain, Reads, Extends, Written}
use Rattle.prenex.proofs.Splices.{part, slice_more}
use Rattle.prenex.proofs.Words.{tokens_at, tokens_set}
use Rattle.prenex.proofs.Putting.{set_known}

-- what a word of the rule text stands for does not depend on the made names
pub plain_token : (T M N : Bytes) (w : ℕ) → is_made w ≡ false → token T M w ≡ token T N w
plain_token T M N w e = rw e

pub plain_known : (n w : ℕ) → is_made w ≡ false → Known n w
plain_known n w e z = clash z e

-- one word more behind a table
pub one_written : (T M : Bytes) (W : List ℕ) (used w : ℕ) → used < length W → take (used + 1) (tokens T M (set W used w)) ≡ take used (tokens T M W) ++ (token T M w ∷ [])
one_written T M W used w h = rw (add-one used, tokens_set T M W used w) (take-suc-set (tokens T M W) used (token T M w) (simp length-map h))

-- W with the word w behind it
abbrev pub with_word : Table → ℕ → Table
with_word W w = record { nodes = set W.nodes W.used w; used = W.used + 1 }

module _ {W : Table} (size : length W.nodes ≡ 1024) (h : W.used < 1024) (w : ℕ) (p : is_made w ≡ false) where
  pub put_extends : Extends W (with_word W w)
  put_extends = record {
    size = simp length-set size;
    more = omega arith;
    room = omega arith;
    known = λ k a. set_known k W.used w W.nodes (plain_known k w p) a;
  }

  pub put_written : (T : Bytes) → Written T W (with_word W w) (token T [] w ∷ [])
  put_written T = record {
    words = λ M. one_written T M W.nodes W.used w (omega arith) ∙ ap (λ (t : Token). take W.used (tokens T M W.nodes) ++ (t ∷ [])) (plain_token T M [] w p);
  }

-- what was read is a run of the source
pub read_run : {T : Bytes} {S : List ℕ} {at : ℕ} {l rest : List Token} → Reads T S at l rest → slice at (at + length l) (tokens T [] S) ≡ l
read_run {T} {S} {at} {l} {rest} r =
    sym (part (length l) at (tokens T [] S)) ∙ ap (take (length l)) (sym (map_drop (token T []) at S) ∙ r.stream) ∙ take-append_seam l rest

pub read_bound : {T : Bytes} {S : List ℕ} {at : ℕ} {l rest : List Token} → Reads T S at l rest → 0 < length l → at + length l ≤ length S
read_bound {T} {S} {at} {l} {rest} r h = omega (arith, simp (length-map, length-drop, length-append) at (ap length r.stream))

-- a word of a run of the source
pub run_at : (S : List ℕ) (at k i : ℕ) → i < length (take k (drop at S)) → get_or (take k (drop at S)) i 0 ≡ get_or S (at + i) 0
run_at S at k i h = get_or-take k (drop at S) i 0 (omega (arith, length-take k (drop at S))) ∙ get_or-drop at S i 0

pub run_below : (S : List ℕ) (at k i : ℕ) → i < length (take k (drop at S)) → i < k
run_below S at k i h = omega (arith, length-take k (drop at S))

-- the words at .. i are copied behind those of W, which has become X
pub record Copying (S : List ℕ) (at : ℕ) (W : Table) (i : ℕ) (X : Table) : Type 0 where
  pub count : X.used ≡ W.used + (i - at)
  pub size : length X.nodes ≡ 1024
  pub known : (k : ℕ) → AllKnown k W.nodes → AllKnown k X.nodes
  pub words : (T M : Bytes) → Plain S
      → take X.used (tokens T M X.nodes) ≡ take W.used (tokens T M W.nodes) ++ slice at i (tokens T [] S)

module _ {S : List ℕ} {at : ℕ} {W : Table} {i : ℕ} {X : Table} (c : Copying S at W i X) where
  pub copying_on : (w : ℕ) → at ≤ i → i < length S → X.used < 1024 → is_made w ≡ false → (is_made (get_or S i 0) ≡ false → w ≡ get_or S i 0)
      → Copying S at W (i + 1) (with_word X w)
  copying_on w h k l p q = record {
    count = omega (arith, c.count);
    size = simp length-set c.size;
    known = λ k a. set_known k X.used w X.nodes (plain_known k w p) (c.known k a);
    words = λ T M pl.
        one_written T M X.nodes X.used w (omega (arith, c.size))
        ∙ ap₂ (λ (a : List Token) (t : Token). a ++ (t ∷ [])) (c.words T M pl) (plain_token T M [] w p ∙ ap (token T []) (q (pl i)))
        ∙ append_assoc (take W.used (tokens T M W.nodes)) (slice at i (tokens T [] S)) (token T [] (get_or S i 0) ∷ [])
        ∙ ap (λ (l : List Token). take W.used (tokens T M W.nodes) ++ l) (ap (λ (t : Token). slice at i (tokens T [] S) ++ (t ∷ [])) (sym (tokens_at T [] S i))
        ∙ sym (slice_more at i (tokens T [] S) (token T [] 0) h (simp length-map (omega arith))));
  }

  pub copying_extends : X.used ≤ 1024 → Extends W X
  copying_extends h = record { size = c.size; more = omega (arith, c.count); room = h; known = c.known }

  pub copying_done : {T : Bytes} {l rest : List Token} → Reads T S at l rest → i ≡ at + length l → Plain S → Written T W X l
  copying_done {T} r e p = record {
    words = λ M. c.words T M p
        ∙ ap (λ (k : List Token). take W.used (tokens T M W.nodes) ++ k) (ap (λ (j : ℕ). slice at j (tokens T [] S)) e ∙ read_run r);
  }
