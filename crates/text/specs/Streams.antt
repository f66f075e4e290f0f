-- A table's tokens from a place on: a formula that stands there is told by the word at the place, and behind what was read the rest goes on.
use Rattle.std.specs.Prelude.{◌≡◌, List, ◌∷◌, ◌++◌, ℕ, suc, ◌+◌, ◌<◌, ◌≤◌, length, drop, get_or}
use Rattle.std.proofs.Common.{sym, ap, ◌∙◌, arith, add-one, length-append, drop_of_length-le, drop-cons, drop-drop}
use Rattle.std.proofs.Math.Seq.{drop-append_seam}
use Rattle.definitions.specs.Bytes.{Bytes}
use Rattle.definitions.specs.Limits.{house}
use Rattle.definitions.specs.Syntax.{Formula}
use Rattle.text.specs.Words.{Token, token, tokens, kind_of_word, count_of, code, root, below}
use Rattle.text.specs.WordLaws.{map_drop}
use Rattle.text.specs.Shapes.{code_splits, Shapes, by_shape}

-- a word of the kind k stands at `at`
pub record At (S : List ℕ) (at k : ℕ) : Type 0 where
  pub size : length S ≡ house.weight
  pub below : at < house.weight
  pub kind : kind_of_word (get_or S at 0) ≡ k

module _ (T M : Bytes) where
  pub behind_word : (S : List ℕ) (at : ℕ) {t : Token} {l : List Token} → at < length S → tokens T M (drop at S) ≡ t ∷ l
      → (token T M (get_or S at 0) ≡ t) × (tokens T M (drop (at + 1) S) ≡ l)
  behind_word S at {t} {l} h x =
      let y : token T M (get_or S at 0) ∷ tokens T M (drop (suc at) S) ≡ t ∷ l = sym (ap (tokens T M) (drop-cons S at 0 h)) ∙ x in
      (cc, rw (add-one at) (cc))

  pub behind_part : (S : List ℕ) (at : ℕ) (i : List Token) {rest : List Token} → tokens T M (drop at S) ≡ i ++ rest
      → tokens T M (drop (at + length i) S) ≡ rest
  behind_part S at i {rest} x =
      sym (ap (tokens T M) (drop-drop (length i) at S)) ∙ map_drop (token T M) (length i) (drop at S)
      ∙ ap (drop (length i)) x ∙ drop-append_seam i rest

  -- what is to be shown behind the word at `at`, if a formula begins there
  abbrev pub Behind : List ℕ → ℕ → (Formula → List Token → Type 0) → Formula → Type 0
  Behind S at G f = (rest : List Token) → token T M (get_or S at 0) ≡ root f → tokens T M (drop (at + 1) S) ≡ below f ++ rest → G f rest

  pub at_node : {S : List ℕ} {at k : ℕ} (G : Formula → List Token → Type 0) → At S at k → Shapes k (count_of (get_or S at 0)) (Behind S at G)
      → (f : Formula) (rest : List Token) → tokens T M (drop at S) ≡ code f ++ rest → G f rest
  at_node {S} {at} G h s f rest x =
      let y = behind_word S at (omega (arith, h.size, h.below)) (x ∙ ap (λ (c : List Token). c ++ rest) (code_splits f)) in
      by_shape T M (get_or S at 0) (Behind S at G) h.kind s f y.0 rest y.0 y.1

  -- past the end of the table there is none
  pub no_node : (S : List ℕ) (at : ℕ) (f : Formula) (rest : List Token) → length S ≤ at → tokens T M (drop at S) ≡ code f ++ rest → ⊥
  no_node S at f rest h x = omega (arith, simp (drop_of_length-le S {i = at} h, code_splits f, length-append) at (ap length x))
