-- The run at a node is the run behind its word, and a formula is told by that word. And what the word of a block stands for when its kind
-- is changed.
use Rattle.std.specs.Prelude.{◌≡◌, refl, ℕ, ◌/◌, ◌<◌, List, [], ◌∷◌, length}
use Rattle.std.proofs.Common.{sym, ap, ◌∙◌, arith}
use Rattle.definitions.specs.Bytes.{Bytes}
use Rattle.definitions.specs.Syntax.{Name, Formula}
use Rattle.text.specs.declared.kind.Kind.{Kind}
use Rattle.text.specs.declared.table.Table.{Table}
use Rattle.text.specs.Kinds.{number}
use Rattle.text.specs.Words.{Token, sign, token, spell, kind_of_word, count_of, code, root, below}
use Rattle.text.specs.WordLaws.{other_word, sign_word}
use Rattle.text.specs.Shapes.{code_splits, Each, Shapes, by_shape, shaped, no_shape}
use Rattle.negation.specs.Runs.{Read, Blank, Rest, Runs}
use Rattle.negation.proofs.RunLaws.{reads, nothing_left}

-- the run behind the word w, if a formula begins there
abbrev pub Behind : Bytes → Bytes → ℕ → List ℕ → Table → Rest → Table → (Formula → List Token) → Formula → Type 0
Behind T M w q t r t₁ G f = token T M w ≡ root f → Runs (token T M) q t r t₁ (below f) (G f)

module _ (T M : Bytes) {S : List ℕ} {t : Table} {r : Rest} {t₁ : Table} (G : Formula → List Token) where
  by_node : {w : ℕ} {q : List ℕ} {k : ℕ} → S ≡ w ∷ q → kind_of_word w ≡ k → Shapes k (count_of w) (Behind T M w q t r t₁ G)
      → (f : Formula) → Runs (token T M) S t r t₁ (code f) (G f)
  by_node {w} y h s f = rw (code_splits f) (reads y (λ e. by_shape T M w (Behind T M w _ t r t₁ G) h s f e e))

  -- at a node of the kind k
  pub node : {w : ℕ} {q : List ℕ} {j : Kind} (k : Kind) → Read S j w q → j ≡ k → Each (number k) (count_of w) (Behind T M w q t r t₁ G)
      → (f : Formula) → Runs (token T M) S t r t₁ (code f) (G f)
  node k y e x = by_node y.split y.kind (shaped (number k) (ap number e) x)

  -- at a word of no formula
  pub other : {w : ℕ} {q : List ℕ} → S ≡ w ∷ q → 10 < kind_of_word w → (f : Formula) → Runs (token T M) S t r t₁ (code f) (G f)
  other y h = by_node y refl (no_shape h)

  -- where there is no word there is none
  pub nowhere : Blank S → (f : Formula) → Runs (token T M) S t r t₁ (code f) (G f)
  nowhere b f = go S refl
    where
      go : (l : List ℕ) → S ≡ l → Runs (token T M) S t r t₁ (code f) (G f)
      go [] e = nothing_left (ap length e) (rw (code_splits f) (omega arith))
      go (w ∷ q) e = other e (omega (arith, b w q e)) f

-- words that differ in their kinds alone
same_count : (v w : ℕ) → v / 16 ≡ w / 16 → count_of v ≡ count_of w
same_count v w e = omega arith

same_spelling : (T M : Bytes) (v w : ℕ) → v / 16 ≡ w / 16 → spell T M v ≡ spell T M w
same_spelling T M v w e =
    let a : v / 1024 ≡ w / 1024 = omega arith in
    let b : v / 2048 ≡ w / 2048 = omega arith in
    let c : v / 131072 ≡ w / 131072 = omega arith in
    rw (a, b, c)

pub other_kind : (T M : Bytes) (v w k l : ℕ) {c : ℕ} {n : Name} → (kind_of_word v ≡ k) × (v / 16 ≡ w / 16) → k < 12 → l < 12
    → token T M w ≡ sign l c n → token T M v ≡ sign k c n
other_kind T M v w k l {c} {n} e g h t =
    let f = sign_word T M w t in
    let z : sign (kind_of_word w) (count_of w) (spell T M w) ≡ sign l c n = sym (other_word T M w (omega (arith, f.0))) ∙ t in
    let a : count_of w ≡ c = cc in
    let b : spell T M w ≡ n = cc in
    other_word T M v (omega arith) ∙ rw (e.0, same_count v w e.1, same_spelling T M v w e.1, a, b)
