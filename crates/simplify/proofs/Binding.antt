-- A block's word with its variables and its body.
use Rattle.std.specs.Prelude.{◌≡◌, refl, false, List, [], ◌∷◌, ◌++◌, map, ℕ, ◌+◌, ◌-◌, ◌*◌, ◌/◌, ◌<◌, ◌≤◌, length, set}
use Rattle.std.proofs.Common.{sym, ap, ap₂, ◌∙◌, arith, length-set}
use Rattle.std.proofs.Math.Seq.{slice}
use Rattle.std.proofs.lemmas.List.{map-append, length-map}
use Rattle.definitions.specs.Bytes.{Bytes}
use Rattle.definitions.specs.Syntax.{Name, Quant, Formula, blk}
use Rattle.definitions.specs.Simplify.{over_kept}
use Rattle.text.specs.Words.{Token, var_token, sign, token, tokens, kind_of_word, count_of, size_of, is_made, code}
use Rattle.text.specs.WordLaws.{other_word}
use Rattle.text.specs.Shapes.{block_range}
use Rattle.text.specs.Kinds.{number}
use Rattle.text.specs.declared.kind.Kind.{Kind}
use Rattle.text.specs.declared.kind.Kind.TheVariants.{Top, Bottom, Not, And, Or, Implies, Iff, Equals, All, Exists, Predicate, Function, Variable, Constant}
use Rattle.substitution.specs.Runs.{Keeps}
use Rattle.substitution.specs.Slices.{slice_behind, slice_split, slice_kept, slice_after, kept_twice}
use Rattle.substitution.specs.Keeping.{unmade_none}
use Rattle.simplify.specs.Parts.{Moves, Pastes, Binds}
use Rattle.simplify.proofs.Moving.{behind_word, keeps_after}

-- a kind's number fits its four bits
pub small : (k : Kind) → number k < 16
small Top = omega arith
small Bottom = omega arith
small Not = omega arith
small And = omega arith
small Or = omega arith
small Implies = omega arith
small Iff = omega arith
small Equals = omega arith
small All = omega arith
small Exists = omega arith
small Predicate = omega arith
small Function = omega arith
small Variable = omega arith
small Constant = omega arith

-- a block's word
pub block_word : (T M : Bytes) (k n : ℕ) → k < 12 → n < 64 → token T M (k + 16 * n) ≡ sign k n []
block_word T M k n h l =
    let kind : kind_of_word (k + 16 * n) ≡ k = omega arith in
    let half : (k + 16 * n) / 16 ≡ n = omega arith in
    let count : count_of (k + 16 * n) ≡ n = rw half (omega arith) in
    let low : (k + 16 * n) / 2048 ≡ 0 = omega arith in
    let size : size_of (k + 16 * n) ≡ 0 = rw low in
    other_word T M (k + 16 * n) (λ e. omega arith) ∙ rw (kind, count, size)

block_unmade : (k n : ℕ) → k < 16 → n < 64 → is_made (k + 16 * n) ≡ false
block_unmade k n h l = let low : (k + 16 * n) / 1024 ≡ 0 = omega arith in rw low

pub small_unmade : (k : Kind) → is_made (number k) ≡ false
small_unmade k = let low : number k / 1024 ≡ 0 = omega (arith, small k) in rw low

-- a list of names that is not empty stays a block
over_some : (q : Quant) (vs : List Name) (f : Formula) → 0 < length vs → over_kept q vs f ≡ blk q vs f
unfolding over_kept
over_some q [] f h = absurd (omega arith)
over_some q (v ∷ vs) f h = refl

-- as many names as words are kept
as_many : (T M : Bytes) (L : List ℕ) (vs : List Name) → tokens T M L ≡ map var_token vs → length vs ≡ length L
as_many T M L vs e = sym (length-map vs var_token) ∙ sym (ap length e) ∙ length-map L (token T M)

module _ {kind : ℕ} {L O : List ℕ} {used first end : ℕ} (k : kind < 16) (b : used < first) (n : first ≤ used + 64) (i : first ≤ end) (g : end ≤ length O) where
  pub binds_none : {O' : List ℕ} {r : ℕ} → length L ≡ 0 → Moves O used first end O' r → Binds kind L O used first end O' r
  unfolding over_kept
  binds_none {O'} {r} e m =
      record {
        keeps = record { size = m.keeps.size; kept = m.keeps.kept; more = m.keeps.more; origin = λ s o. m.keeps.origin unmade_none o };
        short = omega (arith, m.place);
        formula = λ T M q vs f x y w v. ap (tokens T M) m.words ∙ v ∙ ap code (sym (empty vs q f (as_many T M L vs y ∙ e)));
      }
    where
      empty : (vs : List Name) (q : Quant) (f : Formula) → length vs ≡ 0 → over_kept q vs f ≡ f
      empty [] q f h = refl
      empty (v ∷ vs) q f h = absurd (omega arith)

  pub binds_nothing : first - used ≤ length L → Binds kind L O used first end O end
  binds_nothing h =
      record {
        keeps = record { size = refl; kept = refl; more = omega arith; origin = λ s o. o };
        short = omega arith;
        formula = λ T M q vs f x y w v. absurd (omega (arith, as_many T M L vs y));
      }

  pub binds_some : {O₁ O₂ : List ℕ} {body r : ℕ} → 0 < length L → length L < first - used → Pastes L (set O used (kind + 16 * length L)) (used + 1) O₁ body → Moves O₁ body first end O₂ r → Binds kind L O used first end O₂ r
  unfolding code
  binds_some {O₁} {O₂} {body} {r} p h s m =
      record {
        keeps = keeps_after (kind + 16 * length L) (block_unmade kind (length L) k (omega arith)) whole;
        short = omega (arith, m.place, s.place);
        formula = λ T M q vs f x y w v.
            behind_word T M L O used (kind + 16 * length L) O₂ r (map var_token vs ++ code f) (omega arith) room whole
            (ap (tokens T M) (slice_split (used + 1) body r O₂ s.keeps.more m.keeps.more room)
            ∙ map-append (token T M) (slice (used + 1) body O₂) (slice body r O₂)
            ∙ ap₂ (◌++◌)
            (ap (tokens T M) (slice_kept (used + 1) body body O₂ O₁ (omega arith) m.keeps.kept ∙ s.words) ∙ y)
            (ap (tokens T M) (m.words ∙ slice_after body first end O₁ (set O used (kind + 16 * length L)) (omega (arith, s.place)) s.above ∙ slice_behind first end used O (kind + 16 * length L) b) ∙ v))
            ∙ ap (λ (t : Token). t ∷ (map var_token vs ++ code f)) (block_word T M kind (length L) (omega (arith, x, block_range q)) (omega arith) ∙ ap₂ (λ (a c : ℕ). sign a c []) (sym x) (sym (as_many T M L vs y)))
            ∙ ap code (sym (over_some q vs f (omega (arith, as_many T M L vs y))));
      }
    where
      room : r ≤ length O₂
      room = omega (arith, m.place, s.place, m.keeps.size, s.keeps.size, length-set O used (kind + 16 * length L))

      whole : Keeps L (set O used (kind + 16 * length L)) (used + 1) O₂ r
      whole = record {
        size = m.keeps.size ∙ s.keeps.size;
        kept = kept_twice (used + 1) body (set O used (kind + 16 * length L)) O₁ O₂ s.keeps.more m.keeps.kept s.keeps.kept;
        more = omega (arith, s.keeps.more, m.keeps.more);
        origin = λ u o. m.keeps.origin unmade_none (s.keeps.origin u o);
      }
