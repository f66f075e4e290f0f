-- The steps of the stage joined: what they leave in their tables are the forall blocks and the matrix of the Skolem form, or that is too
-- large. Names are compared over the made names as they were, and read over them as they are at the end: the tables hold the same.
use mathlib.Core.Path.{◌≡◌, refl, sym, ap, ap₂, ◌∙◌}
use mathlib.Core.Bool.{true, false, or-true}
use mathlib.Core.List.{List, [], ◌∷◌, map}
use Prim.Native.Nat.{ℕ, zero, suc, ◌+◌, ◌-◌, ◌*◌, ◌/◌, ◌%◌, ◌≤◌, ◌<◌}
use native.Mathlib.Omega.{arith}
use borrow.Author.Tests.{leb-true, leb-false, lt-ltb, le-ltb}
use lib.Dec.{eqb, leb, ltb}
use lib.ListN.{length, take, length-map, length-take}
use Rattle.definitions.specs.Bytes.{Bytes}
use Rattle.definitions.specs.Limits.{house}
use Rattle.definitions.specs.Syntax.{Formula, weight}
use Rattle.definitions.specs.Names.{widest}
use Rattle.definitions.specs.Prenex.{Prefix, Prenex, close, no_block}
use Rattle.definitions.specs.Skolem as form
use Rattle.definitions.specs.Skolem.{binders, skolemise, skolem_formula}
use Rattle.definitions.specs.Convert.{too_large}
use Rattle.definitions.proofs.Laws.Bools.{by_cases}
use Rattle.text.specs.Words.{Token, token, tokens, code}
use Rattle.text.specs.WordLaws.{other_word}
use Rattle.text.specs.Prefixes.{names, prefix_code, Firm}
use Rattle.text.specs.PrefixLaws.{prefix_names}
use Rattle.skolem.specs.declared.counters.Counters.{Counters}
use Rattle.skolem.specs.Counting.{counts_of}
use Rattle.skolem.specs.Pass.{most, gather, Survey, survey, blank_word, blank_token, named, stays, keep, filled, reach}
use Rattle.skolem.specs.Naming.{AreNamed}
use Rattle.skolem.specs.Filling.{width, Added, Lacks, Keeps}
use Rattle.skolem.proofs.Found.{Stands}
use Rattle.skolem.proofs.Whole.{surveyed, all_heads, passes, close_weight, close_widest}
use Rattle.skolem.proofs.Maps.{gather_map, survey_map, keep_map, filled_map}

-- A word's kind and count do not depend on the names.
blank_read : (T M : Bytes) (n : ℕ) → n ≤ most → token T M (blank_word n) ≡ blank_token n
blank_read T M zero h = refl
blank_read T M (suc n) h =
    let kind_e : (11 + 16 * suc n) % 16 ≡ 11 = omega arith in
    let whole_e : (11 + 16 * suc n) / 16 ≡ suc n = omega arith in
    let count_e : (11 + 16 * suc n) / 16 % 64 ≡ suc n = rw whole_e (omega arith) in
    let none_e : (11 + 16 * suc n) / 2048 ≡ 0 = omega arith in
    let size_e : (11 + 16 * suc n) / 2048 % 64 ≡ 0 = rw none_e refl in
    other_word T M (11 + 16 * suc n) (λ q. omega (arith, kind_e)) ∙ rw (kind_e, count_e, size_e)

stays_any : (T M : Bytes) (w : ℕ) → stays (token T M w) ≡ stays (token [] [] w)
stays_any T M w = by_cases (eqb (w % 16) 12) (λ t. rw t) (λ f. rw f)

keep_any : (T M : Bytes) (l : List ℕ) → keep (λ w. stays (token T M w)) l ≡ keep (λ w. stays (token [] [] w)) l
unfolding keep
keep_any T M [] = refl
keep_any T M (w ∷ l) = rw (stays_any T M w, keep_any T M l)

width_any : (T M : Bytes) (l : List ℕ) → reach (tokens T M l) ≡ width l
unfolding reach
width_any T M [] = refl
width_any T M (w ∷ l) = by_cases (eqb (w % 16) 12) (λ t. rw (t, width_any T M l)) (λ f. rw (f, width_any T M l))

-- Whether a Skolem form is too large, by its tokens.
module _ (p : Prefix) (m : Formula) where
  small : length (prefix_code p) + length (code m) ≤ house.weight → reach (code m) ≤ house.arguments → too_large house (close p m) ≡ false
  unfolding too_large
  small h k = rw (le-ltb house.weight (weight (close p m)) (omega (arith, close_weight p m)), le-ltb house.arguments (widest (close p m)) (omega (arith, close_widest p m)))

  heavy_by_weight : house.weight < length (prefix_code p) + length (code m) → too_large house (close p m) ≡ true
  unfolding too_large
  heavy_by_weight h = rw (lt-ltb house.weight (weight (close p m)) (omega (arith, close_weight p m)))

  heavy_by_width : house.arguments < reach (code m) → too_large house (close p m) ≡ true
  unfolding too_large
  heavy_by_width h = rw (lt-ltb house.arguments (widest (close p m)) (omega (arith, close_widest p m))) (or-true (ltb house.weight (weight (close p m))))

module _ (T M : Bytes) (used : ℕ) (k : Counters) (P W : List ℕ) (p : Prenex)
    (blocks : Firm T M used P (prefix_code p.prefix)) (body : Firm T M used W (code p.matrix)) (flat : no_block p.matrix ≡ true)
    {g : List ℕ} (few : length g ≤ most) (free : g ≡ gather (token T M) (names (tokens T M P)) [] W)
    {H₁ g' : List ℕ} (around : survey (token T M) blank_word 0 false g P ≡ record { heads = H₁; scope = g' })
    {H : List ℕ} {M' : Bytes} {end : ℕ} {k' : Counters} (titles : AreNamed H₁ M used k H M' end k') where
  abbrev s : form.Skolemised
  s = skolemise p (counts_of k)

  abbrev d : ℕ → Token
  d = token T M

  abbrev e : ℕ → Token
  e = token T M'

  kept : take used M' ≡ take used M
  kept = titles.grown.front

  like_prefix : map e P ≡ map d P
  like_prefix = blocks M' kept ∙ sym (blocks M refl)

  like_matrix : map e W ≡ map d W
  like_matrix = body M' kept ∙ sym (body M refl)

  -- the free variables
  abbrev free_tokens : List Token
  free_tokens = gather (λ t. t) (binders p.prefix) [] (code p.matrix)

  free_read : (h : ℕ → Token) → map h W ≡ map d W → map h g ≡ free_tokens
  free_read h like =
      ap (map h) free ∙ gather_map d h (names (tokens T M P)) [] W refl like
      ∙ ap₂ (λ (z : List _) (l : List Token). gather (λ t. t) z [] l) (ap names (blocks M refl) ∙ prefix_names p.prefix) (body M refl)

  -- the survey
  survey_read : (map e H₁ ≡ (surveyed p).heads) × (map e g' ≡ (surveyed p).scope)
  survey_read =
      let h = survey_map d e blank_word (blank_read T M') 0 false g P (few)
      (free_read e like_matrix ∙ sym (free_read d refl)) like_prefix in
      let same : survey (λ t. t) blank_token 0 false (map d g) (map d P) ≡ surveyed p =
      ap₂ (survey (λ t. t) blank_token 0 false) (free_read d refl) (blocks M refl) in
      (rw around at (h.0 ∙ ap (λ (z : Survey Token). z.heads) same), rw around at (h.1 ∙ ap (λ (z : Survey Token). z.scope) same))

  heads_read : map e H ≡ all_heads p (counts_of k)
  heads_read = titles.heads T M' refl ∙ ap (named (counts_of k)) survey_read.0

  pub counts_read : counts_of k' ≡ s.after
  counts_read =
      titles.counters T M' ∙ ap (form_after (counts_of k)) survey_read.0 ∙ (passes p (counts_of k) flat).counts
    where
      form_after : form.Counts → List Token → form.Counts
      form_after k l = Rattle.skolem.specs.Pass.drawn_after k l

  -- the forall blocks
  pub blocks_read : {O' : List ℕ} {r : ℕ} → Keeps H O' r → tokens T M' (take r O') ≡ prefix_code s.prefix
  blocks_read h =
      ap (map e) (h.words ∙ sym (keep_any T M' H)) ∙ keep_map e H ∙ ap (keep stays) heads_read ∙ (passes p (counts_of k) flat).blocks

  -- the matrix
  abbrev out : List ℕ
  out = filled e g' P H W

  out_stands : Stands (map e out) (code s.matrix)
  out_stands =
      let same : map e out ≡ filled (λ t. t) (surveyed p).scope (prefix_code p.prefix) (all_heads p (counts_of k)) (code p.matrix) =
      filled_map e g' P H W ∙ rw (survey_read.1, heads_read, blocks M' kept, body M' kept) in
      rw same (passes p (counts_of k) flat).matrix

  module _ {O' : List ℕ} {r : ℕ} (h : Keeps H O' r) (rooms : r ≤ house.weight) (long : length O' ≡ house.weight) (B : List ℕ) (room : length B ≡ house.weight - r) where
    prefix_length : length (prefix_code s.prefix) ≡ r
    prefix_length = ap length (sym (blocks_read h)) ∙ length-map (take r O') e ∙ length-take r O' ∙ omega arith

    -- where all of it is narrow enough
    narrow_read : reach (code s.matrix) ≤ 32 → (map e out ≡ code s.matrix) × (width out ≤ 32)
    narrow_read n = let q = out_stands.narrow n in (q, omega (arith, ap reach q, width_any T M' out))

    pub matrix_heavy : Lacks B 0 out → too_large house (skolem_formula s) ≡ true
    matrix_heavy l = by_cases (leb (reach (code s.matrix)) 32)
        (λ n. let q = narrow_read (leb-true (reach (code s.matrix)) 32 n) in
        by_cases (leb (length out) (house.weight - r))
        (λ t. absurd (l (omega (arith, leb-true (length out) (house.weight - r) t)) (omega (arith, q.1))))
        (λ f. heavy_by_weight s.prefix s.matrix (omega (arith, prefix_length, leb-false (length out) (house.weight - r) f, ap length q.0, length-map out e))))
        (λ b. heavy_by_width s.prefix s.matrix (leb-false (reach (code s.matrix)) 32 b))

    pub matrix_made : {B' : List ℕ} {n : ℕ} → length B' ≡ length B → Added B 0 B' n out → (too_large house (skolem_formula s) ≡ false) × (tokens T M' (take n B') ≡ code s.matrix)
    matrix_made {B'} {n} z t =
        let q : map e out ≡ code s.matrix = by_cases (leb (reach (code s.matrix)) 32)
        (λ m. (narrow_read (leb-true (reach (code s.matrix)) 32 m)).0)
        (λ b. absurd (omega (arith, out_stands.wide (leb-false (reach (code s.matrix)) 32 b), width_any T M' out, t.narrow))) in
        let written : length out ≡ n = ap length (sym t.words) ∙ length-take n B' ∙ omega (arith, t.fits) in (
          small s.prefix s.matrix (omega (arith, prefix_length, ap length q, length-map out e, t.fits)) (omega (arith, ap reach q, width_any T M' out, t.narrow)),
          ap (map e) t.words ∙ q,
        )
