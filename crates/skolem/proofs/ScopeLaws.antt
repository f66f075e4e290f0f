-- The steps of gathering the free variables and of the survey, word by word.
use mathlib.Core.Path.{◌≡◌, refl, sym, ap, ◌∙◌}
use mathlib.Core.Bool.{Bool, true, false, cond}
use mathlib.Core.List.{List, [], ◌∷◌, ◌++◌, map, append_assoc, append-nil}
use Prim.Native.Nat.{ℕ, zero, suc, ◌+◌, ◌-◌, ◌%◌, ◌≤◌, ◌<◌}
use native.Mathlib.Numerals.{add-one}
use native.Mathlib.Omega.{arith}
use lib.Dec.{eqb}
use lib.ListN.{length, take, drop, set, get_or, drop_of_length-le}
use lib.Seq.{take_all, take-suc-set, drop-cons, drop-drop}
use Rattle.std.specs.List.{list_any}
use Rattle.definitions.specs.Bytes.{Bytes}
use Rattle.definitions.specs.Syntax.{Name}
use Rattle.definitions.specs.Names.{mem}
use Rattle.text.specs.Words.{Token, token, tokens, spell, kind, count, name}
use Rattle.text.specs.WordLaws.{kind_is, name_is}
use Rattle.text.specs.Prefixes.{names}
use Rattle.skolem.proofs.WordLaws.{mem_any}
use Rattle.skolem.specs.Pass.{binds, push, is_new, gather, Survey, after, survey, blank_word}

-- The matrix W gathered as far as i: the scope is g.
module _ (T M : Bytes) (B : List Name) (W : List ℕ) where
  abbrev pub Gathering : List ℕ → ℕ → Type 0
  Gathering g i = gather (token T M) B g (drop i W) ≡ gather (token T M) B [] W

  module _ (g : List ℕ) (i : ℕ) (s : Gathering g i) (h : i < length W) where
    gathering_on : {b : Bool} → b ≡ is_new B (names (tokens T M g)) (token T M (get_or W i 0)) → Gathering (cond b (push g (get_or W i 0)) g) (i + 1)
    unfolding gather
    gathering_on e = rw (e, add-one i) (ap (gather (token T M) B g) (sym (drop-cons W i 0 h)) ∙ s)

    pub gathered : {b : Bool} → b ≡ is_new B (names (tokens T M g)) (token T M (get_or W i 0)) → b ≡ true → Gathering (push g (get_or W i 0)) (i + 1)
    gathered e t = rw t at (gathering_on e)

    pub passed : {b : Bool} → b ≡ is_new B (names (tokens T M g)) (token T M (get_or W i 0)) → b ≡ false → Gathering g (i + 1)
    passed e t = rw t at (gathering_on e)

  pub gathering_end : (g : List ℕ) (i : ℕ) → Gathering g i → length W ≤ i → g ≡ gather (token T M) B [] W
  unfolding gather
  gathering_end g i s h = ap (gather (token T M) B g) (sym (drop_of_length-le W h)) ∙ s

-- The survey of one word more.
module _ (d : ℕ → Token) (blank : ℕ → ℕ) (g : List ℕ) (a : ℕ) (l : List ℕ) where
  survey_block : (left : ℕ) (x : Bool) → left ≡ 0 → survey d blank left x g (a ∷ l) ≡ after a (survey d blank (count (d a)) (eqb (kind (d a)) 9) g l)
  unfolding survey
  survey_block zero x e = refl
  survey_block (suc left) x e = absurd (omega arith)

  survey_head : (left : ℕ) → (left ≡ 0 → ⊥) → survey d blank left true g (a ∷ l) ≡ after (blank (length g)) (survey d blank (left - 1) true g l)
  unfolding survey
  survey_head zero e = absurd (e refl)
  survey_head (suc left) e = let k : suc left - 1 ≡ left = omega arith in rw k

  survey_entry : (left : ℕ) → (left ≡ 0 → ⊥)
      → survey d blank left false g (a ∷ l) ≡ after a (survey d blank (left - 1) false (cond (mem (name (d a)) (names (map d (drop (left - 1) l)))) g (push g a)) l)
  unfolding survey
  survey_entry zero e = absurd (e refl)
  survey_entry (suc left) e = let k : suc left - 1 ≡ left = omega arith in rw k

-- The prefix P surveyed as far as i: the heads so far are the first i of H, and the scope is g.
pub record Surveying (T M : Bytes) (P : List ℕ) (s : Survey ℕ) (H g : List ℕ) (left : ℕ) (exists : Bool) (i : ℕ) : Type 0 where
  pub small : left < 64
  pub heads : take i H ++ (survey (token T M) blank_word left exists g (drop i P)).heads ≡ s.heads
  pub scope : (survey (token T M) blank_word left exists g (drop i P)).scope ≡ s.scope

module _ (T M : Bytes) (P : List ℕ) where
  module _ {s : Survey ℕ} {H g : List ℕ} {left : ℕ} {exists : Bool} {i : ℕ} (here : i < length P) (sizes : length H ≡ length P) (v : Surveying T M P s H g left exists i) where
    -- one head more, and the survey of the rest
    surveying_on : (w : ℕ) {g' : List ℕ} {left' : ℕ} {exists' : Bool} → left' < 64
        → survey (token T M) blank_word left exists g (get_or P i 0 ∷ drop (i + 1) P) ≡ after w (survey (token T M) blank_word left' exists' g' (drop (i + 1) P))
        → Surveying T M P s (set H i w) g' left' exists' (i + 1)
    surveying_on w {g'} {left'} {exists'} k e =
        let all = ap (survey (token T M) blank_word left exists g) (drop-cons P i 0 here ∙ ap (λ (n : ℕ). get_or P i 0 ∷ drop n P) (sym (add-one i))) ∙ e in
        let rest = survey (token T M) blank_word left' exists' g' (drop (i + 1) P) in record {
          small = k;
          heads = ap (λ (z : List ℕ). z ++ rest.heads) (ap (λ (z : ℕ). take z (set H i w)) (add-one i) ∙ take-suc-set H i w (omega arith))
              ∙ append_assoc (take i H) (w ∷ []) rest.heads ∙ ap (λ (z : Survey ℕ). take i H ++ z.heads) (sym all) ∙ v.heads;
          scope = ap (λ (z : Survey ℕ). z.scope) (sym all) ∙ v.scope;
        }

    abbrev w : ℕ
    w = get_or P i 0

    -- a block's word
    pub block_begun : {k : ℕ} {b : Bool} → left ≡ 0 → (k < 64) × ((T M : Bytes) → k ≡ count (token T M w)) → b ≡ eqb (w % 16) 9
        → Surveying T M P s (set H i w) g k b (i + 1)
    block_begun {k} {b} e c q =
        let f : count (token T M w) ≡ k = sym (c.1 T M) in
        let x : eqb (kind (token T M w)) 9 ≡ b = ap (λ (z : ℕ). eqb z 9) (kind_is T M w) ∙ sym q in
        surveying_on w c.0 (survey_block (token T M) blank_word g w (drop (i + 1) P) left exists e ∙ rw (f, x))

    -- a variable of an exists block
    pub head_made : {h : ℕ} → (left ≡ 0 → ⊥) → exists ≡ true → h ≡ blank_word (length g) → Surveying T M P s (set H i h) g (left - 1) exists (i + 1)
    head_made {h} e q b =
        surveying_on h (omega (arith, v.small)) (rw q (survey_head (token T M) blank_word g w (drop (i + 1) P) left e ∙ rw b))

    -- an entry of a forall block
    entry_kept : {b : Bool} → (left ≡ 0 → ⊥) → exists ≡ false → b ≡ list_any (λ o. binds (spell T M w) (token T M o)) (drop (i + left) P)
        → Surveying T M P s (set H i w) (cond b g (push g w)) (left - 1) exists (i + 1)
    entry_kept e q k =
        let f : drop (left - 1) (drop (i + 1) P) ≡ drop (i + left) P = drop-drop (left - 1) (i + 1) P ∙ ap (λ (z : ℕ). drop z P) (ahead i left e) in
        surveying_on w (omega (arith, v.small)) (rw (q, k, ← mem_any T M (spell T M w) (drop (i + left) P)) (survey_entry (token T M) blank_word g w (drop (i + 1) P) left e ∙ rw (f, name_is T M w)))
      where
        ahead : (i left : ℕ) → (left ≡ 0 → ⊥) → i + 1 + (left - 1) ≡ i + left
        ahead i zero e = absurd (e refl)
        ahead i (suc left) e = omega arith

    pub entry_passed : {b : Bool} → (left ≡ 0 → ⊥) → exists ≡ false → b ≡ list_any (λ o. binds (spell T M w) (token T M o)) (drop (i + left) P) → b ≡ true
        → Surveying T M P s (set H i w) g (left - 1) exists (i + 1)
    entry_passed e q k t = rw t at (entry_kept e q k)

    pub entry_put : {b : Bool} → (left ≡ 0 → ⊥) → exists ≡ false → b ≡ list_any (λ o. binds (spell T M w) (token T M o)) (drop (i + left) P) → b ≡ false
        → Surveying T M P s (set H i w) (push g w) (left - 1) exists (i + 1)
    entry_put e q k t = rw t at (entry_kept e q k)

  pub surveying_end : {s : Survey ℕ} {H g : List ℕ} {left : ℕ} {exists : Bool} {i : ℕ} → i ≡ length P → length H ≡ length P → Surveying T M P s H g left exists i
      → s ≡ record { heads = H; scope = g }
  unfolding survey
  surveying_end {s} {H} {g} {left} {exists} {i} e l v =
      let none : survey (token T M) blank_word left exists g (drop i P) ≡ record { heads = []; scope = g } =
      ap (survey (token T M) blank_word left exists g) (drop_of_length-le P (omega arith)) in
      let whole : take i H ≡ H = take_all i H (omega arith) in
      let h : H ≡ s.heads = sym whole ∙ sym (append-nil (take i H)) ∙ ap (λ (z : Survey ℕ). take i H ++ z.heads) (sym none) ∙ v.heads in
      let k : g ≡ s.scope = ap (λ (z : Survey ℕ). z.scope) (sym none) ∙ v.scope in
      rw (h, k)
