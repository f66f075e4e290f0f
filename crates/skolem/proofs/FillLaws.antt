-- Words written one behind another; the head that a variable belongs to, looked for from the last entry on; what stays of the prefix.
use mathlib.Core.Path.{◌≡◌, refl, sym, ap, ap₂, subst, ◌∙◌}
use mathlib.Core.Bool.{Bool, true, false, cond}
use mathlib.Core.List.{List, [], ◌∷◌, ◌++◌, map, map-append, flat_map, append_assoc, append-nil}
use Prim.Native.Nat.{ℕ, suc, ◌+◌, ◌-◌, ◌%◌, ◌≤◌, ◌<◌, min, max}
use native.Mathlib.Numerals.{add-one}
use native.Mathlib.Omega.{arith}
use lib.Dec.{eqb}
use lib.ListN.{length, take, drop, set, get_or, length-set, length-take, length-append, length-map, take-append-drop}
use lib.Seq.{take-suc, take-suc-set, take_all}
use Rattle.std.proofs.lemmas.List.{take_min}
use Rattle.definitions.specs.Bytes.{Bytes}
use Rattle.definitions.proofs.Laws.Bools.{by_cases}
use Rattle.text.specs.Words.{Token, var_token, sign, token, tokens, spell, kind, count, behind}
use Rattle.text.specs.WordLaws.{variable_word}
use Rattle.skolem.specs.Pass.{stays, keep, pick, binds, whole, put_in, filled, reach}
use Rattle.skolem.specs.Filling.{width, Added, Lacks, Keeps}
use Rattle.skolem.proofs.Lists.{flat_append}
use Rattle.skolem.proofs.Found.{reach_append}
use Rattle.skolem.proofs.Blocks.{keep_append}

width_append : (a b : List ℕ) → width (a ++ b) ≡ max (width a) (width b)
width_append a b = ap reach (map-append (token [] []) a b) ∙ reach_append (tokens [] [] a) (tokens [] [] b)

-- One word.
word_width : (w : ℕ) → width (w ∷ []) ≡ behind (token [] [] w)
unfolding reach
word_width w = of (token [] [] w)
  where
    of : (t : Token) → max (cond (eqb (kind t) 11) (count t) 0) 0 ≡ behind t
    of (var_token x) = omega arith
    of (sign k n s) = by_cases (eqb k 11) (λ t. rw t (omega arith)) (λ f. rw f (omega arith))

pub put_one : {O : List ℕ} {used w n : ℕ} → used < length O → n ≡ behind (token [] [] w) → n ≤ 32 → Added O used (set O used w) (used + 1) (w ∷ [])
put_one {O} {used} {w} h e k = record {
  fits = simp length-set (omega arith);
  words = rw (add-one used) (take-suc-set O used w h);
  narrow = omega (arith, word_width w);
}

pub no_room : (O : List ℕ) (used w : ℕ) → length O ≤ used → Lacks O used (w ∷ [])
no_room O used w h a b = omega arith

pub too_wide : (O : List ℕ) (used w : ℕ) {n : ℕ} → n ≡ behind (token [] [] w) → 32 < n → Lacks O used (w ∷ [])
too_wide O used w e h a b = omega (arith, word_width w)

-- Nothing, and words behind others.
pub added_none : (O : List ℕ) → Added O 0 O 0 []
unfolding reach
added_none O = record { fits = omega arith; words = refl; narrow = omega arith }

pub added_both : {O O₁ O₂ : List ℕ} {used n m : ℕ} (a b : List ℕ) → Added O used O₁ n a → Added O₁ n O₂ m b → Added O used O₂ m (a ++ b)
added_both {O} {O₁} {O₂} {used} a b s t = record {
  fits = t.fits;
  words = t.words ∙ ap (λ (l : List ℕ). l ++ b) s.words ∙ append_assoc (take used O) a b;
  narrow = omega (arith, width_append a b, s.narrow, t.narrow);
}

pub lacks_first : (O : List ℕ) (used : ℕ) (a b : List ℕ) → Lacks O used a → Lacks O used (a ++ b)
lacks_first O used a b l h k = l (omega (arith, length-append a b)) (omega (arith, width_append a b))

pub lacks_then : {O O₁ : List ℕ} {used n : ℕ} (a b : List ℕ) → length O₁ ≡ length O → Added O used O₁ n a → Lacks O₁ n b → Lacks O used (a ++ b)
lacks_then {O} {O₁} {used} {n} a b e s l h k =
    let counted : n ≡ used + length a = omega (arith, s.fits, simp (length-append, length-take) at (ap length s.words), length-append a b) in
    l (omega (arith, length-append a b)) (omega (arith, width_append a b))

-- A run over a list, behind the words p, where F is what is written for words.
module _ (F : List ℕ → List ℕ) (joins : (a b : List ℕ) → F (a ++ b) ≡ F a ++ F b) (p l : List ℕ) {O : List ℕ} {used : ℕ} {O₁ : List ℕ} {n i : ℕ} (s : Added O used O₁ n (p ++ F (take i l))) where
  more : i < length l → take (i + 1) l ≡ take i l ++ (get_or l i 0 ∷ [])
  more h = rw (add-one i) (take-suc l i 0 h)

  pub run_on : {O₂ : List ℕ} {m : ℕ} → i < length l → Added O₁ n O₂ m (F (get_or l i 0 ∷ [])) → Added O used O₂ m (p ++ F (take (i + 1) l))
  run_on h t =
      rw (more h, joins (take i l) (get_or l i 0 ∷ []), ← append_assoc p (F (take i l)) (F (get_or l i 0 ∷ []))) (added_both (p ++ F (take i l)) (F (get_or l i 0 ∷ [])) s t)

  pub run_stop : i < length l → length O₁ ≡ length O → Lacks O₁ n (F (get_or l i 0 ∷ [])) → Lacks O used (p ++ F l)
  run_stop h e t =
      let w : List ℕ = get_or l i 0 ∷ [] in
      let all : l ≡ (take i l ++ w) ++ drop (suc i) l = sym (take-append-drop (suc i) l) ∙ ap (λ (z : List ℕ). z ++ drop (suc i) l) (take-suc l i 0 h) in
      let parts : p ++ F l ≡ ((p ++ F (take i l)) ++ F w) ++ F (drop (suc i) l) =
      ap (λ (z : List ℕ). p ++ F z) all ∙ ap (λ (z : List ℕ). p ++ z) (joins (take i l ++ w) (drop (suc i) l) ∙ ap (λ (z : List ℕ). z ++ F (drop (suc i) l)) (joins (take i l) w))
      ∙ sym (append_assoc p (F (take i l) ++ F w) (F (drop (suc i) l))) ∙ ap (λ (z : List ℕ). z ++ F (drop (suc i) l)) (sym (append_assoc p (F (take i l)) (F w))) in
      rw parts (lacks_first O used ((p ++ F (take i l)) ++ F w) (F (drop (suc i) l)) (lacks_then (p ++ F (take i l)) (F w) e s t))

-- A head with its arguments.
pub whole_is : (T M : Bytes) (g : List ℕ) (w : ℕ) → whole (token T M) g w ≡ w ∷ take (behind (token T M w)) g
whole_is T M g w = ap (w ∷◌) (of (token T M w))
  where
    of : (t : Token) → cond (eqb (kind t) 11) (take (count t) g) [] ≡ take (behind t) g
    of (var_token x) = refl
    of (sign k n s) = by_cases (eqb k 11) (λ t. rw t) (λ f. rw f)

module _ (T M : Bytes) (g : List ℕ) (w : ℕ) where
  abbrev term : List ℕ
  term = whole (token T M) g w

  pub head_lacks : (O : List ℕ) (used : ℕ) → Lacks O used (w ∷ []) → Lacks O used term
  head_lacks O used h = subst (λ (z : List ℕ). Lacks O used z) (sym (whole_is T M g w)) (lacks_first O used (w ∷ []) (take (behind (token T M w)) g) h)

  module _ {n m : ℕ} (e : n ≡ behind (token T M w)) (f : m ≡ min n (length g)) where
    same_term : (w ∷ []) ++ take m g ≡ term
    same_term = rw (f, take_min n g, e) (sym (whole_is T M g w))

    pub term_lacks : (O : List ℕ) (used : ℕ) → Lacks O used ((w ∷ []) ++ take m g) → Lacks O used term
    term_lacks O used = subst (λ (z : List ℕ). Lacks O used z) same_term

-- What a word becomes.
module _ (T M : Bytes) (g prefix heads : List ℕ) (w : ℕ) where
  pub variable_becomes : w % 16 ≡ 12 → put_in (token T M) g prefix heads w ≡ whole (token T M) g (pick w (map (λ b. binds (spell T M w) (token T M b)) prefix) heads)
  variable_becomes e = rw (variable_word T M w e)

-- The head that a variable belongs to: one more entry at the end decides, or what is before it does.
pick_last : (a : ℕ) (bs : List Bool) (hs : List ℕ) (b : Bool) (h : ℕ) → length bs ≡ length hs → pick a (bs ++ (b ∷ [])) (hs ++ (h ∷ [])) ≡ cond b h (pick a bs hs)
unfolding pick
pick_last a [] [] b h e = refl
pick_last a [] (x ∷ hs) b h e = absurd (omega arith)
pick_last a (c ∷ bs) [] b h e = absurd (omega arith)
pick_last a (c ∷ bs) (x ∷ hs) b h e = pick_last (cond c x a) bs hs b h (omega arith)

module _ (t : ℕ → Bool) (P H : List ℕ) (w : ℕ) where
  abbrev pub picked : ℕ → ℕ
  picked i = pick w (map t (take i P)) (take i H)

  pick_more : (i : ℕ) {b : Bool} → length H ≡ length P → i < length P → b ≡ t (get_or P i 0) → picked (i + 1) ≡ cond b (get_or H i 0) (picked i)
  pick_more i e h q =
      rw (add-one i, take-suc P i 0 h, take-suc H i 0 (omega arith), map-append t (take i P) (get_or P i 0 ∷ []), q)
      (pick_last w (map t (take i P)) (take i H) (t (get_or P i 0)) (get_or H i 0) (simp (length-map, length-take) (omega arith)))

  module _ {i : ℕ} {b : Bool} (e : length H ≡ length P) (some : 0 < i) (h : i ≤ length P) (q : b ≡ t (get_or P (i - 1) 0)) where
    before : picked i ≡ cond b (get_or H (i - 1) 0) (picked (i - 1))
    before = ap picked (one_up i some) ∙ pick_more (i - 1) e (omega arith) q
      where
        one_up : (i : ℕ) → 0 < i → i ≡ i - 1 + 1
        one_up i s = omega arith

    pub pick_here : b ≡ true → get_or H (i - 1) 0 ≡ picked i
    pick_here z = sym (before ∙ rw z)

    pub pick_before : b ≡ false → picked (i - 1) ≡ picked i
    pick_before z = sym (before ∙ rw z)

  pub pick_all : length H ≡ length P → picked (length P) ≡ pick w (map t P) H
  pick_all e = ap₂ (λ (a : List ℕ) (b : List ℕ). pick w (map t a) b) (take_all (length P) P (omega arith)) (take_all (length P) H (omega arith))

-- What stays, as far as i.
abbrev stay : ℕ → Bool
stay w = stays (token [] [] w)

pub keeps_none : (H O : List ℕ) → Keeps (take 0 H) O 0
unfolding keep
keeps_none H O = record { few = omega arith; words = refl }

module _ (H O : List ℕ) (i n : ℕ) (k : Keeps (take i H) O n) (h : i < length H) where
  more_kept : keep stay (take (i + 1) H) ≡ keep stay (take i H) ++ cond (stay (get_or H i 0)) (get_or H i 0 ∷ []) []
  unfolding keep
  more_kept = rw (add-one i, take-suc H i 0 h) (keep_append stay (take i H) (get_or H i 0 ∷ []))

  pub one_stays : {b : Bool} → length H ≤ length O → b ≡ stay (get_or H i 0) → b ≡ true → Keeps (take (i + 1) H) (set O n (get_or H i 0)) (n + 1)
  one_stays f e t = record {
    few = simp length-take (omega (arith, k.few, length-take i H));
    words = rw (more_kept, ← e, t, add-one n, take-suc-set O n (get_or H i 0) (omega (arith, k.few, length-take i H)), k.words) refl;
  }

  pub one_goes : {b : Bool} → b ≡ stay (get_or H i 0) → b ≡ false → Keeps (take (i + 1) H) O n
  one_goes e t = record {
    few = simp length-take (omega (arith, k.few, length-take i H));
    words = k.words ∙ sym (rw (more_kept, ← e, t) (append-nil (keep stay (take i H))));
  }

-- what is written for one word, and for words one behind another
module _ (d : ℕ → Token) (g prefix heads : List ℕ) where
  pub filled_one : (w : ℕ) → filled d g prefix heads (w ∷ []) ≡ put_in d g prefix heads w
  unfolding flat_map
  filled_one w = append-nil (put_in d g prefix heads w)

  pub filled_joins : (a b : List ℕ) → filled d g prefix heads (a ++ b) ≡ filled d g prefix heads a ++ filled d g prefix heads b
  filled_joins a b = flat_append (put_in d g prefix heads) a b
