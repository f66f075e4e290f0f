-- The pass over entries is the pass over their tokens. Names may be read over one buffer and their tokens taken over another, if the
-- entries stand for the same over both.
use mathlib.Core.Path.{◌≡◌, refl, sym, ap, ap₂, ◌∙◌}
use mathlib.Core.Bool.{Bool, true, false, cond}
use mathlib.Core.List.{List, [], ◌∷◌, ◌++◌, map, map-append, flat_map, head-eq_of_cons-eq, tail-eq_of_cons-eq}
use Prim.Native.Nat.{ℕ, zero, suc, ◌≤◌}
use native.Mathlib.Omega.{arith}
use borrow.Author.Tests.{ltb-true}
use lib.Dec.{eqb, ltb}
use lib.ListN.{length, take, drop, length-map, length-append}
use Rattle.definitions.specs.Syntax.{Name}
use Rattle.definitions.specs.Names.{mem}
use Rattle.definitions.proofs.Laws.Bools.{by_cases}
use Rattle.text.specs.Words.{Token, kind, count, name}
use Rattle.text.specs.WordLaws.{map_take, map_drop}
use Rattle.text.specs.Prefixes.{names}
use Rattle.skolem.specs.Pass.{most, push, is_new, gather, survey, blank_token, stays, keep, pick, binds, is_var, whole, belongs, put_in, filled}
use Rattle.skolem.proofs.Lists.{map_same_id}

cond_map : {A B : Type 0} (f : A → B) (b : Bool) (x y : A) → f (cond b x y) ≡ cond b (f x) (f y)
cond_map f true x y = refl
cond_map f false x y = refl

push_map : {A B : Type 0} (f : A → B) (g : List A) (a : A) → map f (push g a) ≡ push (map f g) (f a)
unfolding push
push_map f g a = rw (length-map g f, cond_map (map f) (ltb (length g) most) (g ++ (a ∷ [])) g, map-append f g (a ∷ []))

pub push_few : {A : Type 0} (g : List A) (a : A) → length g ≤ most → length (push g a) ≤ most
unfolding push
push_few g a f =
    by_cases (ltb (length g) most)
    (λ t. rw t (simp length-append (omega (arith, ltb-true (length g) most t))))
    (λ n. rw n f)

few_cond : {A : Type 0} (b : Bool) (g h : List A) → length g ≤ most → length h ≤ most → length (cond b g h) ≤ most
few_cond true g h p q = p
few_cond false g h p q = q

module _ {A : Type 0} (d e : A → Token) where
  -- e is d on some entries
  abbrev Like : List A → Type 0
  Like l = map e l ≡ map d l

  like_push : (g : List A) (a : A) → Like g → e a ≡ d a → Like (push g a)
  like_push g a h k = push_map e g a ∙ ap₂ push h k ∙ sym (push_map d g a)

  like_cond : (b : Bool) (g h : List A) → Like g → Like h → Like (cond b g h)
  like_cond true g h p q = p
  like_cond false g h p q = q

  pub gather_map : (b : List Name) (g l : List A) → Like g → Like l → map e (gather d b g l) ≡ gather (λ t. t) b (map d g) (map d l)
  unfolding gather
  gather_map b g [] p q = p
  gather_map b g (a ∷ l) p q =
      let c = is_new b (names (map d g)) (d a) in
      let same : map d (cond c (push g a) g) ≡ cond (is_new b (names (map (λ t. t) (map d g))) (d a)) (push (map d g) (d a)) (map d g) =
      rw (map_same_id (map d g), cond_map (map d) c (push g a) g, push_map d g a) in
      gather_map b (cond c (push g a) g) l (like_cond c (push g a) g (like_push g a p (head-eq_of_cons-eq q)) p) (tail-eq_of_cons-eq q)
      ∙ ap (λ (r : List Token). gather (λ t. t) b r (map d l)) same

  module _ (blank : ℕ → A) (blank-e : (n : ℕ) → n ≤ most → e (blank n) ≡ blank_token n) where
    abbrev Goal : ℕ → Bool → List A → List A → Type 0
    Goal left x g l =
        (map e (survey d blank left x g l).heads ≡ (survey (λ t. t) blank_token left x (map d g) (map d l)).heads)
        × (map e (survey d blank left x g l).scope ≡ (survey (λ t. t) blank_token left x (map d g) (map d l)).scope)

    pub survey_map : (left : ℕ) (x : Bool) (g l : List A) → length g ≤ most → Like g → Like l → Goal left x g l
    unfolding survey
    survey_map left x g [] f p q = (refl, p)
    survey_map zero x g (a ∷ l) f p q =
        let h = survey_map (count (d a)) (eqb (kind (d a)) 9) g l f p (tail-eq_of_cons-eq q) in
        (ap₂ (λ (t : Token) (r : List Token). t ∷ r) (head-eq_of_cons-eq q) h.0, h.1)
    survey_map (suc left) true g (a ∷ l) f p q =
        let h = survey_map left true g l f p (tail-eq_of_cons-eq q) in
        (ap₂ (λ (t : Token) (r : List Token). t ∷ r) (blank-e (length g) f ∙ ap blank_token (sym (length-map g d))) h.0, h.1)
    survey_map (suc left) false g (a ∷ l) f p q =
        let c = mem (name (d a)) (names (map d (drop left l))) in
        let h = survey_map left false (cond c g (push g a)) l (few_cond c g (push g a) f (push_few g a f)) (like_cond c g (push g a) p (like_push g a p (head-eq_of_cons-eq q))) (tail-eq_of_cons-eq q) in
        let same : map d (cond c g (push g a)) ≡ cond (mem (name (d a)) (names (map (λ t. t) (drop left (map d l))))) (map d g) (push (map d g) (d a)) =
        rw (map_same_id (drop left (map d l)), ← map_drop d left l, cond_map (map d) c g (push g a), push_map d g a) in
        rw (← same) (ap₂ (λ (t : Token) (r : List Token). t ∷ r) (head-eq_of_cons-eq q) h.0, h.1)

pick_map : {A B : Type 0} (f : A → B) (a : A) (bs : List Bool) (hs : List A) → f (pick a bs hs) ≡ pick (f a) bs (map f hs)
unfolding pick
pick_map f a [] hs = refl
pick_map f a (b ∷ bs) [] = refl
pick_map f a (b ∷ bs) (h ∷ hs) = pick_map f (cond b h a) bs hs ∙ rw (cond_map f b h a)

map_twice : {A B C : Type 0} (f : B → C) (g : A → B) (l : List A) → map f (map g l) ≡ map (λ a. f (g a)) l
map_twice f g [] = refl
map_twice f g (a ∷ l) = ap (f (g a) ∷◌) (map_twice f g l)

module _ {A : Type 0} (d : A → Token) where
  pub keep_map : (l : List A) → map d (keep (λ a. stays (d a)) l) ≡ keep stays (map d l)
  unfolding keep
  keep_map [] = refl
  keep_map (a ∷ l) = by_cases (stays (d a)) (λ t. rw (t, keep_map l)) (λ f. rw (f, keep_map l))

  module _ (g prefix heads : List A) where
    whole_map : (a : A) → map d (whole d g a) ≡ whole (λ t. t) (map d g) (d a)
    whole_map a = ap (d a ∷◌) (cond_map (map d) (eqb (kind (d a)) 11) (take (count (d a)) g) [] ∙ rw (map_take d (count (d a)) g))

    put_in_map : (a : A) → map d (put_in d g prefix heads a) ≡ put_in (λ t. t) (map d g) (map d prefix) (map d heads) (d a)
    put_in_map a =
        cond_map (map d) (is_var (d a)) (whole d g (belongs d g prefix heads a)) (a ∷ [])
        ∙ rw (whole_map (belongs d g prefix heads a), pick_map d a (map (λ b. binds (name (d a)) (d b)) prefix) heads, map_twice (binds (name (d a))) d prefix)

    pub filled_map : (l : List A) → map d (filled d g prefix heads l) ≡ filled (λ t. t) (map d g) (map d prefix) (map d heads) (map d l)
    unfolding flat_map
    filled_map [] = refl
    filled_map (a ∷ l) = map-append d (put_in d g prefix heads a) (filled d g prefix heads l) ∙ ap₂ (◌++◌) (put_in_map a) (filled_map l)
