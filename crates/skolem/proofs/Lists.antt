-- Lists of names without some of them; lists spread out entry by entry.
use mathlib.Core.Path.{◌≡◌, refl, sym, ap, ◌∙◌}
use mathlib.Core.Bool.{Bool, true, false, not, ◌&&◌, ◌||◌}
use mathlib.Core.List.{List, [], ◌∷◌, ◌++◌, map, flat_map, append_assoc}
use Rattle.definitions.specs.Syntax.{Name}
use Rattle.definitions.specs.Names.{mem, filter, without}
use Rattle.definitions.proofs.Laws.Bools.{by_cases}
use Rattle.definitions.proofs.Laws.Sets.{mem_append}

pub filter_same : (p q : Name → Bool) → ((x : Name) → p x ≡ q x) → (l : List Name) → filter p l ≡ filter q l
unfolding filter
filter_same p q h [] = refl
filter_same p q h (x ∷ l) = rw (h x, filter_same p q h l)

pub filter_filter : (p q : Name → Bool) (l : List Name) → filter p (filter q l) ≡ filter (λ x. q x && p x) l
unfolding filter
filter_filter p q [] = refl
filter_filter p q (x ∷ l) =
    by_cases (q x) (λ t. rw (t, filter_filter p q l)) (λ f. rw (f, filter_filter p q l))

pub filter_append : (p : Name → Bool) (a b : List Name) → filter p (a ++ b) ≡ filter p a ++ filter p b
unfolding filter
filter_append p [] b = refl
filter_append p (x ∷ a) b = by_cases (p x) (λ t. rw (t, filter_append p a b)) (λ f. rw (f, filter_append p a b))

-- without the names of a, and then those of b
pub without_twice : (a b l : List Name) → without b (without a l) ≡ without (a ++ b) l
without_twice a b l =
    filter_filter (λ x. not (mem x b)) (λ x. not (mem x a)) l
    ∙ filter_same (λ x. not (mem x a) && not (mem x b)) (λ x. not (mem x (a ++ b))) (λ x. rw (mem_append x a b) (both (mem x a) (mem x b))) l
  where
    both : (m n : Bool) → (not m && not n) ≡ not (m || n)
    both true n = refl
    both false n = refl

pub without_none : (l : List Name) → without [] l ≡ l
unfolding filter mem
without_none [] = refl
without_none (x ∷ l) = ap (x ∷◌) (without_none l)

module _ {A B : Type 0} where
  pub flat_append : (f : A → List B) (a b : List A) → flat_map f (a ++ b) ≡ flat_map f a ++ flat_map f b
  unfolding flat_map
  flat_append f [] b = refl
  flat_append f (x ∷ a) b = rw (flat_append f a b) (sym (append_assoc (f x) (flat_map f a) (flat_map f b)))

  pub flat_same : (f g : A → List B) → ((x : A) → f x ≡ g x) → (l : List A) → flat_map f l ≡ flat_map g l
  unfolding flat_map
  flat_same f g h [] = refl
  flat_same f g h (x ∷ l) = rw (h x, flat_same f g h l)

pub flat_flat : {A B C : Type 0} (f : B → List C) (g : A → List B) (l : List A) → flat_map f (flat_map g l) ≡ flat_map (λ x. flat_map f (g x)) l
unfolding flat_map
flat_flat f g [] = refl
flat_flat f g (x ∷ l) = flat_append f (g x) (flat_map g l) ∙ rw (flat_flat f g l)

pub map_same_id : {A : Type 0} (l : List A) → map (λ a. a) l ≡ l
map_same_id [] = refl
map_same_id (a ∷ l) = ap (a ∷◌) (map_same_id l)
