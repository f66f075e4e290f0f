-- Lists whose elements belong together stay so when they are joined, mapped, compared and sorted, where the two comparisons agree.
use mathlib.Core.Path.{◌≡◌, refl, ap, ap₂}
use mathlib.Core.List.{List, [], ◌∷◌, ◌++◌, map}
use Prim.Native.Nat.{ℕ, suc, ◌+◌, Ordering}
use lib.ListN.{length}
use Rattle.definitions.specs.Order.{Literal, Clause, then, cmp_list, place, insert, set_of}
use Rattle.definitions.specs.Clauses.{product}
use Rattle.definitions.specs.Laws.Counts as counts
use Rattle.clauses.specs.Each.{Each, none, more}
use Rattle.clauses.specs.Plans.{joined}
use Rattle.clauses.specs.Steps.{total}

pub map_append : {A B : Type 0} (f : A → B) (a b : List A) → map f (a ++ b) ≡ map f a ++ map f b
map_append f [] b = refl
map_append f (x ∷ a) b = ap (λ l. f x ∷ l) (map_append f a b)

module _ {A B : Type 0} {R : A → B → Type 0} where
  pub each_append : {l l' : List A} {m m' : List B} → Each R l m → Each R l' m' → Each R (l ++ l') (m ++ m')
  each_append none s = s
  each_append (more h r) s = more h (each_append r s)

  pub each_length : {l : List A} {m : List B} → Each R l m → length l ≡ length m
  each_length none = refl
  each_length (more h r) = ap suc (each_length r)

  pub each_map : {C D : Type 0} {S : C → D → Type 0} (f : A → C) (g : B → D) → ((x : A) (a : B) → R x a → S (f x) (g a))
      → {l : List A} {m : List B} → Each R l m → Each S (map f l) (map g m)
  each_map f g h none = none
  each_map f g h (more {x = x} {a = a} k r) = more (h x a k) (each_map f g h r)

  module _ {cmp : A → A → Ordering} {cmp' : B → B → Ordering} (agree : (x y : A) (a b : B) → R x a → R y b → cmp x y ≡ cmp' a b) where
    pub each_compare : {l l' : List A} {m m' : List B} → Each R l m → Each R l' m' → cmp_list cmp l l' ≡ cmp_list cmp' m m'
    unfolding cmp_list
    each_compare none none = refl
    each_compare none (more h r) = refl
    each_compare (more h r) none = refl
    each_compare (more {x = x} {a = a} h r) (more {x = y} {a = b} k s) = ap₂ then (agree x y a b h k) (each_compare r s)

    pub each_insert : {x : A} {a : B} {l : List A} {m : List B} → R x a → Each R l m → Each R (insert cmp x l) (insert cmp' a m)
    unfolding insert
    each_insert h none = more h none
    each_insert {x} {a} h (more {x = y} {a = b} {l = l} {m = m} k r) = go (cmp x y) (cmp' a b) (agree x y a b h k) (each_insert h r)
      where
        go : (o o' : Ordering) → o ≡ o' → Each R (insert cmp x l) (insert cmp' a m)
            → Each R (place cmp o x y l (insert cmp x l)) (place cmp' o' a b m (insert cmp' a m))
        go o o' e s = rw (← e) (at o)
          where
            at : (o : Ordering) → Each R (place cmp o x y l (insert cmp x l)) (place cmp' o a b m (insert cmp' a m))
            at Ordering.lt = more h (more k r)
            at Ordering.eq = more k r
            at Ordering.gt = more k s

    pub each_set : {l : List A} {m : List B} → Each R l m → Each R (set_of cmp l) (set_of cmp' m)
    unfolding set_of
    each_set none = none
    each_set (more h r) = each_insert h (each_set r)

-- clauses of numbers and clauses of literals
module _ {R : ℕ → Literal → Type 0} where
  each_joined_one : {c : List ℕ} {d : Clause} {b : List (List ℕ)} {e : List Clause} → Each R c d → Each (Each R) b e → Each (Each R) (map (λ x. c ++ x) b) (map (λ x. d ++ x) e)
  each_joined_one {c} {d} h r = each_map (λ x. c ++ x) (λ x. d ++ x) (λ x a s. each_append h s) r

  pub each_product : {a b : List (List ℕ)} {d e : List Clause} → Each (Each R) a d → Each (Each R) b e → Each (Each R) (joined a b) (product d e)
  unfolding joined product
  each_product none s = none
  each_product (more h r) s = each_append (each_joined_one h s) (each_product r s)

  pub each_total : {a : List (List ℕ)} {d : List Clause} → Each (Each R) a d → total a ≡ counts.total d
  unfolding total counts.total
  each_total none = refl
  each_total (more h r) = ap₂ (◌+◌) (each_length h) (each_total r)
