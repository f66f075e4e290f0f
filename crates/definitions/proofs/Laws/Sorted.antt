-- Sorted lists as sets. `set_of` gives a strictly sorted list with just the members of the list that it was made from, and a set has only
-- one strictly sorted list: so the order in which things are put in does not matter.
use Rattle.std.specs.Prelude.{◌≡◌, Bool, length}
use Rattle.std.proofs.Math.Path.{refl, ap₂}
use Rattle.std.proofs.Common.{sym, ◌∙◌, ap, arith}
use Rattle.std.proofs.Math.Bool.{true, false, and_assoc, or_assoc, and_comm, or_comm, and_self_left, or_self_left, or-false}
use mathlib.Core.List.{List, [], ◌∷◌, ◌++◌, map, Memᴰ}
use Prim.Native.Nat.{suc, ◌≤◌, Ordering}
use Rattle.std.proofs.Math.Dec.{compare_is_eq}
use Rattle.definitions.specs.Syntax.{Quant, all, ex}
use Rattle.definitions.specs.Truth.{every, any, over}
use Rattle.definitions.specs.Order.{place, insert, set_of}
use Rattle.definitions.proofs.Laws.Bools.{by_cases, clash, and_true_left, and_true_right}
use Rattle.definitions.proofs.Laws.Blocks.{some_in}
use Rattle.definitions.specs.Laws.Order.{is_less, Equal, Less, swap, Orders}
use Rattle.definitions.proofs.Laws.Order.{itself}
use Rattle.definitions.specs.Laws.Sorted.{above, both, has, sorted}

pub both_assoc : (q : Quant) (a b c : Bool) → both q (both q a b) c ≡ both q a (both q b c)
both_assoc all a b c = and_assoc a b c
both_assoc ex a b c = or_assoc a b c

both_twice : (q : Quant) (a b : Bool) → both q a b ≡ both q a (both q a b)
both_twice all a b = sym (and_self_left a b)
both_twice ex a b = sym (or_self_left a b)

both_comm : (q : Quant) (a b : Bool) → both q a b ≡ both q b a
both_comm all a b = and_comm a b
both_comm ex a b = or_comm a b

both_swap : (q : Quant) (a b c : Bool) → both q a (both q b c) ≡ both q b (both q a c)
both_swap q a b c = sym (both_assoc q a b c) ∙ ap (λ d. both q d c) (both_comm q a b) ∙ both_assoc q b a c

module _ {A : Type 0} (q : Quant) (p : A → Bool) where
  pub over_cons : (x : A) (l : List A) → over q p (x ∷ l) ≡ both q (p x) (over q p l)
  unfolding every any
  over_cons x l = go q
    where
      go : (q : Quant) → over q p (x ∷ l) ≡ both q (p x) (over q p l)
      go all = refl
      go ex = refl

  pub over_append : (a b : List A) → over q p (a ++ b) ≡ both q (over q p a) (over q p b)
  unfolding every any
  over_append [] b = go q
    where
      go : (q : Quant) → over q p b ≡ both q (over q p []) (over q p b)
      go all = refl
      go ex = refl
  over_append (x ∷ a) b = over_cons x (a ++ b) ∙ rw (over_append a b, over_cons x a) (sym (both_assoc q (p x) (over q p a) (over q p b)))

  pub over_map : {B : Type 0} (f : B → A) (l : List B) → over q p (map f l) ≡ over q (λ b. p (f b)) l
  unfolding every any
  over_map {B} f l = go q l
    where
      go : (q : Quant) (l : List B) → over q p (map f l) ≡ over q (λ b. p (f b)) l
      go all [] = refl
      go all (b ∷ l) = rw (go all l)
      go ex [] = refl
      go ex (b ∷ l) = rw (go ex l)

module _ {A : Type 0} {cmp : A → A → Ordering} (order : Orders cmp) where
  -- `has` is membership
  pub has_in : {x : A} {l : List A} → Memᴰ x l → has cmp x l ≡ true
  has_in {x} m = some_in (λ y. compare_is_eq (cmp x y)) m (ap compare_is_eq (itself order x))

  pub has_out : (x : A) (l : List A) → has cmp x l ≡ true → Memᴰ x l
  unfolding any
  has_out x [] e = clash e refl
  has_out x (y ∷ l) e =
      by_cases (compare_is_eq (cmp x y)) (λ s. Memᴰ.head (order.equal x y s)) (λ n. Memᴰ.tail (has_out x l (rw n at e)))

  -- what holds of every, or of any, of the elements is not changed by sorting them
  pub over_insert : (q : Quant) (p : A → Bool) (x : A) (l : List A) → over q p (insert cmp x l) ≡ both q (p x) (over q p l)
  unfolding insert
  over_insert q p x [] = over_cons q p x []
  over_insert q p x (y ∷ l) = go (cmp x y) (order.equal x y) (over_insert q p x l)
    where
      go : (o : Ordering) → (Equal o → x ≡ y) → over q p (insert cmp x l) ≡ both q (p x) (over q p l)
          → over q p (place cmp o x y l (insert cmp x l)) ≡ both q (p x) (over q p (y ∷ l))
      go Ordering.lt e h = over_cons q p x (y ∷ l)
      go Ordering.eq e h = rw (e refl, over_cons q p y l) (both_twice q (p y) (over q p l))
      go Ordering.gt e h = over_cons q p y (insert cmp x l) ∙ rw (h, over_cons q p y l) (both_swap q (p y) (p x) (over q p l))

  pub over_set_of : (q : Quant) (p : A → Bool) (l : List A) → over q p (set_of cmp l) ≡ over q p l
  unfolding set_of
  over_set_of q p [] = refl
  over_set_of q p (x ∷ l) = over_insert q p x (set_of cmp l) ∙ rw (over_set_of q p l) (sym (over_cons q p x l))

  pub set_of_has : (x : A) (l : List A) → has cmp x (set_of cmp l) ≡ has cmp x l
  set_of_has x l = over_set_of ex (λ y. compare_is_eq (cmp x y)) l

  -- the result is sorted
  above_more : (x y : A) (l : List A) → Less (cmp x y) → above cmp y l ≡ true → above cmp x l ≡ true
  unfolding every
  above_more x y [] h k = refl
  above_more x y (z ∷ l) h k =
      rw (order.trans x y z h (and_true_left (is_less (cmp y z)) (above cmp y l) k)) (above_more x y l h (and_true_right (is_less (cmp y z)) (above cmp y l) k))

  pub insert_sorted : (x : A) (l : List A) → sorted cmp l ≡ true → sorted cmp (insert cmp x l) ≡ true
  unfolding insert sorted every
  insert_sorted x [] h = refl
  insert_sorted x (y ∷ l) h = go (cmp x y) refl (insert_sorted x l (and_true_right (above cmp y l) (sorted cmp l) h))
    where
      go : (o : Ordering) → cmp x y ≡ o → sorted cmp (insert cmp x l) ≡ true → sorted cmp (place cmp o x y l (insert cmp x l)) ≡ true
      go Ordering.lt e r = rw (e, above_more x y l (ap is_less e) (and_true_left (above cmp y l) (sorted cmp l) h)) h
      go Ordering.eq e r = h
      go Ordering.gt e r =
          rw (over_insert all (λ z. is_less (cmp y z)) x l, order.back x y, e, and_true_left (above cmp y l) (sorted cmp l) h) r

  pub set_of_sorted : (l : List A) → sorted cmp (set_of cmp l) ≡ true
  unfolding set_of sorted
  set_of_sorted [] = refl
  set_of_sorted (x ∷ l) = insert_sorted x (set_of cmp l) (set_of_sorted l)

  -- a set has one sorted list: the least element stands first in both
  above_not : (x : A) (l : List A) → above cmp x l ≡ true → has cmp x l ≡ false
  unfolding every any
  above_not x [] h = refl
  above_not x (y ∷ l) h =
      rw (less_not (cmp x y) (and_true_left (is_less (cmp x y)) (above cmp x l) h)) (above_not x l (and_true_right (is_less (cmp x y)) (above cmp x l) h))
    where
      less_not : (o : Ordering) → Less o → compare_is_eq o ≡ false
      less_not Ordering.lt k = refl
      less_not Ordering.eq k = clash k refl
      less_not Ordering.gt k = refl

  above_has : (x y : A) (l : List A) → above cmp x l ≡ true → has cmp y l ≡ true → Less (cmp x y)
  unfolding every any
  above_has x y [] h k = clash k refl
  above_has x y (z ∷ l) h k =
      by_cases (compare_is_eq (cmp y z))
      (λ e. rw (order.equal y z e) (and_true_left (is_less (cmp x z)) (above cmp x l) h))
      (λ n. above_has x y l (and_true_right (is_less (cmp x z)) (above cmp x l) h) (rw n at k))

  has_head : (x : A) (l : List A) → has cmp x (x ∷ l) ≡ true
  unfolding any
  has_head x l = rw (itself order x)

  equal_swap : (x y : A) → compare_is_eq (cmp y x) ≡ compare_is_eq (cmp x y)
  equal_swap x y = ap compare_is_eq (order.back x y) ∙ go (cmp x y)
    where
      go : (o : Ordering) → compare_is_eq (swap o) ≡ compare_is_eq o
      go Ordering.lt = refl
      go Ordering.eq = refl
      go Ordering.gt = refl

  less_one_way : (x y : A) → Less (cmp x y) → is_less (cmp y x) ≡ false
  less_one_way x y h = ap is_less (order.back x y) ∙ go (cmp x y) h
    where
      go : (o : Ordering) → Less o → is_less (swap o) ≡ false
      go Ordering.lt h = refl
      go Ordering.eq h = refl
      go Ordering.gt h = clash h refl

  pub one_sorted_list : (a b : List A) → sorted cmp a ≡ true → sorted cmp b ≡ true → ((x : A) → has cmp x a ≡ has cmp x b) → a ≡ b
  unfolding sorted any
  one_sorted_list [] [] h k s = refl
  one_sorted_list [] (y ∷ b) h k s = clash (has_head y b) (sym (s y))
  one_sorted_list (x ∷ a) [] h k s = clash (has_head x a) (s x)
  one_sorted_list (x ∷ a) (y ∷ b) h k s =
      ap₂ (◌∷◌) first (one_sorted_list a b (and_true_right (above cmp x a) (sorted cmp a) h) (and_true_right (above cmp y b) (sorted cmp b) k) rest)
    where
      x_first : above cmp x a ≡ true
      x_first = and_true_left (above cmp x a) (sorted cmp a) h

      y_first : above cmp y b ≡ true
      y_first = and_true_left (above cmp y b) (sorted cmp b) k

      first : x ≡ y
      first = by_cases (compare_is_eq (cmp x y)) (λ e. order.equal x y e) (λ n.
          clash (above_has x y a x_first (rw (equal_swap x y ∙ n) at (s y ∙ has_head y b)))
          (less_one_way y x (above_has y x b y_first (rw n at (sym (s x) ∙ has_head x a)))))

      rest : (z : A) → has cmp z a ≡ has cmp z b
      rest z = by_cases (compare_is_eq (cmp z x))
          (λ e. rw (order.equal z x e) (above_not x a x_first ∙ sym (rw first (above_not y b y_first))))
          (λ n. rw (n, ap (λ w. compare_is_eq (cmp z w)) (sym first) ∙ n) at (s z))

  -- so lists with the same members make one set, and a sorted list is its own
  pub set_of_same : (a b : List A) → ((x : A) → has cmp x a ≡ has cmp x b) → set_of cmp a ≡ set_of cmp b
  set_of_same a b s =
      one_sorted_list (set_of cmp a) (set_of cmp b) (set_of_sorted a) (set_of_sorted b) (λ x. set_of_has x a ∙ s x ∙ sym (set_of_has x b))

  pub set_of_itself : (l : List A) → sorted cmp l ≡ true → set_of cmp l ≡ l
  set_of_itself l h = one_sorted_list (set_of cmp l) l (set_of_sorted l) h (λ x. set_of_has x l)

  -- a list may be put in from its front as well
  pub set_of_last : (x : A) (l : List A) → set_of cmp (l ++ (x ∷ [])) ≡ insert cmp x (set_of cmp l)
  unfolding set_of any
  set_of_last x l = set_of_same (l ++ (x ∷ [])) (x ∷ l) (λ z.
      over_append ex (λ y. compare_is_eq (cmp z y)) l (x ∷ []) ∙ rw (or-false (compare_is_eq (cmp z x))) (or_comm (has cmp z l) (compare_is_eq (cmp z x))))

-- putting in adds at most one
pub insert_length : {A : Type 0} (cmp : A → A → Ordering) (x : A) (l : List A) → length (insert cmp x l) ≤ suc (length l)
unfolding insert
insert_length cmp x [] = omega arith
insert_length cmp x (y ∷ l) = go (cmp x y) (insert_length cmp x l)
  where
    go : (o : Ordering) → length (insert cmp x l) ≤ suc (length l) → length (place cmp o x y l (insert cmp x l)) ≤ suc (suc (length l))
    go Ordering.lt h = omega arith
    go Ordering.eq h = omega arith
    go Ordering.gt h = omega arith

pub set_of_length : {A : Type 0} (cmp : A → A → Ordering) (l : List A) → length (set_of cmp l) ≤ length l
unfolding set_of
set_of_length cmp [] = omega arith
set_of_length cmp (x ∷ l) = omega (arith, insert_length cmp x (set_of cmp l), set_of_length cmp l)
