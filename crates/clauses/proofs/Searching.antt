-- Binary search. A sorted list falls for each thing of its order, so each look settles one side of the place that was looked at. What a
-- search finds then says what insertion makes of the list, and which place is the first that compares as the same.
use mathlib.Core.Path.{◌≡◌, refl, sym, ap, ◌∙◌}
use mathlib.Core.Logic.{◌⊎◌, inl, inr, ⊎_elim}
use mathlib.Core.Bool.{true}
use mathlib.Core.List.{List, [], ◌∷◌, ◌++◌}
use Prim.Native.Nat.{ℕ, zero, suc, ◌+◌, ◌<◌, ◌≤◌, compare, Ordering}
use native.Mathlib.Omega.{arith}
use Rattle.std.proofs.lemmas.List.{get_or_default}
use lib.Dec.{compare_is_eq}
use lib.ListN.{length, take, drop, get_or}
use lib.Seq.{length-take-le, take-take}
use Rattle.definitions.specs.Truth.{every}
use Rattle.definitions.specs.Order.{insert}
use Rattle.definitions.proofs.Laws.Bools.{clash, and_true_left, and_true_right}
use Rattle.definitions.specs.Laws.Order.{is_less, Less, Orders}
use Rattle.definitions.proofs.Laws.Order.{compare_orders}
use Rattle.definitions.specs.Laws.Sorted.{above, sorted}
use Rattle.clauses.specs.Each.{Each, none, more}
use Rattle.clauses.specs.Ranks.{seek}
use Rattle.std.specs.Prelude.{Result, Ok, Err}
use Rattle.std.specs.declared.cmp.Ordering.{Ordering as Answer}
use Rattle.std.specs.declared.cmp.Ordering.TheVariants as answers
use Rattle.std.specs.Ordering.{ordering_index}
use Rattle.std.specs.Result.{result_unwrap_or}
use Rattle.std.specs.List.Sorted.{IsBinarySearchResult, IsSearchInRange}
use Rattle.clauses.specs.Search.{Falls, Found, Missing, Finds}
use Rattle.clauses.proofs.Carry.{mid}
use Rattle.clauses.proofs.Numbers.{either_way}
use Rattle.clauses.proofs.Orderings.{turned}

pub less_is : (o : Ordering) → Less o → o ≡ Ordering.lt
less_is Ordering.lt h = refl
less_is Ordering.eq h = clash h refl
less_is Ordering.gt h = clash h refl

-- Numbers that stand for the things of a sorted list, and a thing a that c compares with them.
module _ {A : Type 0} {cmp : A → A → Ordering} (order : Orders cmp) {R : ℕ → A → Type 0} (c : ℕ → Ordering) (a : A)
    (agrees : (w : ℕ) (b : A) → R w b → c w ≡ cmp a b) where
  after_or_before : (b d : A) → Less (cmp b d) → (cmp a b ≡ Ordering.gt) ⊎ (cmp a d ≡ Ordering.lt)
  after_or_before b d h = go (cmp a b) refl
    where
      go : (o : Ordering) → cmp a b ≡ o → (cmp a b ≡ Ordering.gt) ⊎ (cmp a d ≡ Ordering.lt)
      go Ordering.lt e = inr (less_is (cmp a d) (order.trans a b d (ap is_less e) h))
      go Ordering.eq e = inr (rw (order.equal a b (ap compare_is_eq e)) (less_is (cmp b d) h))
      go Ordering.gt e = inl e

  first_or_later : {l : List ℕ} {m : List A} (b : A) → above cmp b m ≡ true → Each R l m → (j : ℕ) → j < length l
      → (cmp a b ≡ Ordering.gt) ⊎ (c (get_or l j 0) ≡ Ordering.lt)
  unfolding every
  first_or_later b h none j k = absurd (omega arith)
  first_or_later b h (more {x = w} {a = d} {m = m} r s) zero k =
      ⊎_elim (λ x. inl x) (λ x. inr (agrees w d r ∙ x)) (after_or_before b d (and_true_left (is_less (cmp b d)) (above cmp b m) h))
  first_or_later b h (more {a = d} {m = m} r s) (suc j) k = first_or_later b (and_true_right (is_less (cmp b d)) (above cmp b m) h) s j (omega arith)

  two_of_them : {l : List ℕ} {m : List A} → sorted cmp m ≡ true → Each R l m → (i j : ℕ) → i < j → j < length l
      → (c (get_or l i 0) ≡ Ordering.gt) ⊎ (c (get_or l j 0) ≡ Ordering.lt)
  unfolding sorted
  two_of_them h none i j p k = absurd (omega arith)
  two_of_them h (more r s) i zero p k = absurd (omega arith)
  two_of_them h (more {x = w} {a = b} {m = m} r s) zero (suc j) p k =
      ⊎_elim (λ x. inl (agrees w b r ∙ x)) (λ x. inr x) (first_or_later b (and_true_left (above cmp b m) (sorted cmp m) h) s j (omega arith))
  two_of_them h (more {a = b} {m = m} r s) (suc i) (suc j) p k =
      two_of_them (and_true_right (above cmp b m) (sorted cmp m) h) s i j (omega arith) (omega arith)

  pub sorted_falls : {l : List ℕ} {m : List A} → sorted cmp m ≡ true → Each R l m → Falls c l
  sorted_falls h e = record { either = two_of_them h e }

-- so does a sorted list of numbers
pub numbers_fall : (x : ℕ) (l : List ℕ) → sorted compare l ≡ true → Falls (compare x) l
numbers_fall x l h = sorted_falls compare_orders (compare x) x (λ w b e. ap (compare x) e) h (themselves l)
  where
    themselves : (l : List ℕ) → Each (◌≡◌ {A = ℕ}) l l
    themselves [] = none
    themselves (y ∷ l) = more refl (themselves l)

-- What std's binary search answers, where the list falls for what is sought.
module _ (c : ℕ → Ordering) (l : List ℕ) (f : Falls c l) (answer : ℕ → Answer) (same : (w : ℕ) → answer w ≡ turned (c w)) where
  turned_lt : (w : ℕ) → turned (c w) ≡ answers.Greater → c w ≡ Ordering.lt
  turned_lt w e = go (c w) e
    where
      go : (o : Ordering) → turned o ≡ answers.Greater → o ≡ Ordering.lt
      go Ordering.lt e = refl
      go Ordering.eq e = cc
      go Ordering.gt e = cc

  turned_eq : (w : ℕ) → turned (c w) ≡ answers.Equal → c w ≡ Ordering.eq
  turned_eq w e = go (c w) e
    where
      go : (o : Ordering) → turned o ≡ answers.Equal → o ≡ Ordering.eq
      go Ordering.lt e = cc
      go Ordering.eq e = refl
      go Ordering.gt e = cc

  turned_gt : (w : ℕ) → turned (c w) ≡ answers.Less → c w ≡ Ordering.gt
  turned_gt w e = go (c w) e
    where
      go : (o : Ordering) → turned o ≡ answers.Less → o ≡ Ordering.gt
      go Ordering.lt e = cc
      go Ordering.eq e = cc
      go Ordering.gt e = refl

  -- the answers rise
  rise : (i j : ℕ) (d : ℕ) → i ≤ j → j < length l → ordering_index (answer (get_or l i d)) ≤ ordering_index (answer (get_or l j d))
  rise i j d h k =
      let x : get_or l i d ≡ get_or l i 0 = get_or_default l i d 0 (omega arith) in
      let y : get_or l j d ≡ get_or l j 0 = get_or_default l j d 0 k in
      rw (x, y, same (get_or l i 0), same (get_or l j 0))
      (either_way j i (λ g. let z : i ≡ j = omega arith in rw z (omega arith))
      (λ g. ⊎_elim (λ e. rw e (omega arith)) (λ e. rw e (most (turned (c (get_or l i 0))))) (f.either i j g k)))
    where
      most : (r : Answer) → ordering_index r ≤ 2
      most answers.Less = omega arith
      most answers.Equal = omega arith
      most answers.Greater = omega arith

  pub searched : (r : Result ℕ ℕ) → IsSearchInRange r (length l) → IsBinarySearchResult answer l r → Finds c l r
  searched (Ok i) h s = record {
    inside = h;
    same = here;
    after = λ k g. ⊎_elim (λ x. x) (λ x. cc (x, here)) (f.either k i g h);
  }
    where
      here : c (get_or l i 0) ≡ Ordering.eq
      here = turned_eq (get_or l i 0) (sym (same (get_or l i 0)) ∙ s 0)
  searched (Err i) h s = record {
    after = λ k g. turned_gt (get_or l k 0) (sym (same (get_or l k 0)) ∙ (s rise).0 k 0 (omega arith) g);
    before = λ k g n. turned_lt (get_or l k 0) (sym (same (get_or l k 0)) ∙ (s rise).1 k 0 g n);
  }

-- What follows from where the sought one stands.
found_rest : {c : ℕ → Ordering} {y : ℕ} {l : List ℕ} {i : ℕ} → Found c (y ∷ l) (suc i) → Found c l i
found_rest s = record { inside = omega (arith, s.inside); same = s.same; after = λ k h. s.after (suc k) (omega arith) }

missing_rest : {c : ℕ → Ordering} {y : ℕ} {l : List ℕ} {i : ℕ} → Missing c (y ∷ l) (suc i) → Missing c l i
missing_rest s = record { after = λ k h. s.after (suc k) (omega arith); before = λ k h g. s.before (suc k) (omega arith) (omega arith) }

module _ (cmp : ℕ → ℕ → Ordering) (x : ℕ) where
  pub insert_there : (l : List ℕ) (i : ℕ) → Found (cmp x) l i → l ≡ insert cmp x l
  unfolding insert
  insert_there [] i s = absurd (omega (arith, s.inside))
  insert_there (y ∷ l) zero s = rw s.same
  insert_there (y ∷ l) (suc i) s = rw (s.after 0 (omega arith)) (ap (λ (r : List ℕ). y ∷ r) (insert_there l i (found_rest s)))

  insert_new : (l : List ℕ) (i : ℕ) → i ≤ length l → Missing (cmp x) l i → take i l ++ (x ∷ drop i l) ≡ insert cmp x l
  unfolding insert
  insert_new [] zero h s = refl
  insert_new [] (suc i) h s = absurd (omega arith)
  insert_new (y ∷ l) zero h s = rw (s.before 0 (omega arith) (omega arith))
  insert_new (y ∷ l) (suc i) h s = rw (s.after 0 (omega arith)) (ap (λ (r : List ℕ). y ∷ r) (insert_new l i (omega arith) (missing_rest s)))

  pub put_in : (X : List ℕ) (n i : ℕ) → Missing (cmp x) (take n X) i → i ≤ n → n ≤ length X → (Y : List ℕ)
      → take (n + 1) Y ≡ take i X ++ (x ∷ mid i n X) → take (n + 1) Y ≡ insert cmp x (take n X)
  put_in X n i s h room Y e =
      e ∙ ap (λ (l : List ℕ). l ++ (x ∷ mid i n X)) (sym (take-take i n X h))
      ∙ insert_new (take n X) i (omega (arith, length-take-le n X room)) s

module _ (c : ℕ → Ordering) where
  seek_there : (l : List ℕ) (i : ℕ) → Found c l i → i ≡ seek (λ w. compare_is_eq (c w)) l
  unfolding seek
  seek_there [] i s = absurd (omega (arith, s.inside))
  seek_there (y ∷ l) zero s = rw s.same
  seek_there (y ∷ l) (suc i) s = rw (s.after 0 (omega arith)) (ap suc (seek_there l i (found_rest s)))

  seek_nowhere : (l : List ℕ) (i : ℕ) → Missing c l i → length l ≡ seek (λ w. compare_is_eq (c w)) l
  unfolding seek
  seek_nowhere [] i s = refl
  seek_nowhere (y ∷ l) zero s = rw (s.before 0 (omega arith) (omega arith)) (ap suc (seek_nowhere l 0 later))
    where
      later : Missing c l 0
      later = record { after = λ k h. absurd (omega arith); before = λ k h g. s.before (suc k) (omega arith) (omega arith) }
  seek_nowhere (y ∷ l) (suc i) s = rw (s.after 0 (omega arith)) (ap suc (seek_nowhere l i (missing_rest s)))

  -- the place that is found, or the number of them all
  pub sought : (l : List ℕ) (r : Result ℕ ℕ) → Finds c l r → result_unwrap_or r (length l) ≡ seek (λ w. compare_is_eq (c w)) l
  sought l (Ok i) s = seek_there l i s
  sought l (Err i) s = seek_nowhere l i s

pub within : (n : ℕ) (r : Result ℕ ℕ) → IsSearchInRange r n → result_unwrap_or r n ≤ n
within n (Ok i) h = omega arith
within n (Err i) h = omega arith
