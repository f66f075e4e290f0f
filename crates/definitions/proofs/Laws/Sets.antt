-- Names told apart by a test, and lists of names as sets.
use Rattle.std.specs.Prelude.{◌≡◌, refl, Bool, true, false, not, ◌&&◌, ◌||◌, List, [], ◌∷◌, ◌++◌, eqb}
use Rattle.std.proofs.Common.{sym, ◌∙◌, ap₂, eqb→eq}
use Rattle.std.proofs.Math.Bool.{and-false, or_assoc}
use Rattle.std.proofs.Math.Dec.{eqb_refl}
use Rattle.definitions.specs.Bytes.{same}
use Rattle.definitions.specs.Syntax.{Name}
use Rattle.definitions.specs.Names.{filter, mem, union, without}
use Rattle.definitions.proofs.Laws.Bools.{T→, and_true_left, and_true_right, by_cases, clash, →T}

pub same_refl : (x : Name) → same x x ≡ true
unfolding same
same_refl [] = refl
same_refl (a ∷ x) = rw (T→ (eqb a a) (eqb_refl a)) (same_refl x)

pub same_eq : (x y : Name) → same x y ≡ true → x ≡ y
unfolding same
same_eq [] [] e = refl
same_eq [] (b ∷ y) e = clash e refl
same_eq (a ∷ x) [] e = clash e refl
same_eq (a ∷ x) (b ∷ y) e =
    ap₂ (◌∷◌) (eqb→eq a b (→T (eqb a b) (and_true_left (eqb a b) (same x y) e))) (same_eq x y (and_true_right (eqb a b) (same x y) e))

pub mem_head : (x : Name) (l : List Name) → mem x (x ∷ l) ≡ true
unfolding mem
mem_head x l = rw (same_refl x)

pub mem_append : (x : Name) (a b : List Name) → mem x (a ++ b) ≡ (mem x a || mem x b)
unfolding mem
mem_append x [] b = refl
mem_append x (y ∷ a) b = rw (mem_append x a b) (sym (or_assoc (same x y) (mem x a) (mem x b)))

pub mem_filter : (x : Name) (p : Name → Bool) (l : List Name) → mem x (filter p l) ≡ (mem x l && p x)
unfolding mem filter
mem_filter x p [] = refl
mem_filter x p (y ∷ l) =
    by_cases (same x y)
    (λ s. rw (← same_eq x y s) (by_cases (p x)
    (λ t. rw (t, same_refl x))
    (λ f. rw (f, same_refl x) (mem_filter x p l ∙ rw f (and-false (mem x l))))))
    (λ s. rw s (by_cases (p y) (λ t. rw (t, s) (mem_filter x p l)) (λ f. rw f (mem_filter x p l))))

pub mem_union : (x : Name) (a b : List Name) → mem x (union a b) ≡ (mem x a || mem x b)
mem_union x a b = mem_append x a (without a b) ∙ rw (mem_filter x (λ y. not (mem y a)) b) (go (mem x a) (mem x b))
  where
    go : (m n : Bool) → (m || n && not m) ≡ (m || n)
    go true n = refl
    go false true = refl
    go false false = refl
