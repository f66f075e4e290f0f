-- Two names compared: what std's equality and order say of two slices, in words of the definitions.
use Rattle.std.proofs.Common.{◌≡◌, refl, sym, ap, ◌∙◌, ℕ, ◌-◌, ◌<◌, [], ◌∷◌, length, drop, Bool, true, false, not, ◌&&◌, arith, eqb, ltb, eqb-true, ltb-true, ltb-false, le-leb}
use Rattle.std.proofs.lemmas.Bool.{eqb-false}
use lib.Dec.{is_le, compare_is_eq}
use borrow.Author.Tests.{eq-eqb, ne_eqb, lt-leb}
use mathlib.Core.Bool.{true≢false}
use Rattle.definitions.proofs.Laws.Bools.{by_cases}
use Rattle.definitions.proofs.Laws.Sets.{same_eq, same_refl}
use Rattle.std.specs.Cmp.Lexicographic.{slice_cmp, pointwise}
use Rattle.std.specs.Ordering.{nat_cmp, ordering_then}
use Rattle.std.specs.declared.cmp.Ordering.{Ordering as Answer}
use Rattle.std.specs.declared.cmp.Ordering.TheVariants.{Less, Equal, Greater}
use Prim.Native.Nat.{compare, Ordering}
use Rattle.definitions.specs.Bytes.{same}
use Rattle.definitions.specs.Syntax.{Name}
use Rattle.definitions.specs.Order.{then, cmp_name, cmp_list}
use Rattle.text.specs.Names.{ordering, number, sign_of, Compared}

pub equal_bytes : (a b : Name) → pointwise eqb a b ≡ same a b
unfolding same
equal_bytes [] [] = refl
equal_bytes [] (y ∷ b) = refl
equal_bytes (x ∷ a) [] = refl
equal_bytes (x ∷ a) (y ∷ b) = ap (λ (t : Bool). eqb x y && t) (equal_bytes a b)

-- names whose last n bytes differ are not the same
pub ends_differ : (a b x y : Name) (n : ℕ) → x ≡ drop (length a - n) a → y ≡ drop (length b - n) b
    → not (pointwise eqb x y) ≡ true → same a b ≡ false
ends_differ a b x y n e f d =
    by_cases (same a b)
    (λ t. let same_ends : x ≡ y = e ∙ ap (λ s. drop (length s - n) s) (same_eq a b t) ∙ sym f in
    let same_bytes : pointwise eqb x y ≡ true = equal_bytes x y ∙ rw (sym same_ends) (same_refl x) in
    absurd (true≢false (sym d ∙ ap not same_bytes)))
    (λ u. u)

-- Which comes first.
is_less : (o : Ordering) → is_le o ≡ true → compare_is_eq o ≡ false → o ≡ Ordering.lt
is_less Ordering.lt p q = refl
is_less Ordering.eq p q = absurd (true≢false q)
is_less Ordering.gt p q = absurd (true≢false (sym p))

is_equal : (o : Ordering) → compare_is_eq o ≡ true → o ≡ Ordering.eq
is_equal Ordering.lt p = absurd (true≢false (sym p))
is_equal Ordering.eq p = refl
is_equal Ordering.gt p = absurd (true≢false (sym p))

is_greater : (o : Ordering) → is_le o ≡ false → o ≡ Ordering.gt
is_greater Ordering.lt p = absurd (true≢false p)
is_greater Ordering.eq p = absurd (true≢false p)
is_greater Ordering.gt p = refl

less : (m n : ℕ) → m < n → compare m n ≡ Ordering.lt
less m n h = is_less (compare m n) (le-leb m n (omega arith)) (ne_eqb m n (λ e. omega arith))

equal : (m n : ℕ) → m ≡ n → compare m n ≡ Ordering.eq
equal m n h = is_equal (compare m n) (eq-eqb m n h)

greater : (m n : ℕ) → n < m → compare m n ≡ Ordering.gt
greater m n h = is_greater (compare m n) (lt-leb m n h)

byte_order : (x y : ℕ) → ordering (nat_cmp x y) ≡ compare x y
byte_order x y =
    by_cases (ltb x y) (λ t. rw t (sym (less x y (ltb-true x y t))))
    (λ t. by_cases (eqb x y) (λ u. rw (t, u) (sym (equal x y (eqb-true x y u))))
    (λ u. rw (t, u) (sym (greater x y (omega (arith, ltb-false x y t, eqb-false x y u))))))

then_order : (o p : Answer) → ordering (ordering_then o p) ≡ then (ordering o) (ordering p)
then_order Less p = refl
then_order Equal p = refl
then_order Greater p = refl

name_order : (a b : Name) → ordering (slice_cmp nat_cmp a b) ≡ cmp_name a b
unfolding cmp_list
name_order [] [] = refl
name_order [] (y ∷ b) = refl
name_order (x ∷ a) [] = refl
name_order (x ∷ a) (y ∷ b) = then_order (nat_cmp x y) (slice_cmp nat_cmp a b) ∙ rw (byte_order x y, name_order a b)

-- the number of an answer is its ordering's
numbered : (r : Answer) → number r ≡ sign_of (ordering r)
numbered Less = refl
numbered Equal = refl
numbered Greater = refl

pub compared : (a b : Name) (r : Answer) → r ≡ slice_cmp nat_cmp a b → Compared a b r
compared a b r e =
    let o : ordering r ≡ cmp_name a b = rw e (name_order a b) in
    record { order = o; answer = numbered r ∙ ap sign_of o }
