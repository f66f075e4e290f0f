-- std's answers as the orderings of the definitions: at numbers, one after another, at lists.
use mathlib.Core.Path.{◌≡◌, refl, sym, ap, ap₂, ◌∙◌}
use mathlib.Core.List.{List, [], ◌∷◌}
use Prim.Native.Nat.{ℕ, ◌<◌, compare, Ordering}
use native.Mathlib.Omega.{arith}
use Rattle.std.specs.declared.cmp.Ordering.{Ordering as Answer}
use Rattle.std.specs.declared.cmp.Ordering.TheVariants.{Less, Equal, Greater}
use Rattle.std.specs.Ordering.{nat_cmp, ordering_then, ordering_reverse}
use Rattle.std.specs.Cmp.Lexicographic.{slice_cmp}
use borrow.Author.Tests.{lt-ltb, le-ltb, ne_eqb, eq-eqb}
use Rattle.definitions.specs.Order.{then, cmp_list}
use Rattle.text.specs.Names.{ordering}
use Rattle.clauses.proofs.Numbers.{either_way, compare_lt, compare_gt, compare_same}

-- the answer of an ordering turned round, as std's searches ask for it: how an element compares with what is sought
abbrev pub turned : Ordering → Answer
turned Ordering.lt = Greater
turned Ordering.eq = Equal
turned Ordering.gt = Less

pub turned_is : (r : Answer) (o : Ordering) → ordering r ≡ o → ordering_reverse r ≡ turned o
turned_is Less o e = ap turned e
turned_is Equal o e = ap turned e
turned_is Greater o e = ap turned e

numbers_lt : (a b : ℕ) → a < b → nat_cmp a b ≡ Less
numbers_lt a b h = rw (lt-ltb a b h)

numbers_gt : (a b : ℕ) → b < a → nat_cmp a b ≡ Greater
numbers_gt a b h = rw (le-ltb a b (omega arith), ne_eqb a b (λ e. omega arith))

numbers_same : (a b : ℕ) → a ≡ b → nat_cmp a b ≡ Equal
numbers_same a b h = rw (le-ltb a b (omega arith), eq-eqb a b h)

-- one of three
by_order : {P : Type 0} (a b : ℕ) → (a < b → P) → (a ≡ b → P) → (b < a → P) → P
by_order a b f g h = either_way a b (λ l. either_way b a (λ m. g (omega arith)) f) h

pub of_numbers : (a b : ℕ) → ordering (nat_cmp a b) ≡ compare a b
of_numbers a b =
    by_order a b (λ h. rw (numbers_lt a b h, compare_lt a b h))
    (λ h. rw (numbers_same a b h, compare_same a b h))
    (λ h. rw (numbers_gt a b h, compare_gt a b h))

pub turned_numbers : (x y : ℕ) → nat_cmp y x ≡ turned (compare x y)
turned_numbers x y =
    by_order x y (λ h. rw (numbers_gt y x h, compare_lt x y h))
    (λ h. rw (numbers_same y x (sym h), compare_same x y h))
    (λ h. rw (numbers_lt y x h, compare_gt x y h))

pub of_then : (r s : Answer) → ordering (ordering_then r s) ≡ then (ordering r) (ordering s)
of_then Less s = refl
of_then Equal s = refl
of_then Greater s = refl

pub of_lists : (a b : List ℕ) → ordering (slice_cmp nat_cmp a b) ≡ cmp_list compare a b
unfolding cmp_list
of_lists [] [] = refl
of_lists [] (y ∷ b) = refl
of_lists (x ∷ a) [] = refl
of_lists (x ∷ a) (y ∷ b) = of_then (nat_cmp x y) (slice_cmp nat_cmp a b) ∙ ap₂ then (of_numbers x y) (of_lists a b)

-- what an arm of two lists' comparison says of the lists that they are
pub compared : {r s : Answer} {a b c d : List ℕ} → r ≡ s → r ≡ slice_cmp nat_cmp a b → a ≡ c → b ≡ d → cmp_list compare c d ≡ ordering s
compared {a = a} {b = b} e f g h = sym (ap₂ (cmp_list compare) g h) ∙ sym (of_lists a b) ∙ ap ordering (sym f ∙ e)

-- what `then` gives behind a comparison of numbers
pub of_both : (m n : ℕ) (r s t : Answer) → r ≡ nat_cmp m n → t ≡ ordering_then r s → ordering t ≡ then (compare m n) (ordering s)
of_both m n r s t e f = ap ordering f ∙ of_then r s ∙ ap (λ o. then o (ordering s)) (ap ordering e ∙ of_numbers m n)
