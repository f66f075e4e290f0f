-- The comparisons of names, terms, atoms, literals and clauses are total orders.
-- What that is stands in the record `Orders`; lists have it from their elements, and a pair of things from its two parts (`lead`).
use Rattle.std.specs.Prelude.{◌≡◌, Bool, true, false}
use Prim.Native.Nat.{Ordering}
use Rattle.std.proofs.Math.Dec.{compare_is_eq}

abbrev pub is_less : Ordering → Bool
is_less Ordering.lt = true
is_less Ordering.eq = false
is_less Ordering.gt = false

abbrev pub Equal : Ordering → Type 0
Equal o = compare_is_eq o ≡ true

abbrev pub Less : Ordering → Type 0
Less o = is_less o ≡ true

-- the answer when the two sides change places
abbrev pub swap : Ordering → Ordering
swap Ordering.lt = Ordering.gt
swap Ordering.eq = Ordering.eq
swap Ordering.gt = Ordering.lt

-- equal only on equal things; the other way round with the sides; transitive
pub record Orders {A : Type 0} (cmp : A → A → Ordering) : Type 0 where
  pub equal : (x y : A) → Equal (cmp x y) → x ≡ y
  pub back : (x y : A) → cmp y x ≡ swap (cmp x y)
  pub trans : (x y z : A) → Less (cmp x y) → Less (cmp y z) → Less (cmp x z)
