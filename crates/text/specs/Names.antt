-- The order of names: by bytes, and a shorter name that the other begins with comes first. A comparison answers minus one, zero or one.
use Rattle.std.specs.Prelude.{◌≡◌, ℤ, pos, neg_ℤ}
use Prim.Native.Nat.{Ordering}
use Rattle.std.specs.declared.cmp.Ordering.{Ordering as Answer}
use Rattle.std.specs.declared.cmp.Ordering.TheVariants.{Less, Equal, Greater}
use Rattle.definitions.specs.Syntax.{Name}
use Rattle.definitions.specs.Order.{cmp_name}

-- an answer of the code as an ordering, and as document 01's number
abbrev pub ordering : Answer → Ordering
ordering Less = Ordering.lt
ordering Equal = Ordering.eq
ordering Greater = Ordering.gt

abbrev pub number : Answer → ℤ
number Less = neg_ℤ (pos 1)
number Equal = pos 0
number Greater = pos 1

-- what a comparison has to answer
abbrev pub sign_of : Ordering → ℤ
sign_of Ordering.lt = neg_ℤ (pos 1)
sign_of Ordering.eq = pos 0
sign_of Ordering.gt = pos 1

-- r is the comparison of two names
pub record Compared (a b : Name) (r : Answer) : Type 0 where
  pub order : ordering r ≡ cmp_name a b
  pub answer : number r ≡ sign_of (cmp_name a b)
