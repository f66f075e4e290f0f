-- Sorted lists as sets. `set_of` gives a strictly sorted list with just the members of the list that it was made from, and a set has only
-- one strictly sorted list: so the order in which things are put in does not matter.
use Rattle.std.specs.Prelude.{Bool, ◌&&◌, ◌||◌}
use Rattle.std.proofs.Math.Bool.{true}
use mathlib.Core.List.{List, [], ◌∷◌}
use Prim.Native.Nat.{Ordering}
use Rattle.std.proofs.Math.Dec.{compare_is_eq}
use Rattle.definitions.specs.Syntax.{Quant, all, ex}
use Rattle.definitions.specs.Truth.{every, any}
use Rattle.definitions.specs.Laws.Order.{is_less}

-- Every or any of a list, one element at a time.
abbrev pub both : Quant → Bool → Bool → Bool
both all a b = a && b
both ex a b = a || b

module _ {A : Type 0} (cmp : A → A → Ordering) where
  -- x comes before all of a list; strictly sorted; x is one of a list
  abbrev pub above : A → List A → Bool
  above x l = every (λ y. is_less (cmp x y)) l

  unfoldable pub sorted : List A → Bool
  sorted [] = true
  sorted (x ∷ l) = above x l && sorted l

  abbrev pub has : A → List A → Bool
  has x l = any (λ y. compare_is_eq (cmp x y)) l
