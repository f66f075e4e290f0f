-- Names only grow: what is over the limit once stays over it to the end.
use mathlib.Core.Path.{ap}
use mathlib.Core.List.{List, [], ◌∷◌, ◌++◌, map}
use Prim.Native.Nat.{◌≤◌}
use native.Mathlib.Omega.{arith}
use lib.ListN.{length}
use Rattle.definitions.specs.Bytes.{same}
use Rattle.definitions.specs.Syntax.{Name}
use Rattle.definitions.specs.Names.{mem}
use Rattle.definitions.specs.Prenex.{longest}
use Rattle.definitions.proofs.Laws.Bools.{by_cases}
use Rattle.definitions.proofs.Laws.Sets.{same_eq}
use Rattle.text.specs.Words.{Token, var_token, sign}
use Rattle.text.specs.Prefixes.{names}
use Rattle.prenex.specs.Walk.{put, is_free, reach, new_name, renamed, walk}
use Rattle.prenex.proofs.Fresh.{fresh_longer}

put_grows : (x w : Name) (m : List Token) → length x ≤ length w → longest (names m) ≤ longest (names (map (put x w) m))
unfolding names put longest
put_grows x w [] h = omega arith
put_grows x w (var_token y ∷ m) h =
    by_cases (same x y)
    (λ t. rw t (omega (arith, put_grows x w m h, ap length (same_eq x y t))))
    (λ f. rw f (omega (arith, put_grows x w m h)))
put_grows x w (sign k n s ∷ m) h = put_grows x w m h

module _ (Q N : List Token) where
  new_grows : (S : List Name) (x : Name) (rest m : List Token) → length x ≤ length (new_name Q N S x rest m)
  new_grows S x rest m = by_cases (is_free Q N x) (λ t. rw t (fresh_longer (reach Q N S x rest m) x)) (λ f. rw f (omega arith))

  renamed_grows : (x w : Name) (rest m : List Token) → length x ≤ length w → longest (names m) ≤ longest (names (renamed Q N x w rest m))
  renamed_grows x w rest m h = by_cases (mem x (names rest)) (λ t. rw t (omega arith)) (λ f. rw f (put_grows x w m h))

  pub prefix_grows : (S : List Name) (p m : List Token) → longest (names p) ≤ longest (names (walk Q N S p m).prefix)
  unfolding walk names longest
  prefix_grows S [] m = omega arith
  prefix_grows S (var_token x ∷ p) m =
      let w = new_name Q N S x p m in
      omega (arith, new_grows S x p m, prefix_grows (S ++ (w ∷ [])) p (renamed Q N x w p m))
  prefix_grows S (sign k n s ∷ p) m = prefix_grows [] p m

  pub matrix_grows : (S : List Name) (p m : List Token) → longest (names m) ≤ longest (names (walk Q N S p m).matrix)
  unfolding walk
  matrix_grows S [] m = omega arith
  matrix_grows S (var_token x ∷ p) m =
      let w = new_name Q N S x p m in
      omega (arith, renamed_grows x w p m (new_grows S x p m), matrix_grows (S ++ (w ∷ [])) p (renamed Q N x w p m))
  matrix_grows S (sign k n s ∷ p) m = matrix_grows [] p m
