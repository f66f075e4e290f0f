-- New names: one backtick more while the name is taken. Which names are taken matters, not their order; a name only grows.
use mathlib.Core.Path.{◌≡◌, refl, sym, ◌∙◌}
use mathlib.Core.Bool.{true, false}
use mathlib.Core.List.{List, [], ◌∷◌}
use Prim.Native.Nat.{ℕ, zero, suc, ◌+◌, ◌≤◌, ◌<◌}
use native.Mathlib.Omega.{arith}
use lib.ListN.{length, length-append}
use Rattle.definitions.specs.Bytes.{same}
use Rattle.definitions.specs.Syntax.{Name}
use Rattle.definitions.specs.Names.{mem}
use Rattle.definitions.specs.Prenex.{ticked, longest, fresh_from, fresh}
use Rattle.definitions.proofs.Laws.Bools.{by_cases, clash}
use Rattle.definitions.proofs.Laws.Sets.{same_eq}

pub mem_longest : (x : Name) (l : List Name) → mem x l ≡ true → length x ≤ longest l
unfolding mem longest
mem_longest x [] m = clash m refl
mem_longest x (y ∷ l) m =
    by_cases (same x y)
    (λ t. rw (same_eq x y t) (omega arith))
    (λ f. omega (arith, mem_longest x l (rw f at m)))

-- two lists with the same names, and enough steps for each
same_from : (j k : ℕ) (u v : List Name) (x : Name) → ((y : Name) → mem y u ≡ mem y v) → longest u < length x + j → longest v < length x + k
    → fresh_from j u x ≡ fresh_from k v x
unfolding fresh_from
same_from zero zero u v x s h l = refl
same_from zero (suc k) u v x s h l =
    by_cases (mem x v) (λ t. absurd (omega (arith, mem_longest x u (s x ∙ t)))) (λ f. rw f)
same_from (suc j) zero u v x s h l =
    by_cases (mem x u) (λ t. absurd (omega (arith, mem_longest x v (sym (s x) ∙ t)))) (λ f. rw f)
same_from (suc j) (suc k) u v x s h l =
    by_cases (mem x u)
    (λ t. rw (t, sym (s x) ∙ t) (same_from j k u v (ticked x) s (omega (arith, length-append x (96 ∷ []))) (omega (arith, length-append x (96 ∷ [])))))
    (λ f. rw (f, sym (s x) ∙ f))

pub fresh_same : (u v : List Name) (x : Name) → ((y : Name) → mem y u ≡ mem y v) → fresh u x ≡ fresh v x
unfolding fresh
fresh_same u v x s = same_from (suc (longest u)) (suc (longest v)) u v x s (omega arith) (omega arith)

pub fresh_stop : (u : List Name) (x : Name) → mem x u ≡ false → fresh u x ≡ x
unfolding fresh fresh_from
fresh_stop u x f = rw f

pub fresh_on : (u : List Name) (x : Name) → mem x u ≡ true → fresh u x ≡ fresh u (ticked x)
unfolding fresh fresh_from
fresh_on u x t =
    rw t (same_from (longest u) (suc (longest u)) u u (ticked x) (λ y. refl) (omega (arith, length-append x (96 ∷ []))) (omega arith))

from_longer : (k : ℕ) (u : List Name) (x : Name) → length x ≤ length (fresh_from k u x)
unfolding fresh_from
from_longer zero u x = omega arith
from_longer (suc k) u x =
    by_cases (mem x u) (λ t. rw t (omega (arith, from_longer k u (ticked x), length-append x (96 ∷ [])))) (λ f. rw f (omega arith))

pub fresh_longer : (u : List Name) (x : Name) → length x ≤ length (fresh u x)
unfolding fresh
fresh_longer u x = from_longer (suc (longest u)) u x
