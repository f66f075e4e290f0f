-- A list without repetitions has no more names in common with another than that one has: a block keeps no more variables than it had.
use mathlib.Core.Path.{◌≡◌, refl, sym, ap, ◌∙◌}
use mathlib.Core.Bool.{Bool, true, false, not, ◌||◌}
use mathlib.Core.List.{List, [], ◌∷◌}
use Prim.Native.Nat.{◌+◌, ◌≤◌}
use native.Mathlib.Omega.{arith}
use lib.ListN.{length}
use Rattle.definitions.specs.Bytes.{same}
use Rattle.definitions.specs.Syntax.{Name}
use Rattle.definitions.specs.Names.{mem, filter, keep}
use Rattle.definitions.proofs.Laws.Bools.{by_cases, clash, and_true_left, and_true_right, or_false_left, or_false_right}
use Rattle.definitions.proofs.Laws.Sets.{same_eq, same_refl}
use Rattle.definitions.specs.Laws.Once.{once}

either : (p q : Name → Bool) (l : List Name) → length (filter (λ x. p x || q x) l) ≤ length (filter p l) + length (filter q l)
unfolding filter
either p q [] = omega arith
either p q (x ∷ l) =
    let r = either p q l in
    by_cases (p x)
    (λ t. by_cases (q x) (λ s. rw (t, s) (omega arith)) (λ s. rw (t, s) (omega arith)))
    (λ t. by_cases (q x) (λ s. rw (t, s) (omega arith)) (λ s. rw (t, s) (omega arith)))

absent : (v : Name) (l : List Name) → mem v l ≡ false → filter (λ x. same x v) l ≡ []
unfolding filter mem
absent v [] h = refl
absent v (x ∷ l) h =
    by_cases (same x v)
    (λ t. clash (same_refl v) (ap (same v) (sym (same_eq x v t)) ∙ or_false_left (same v x) (mem v l) h))
    (λ f. rw f (absent v l (or_false_right (same v x) (mem v l) h)))

at_most_once : (v : Name) (l : List Name) → once l ≡ true → length (filter (λ x. same x v) l) ≤ 1
unfolding filter once
at_most_once v [] h = omega arith
at_most_once v (x ∷ l) h =
    by_cases (same x v)
    (λ t. rw (t, absent v l (out (mem v l) (rw (same_eq x v t) at (and_true_left (not (mem x l)) (once l) h)))) (omega arith))
    (λ f. rw f (at_most_once v l (and_true_right (not (mem x l)) (once l) h)))
  where
    out : (b : Bool) → not b ≡ true → b ≡ false
    out true e = sym e
    out false e = refl

nothing_kept : (l : List Name) → filter (λ x. false) l ≡ []
unfolding filter
nothing_kept [] = refl
nothing_kept (x ∷ l) = nothing_kept l

pub keep_fits : (vs l : List Name) → once l ≡ true → length (keep vs l) ≤ length vs
unfolding mem
keep_fits [] l h = rw (nothing_kept l) (omega arith)
keep_fits (v ∷ vs) l h = omega (arith, either (λ x. same x v) (λ x. mem x vs) l, at_most_once v l h, keep_fits vs l h)
