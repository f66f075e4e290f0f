-- Words laid out one by one, from the last word of a table on: what each kind of word puts before what is laid out already.
use mathlib.Core.Path.{◌≡◌, refl, ap, ◌∙◌}
use mathlib.Core.Bool.{Bool, true, false, cond, not}
use mathlib.Core.List.{List, ◌∷◌, map}
use Prim.Native.Nat.{ℕ, suc, ◌+◌, ◌-◌, ◌<◌, ◌≤◌}
use native.Mathlib.Omega.{arith}
use native.Mathlib.Numerals.{add-one}
use borrow.Author.Tests.{lt-leb, ne_eqb}
use borrow.Rule.Slice.PartMut.{mid_of}
use lib.ListN.{length, length-drop, drop, get_or, set, drop_of_length-le}
use lib.Seq.{take_all, drop-cons}
use Rattle.definitions.specs.Syntax.{Quant}
use mathlib.Core.Logic.{◌⊎◌, inl, inr}
use Rattle.text.specs.declared.kind.Kind.{Kind}
use Rattle.text.specs.declared.kind.Kind.TheVariants.{Implies, Iff, Equals, All, Exists, Predicate, Function, Variable, Constant}
use Rattle.text.specs.Kinds.{number}
use Rattle.text.specs.Words.{kind_of_word}
use Rattle.clauses.specs.Plans.{counts, size, size_of, plan_word}
use Rattle.clauses.specs.Laying.{marked, constant_word, form_for, joined_word, leaf_word, laid_before, laid}
use Rattle.clauses.specs.Steps.{Laid}

-- the words of the constants, and whether an `and` or an `or` adds
top_word : (c : Bool) → plan_word 0 1 (cond (not c) 1 0) 0 0 ≡ constant_word (marked c) 0
unfolding counts size
top_word true = refl
top_word false = refl

bottom_word : (c : Bool) → plan_word 0 1 (cond c 1 0) 0 0 ≡ constant_word (marked c) 1
unfolding counts size
bottom_word true = refl
bottom_word false = refl

and_adds : (c : Bool) → cond c 2 3 ≡ form_for (marked c) 3
and_adds true = refl
and_adds false = refl

or_adds : (c : Bool) → cond (not c) 2 3 ≡ form_for (marked c) 4
or_adds true = refl
or_adds false = refl

-- what stands from a place on
pub rest_of : (O : List ℕ) (p : ℕ) → length O ≡ 1024 → mid_of p (1024 - p) O ≡ drop p O
rest_of O p len = take_all (1024 - p) (drop p O) (omega (arith, length-drop p O))

-- one word laid out, by its kind
module _ (c : Bool) (at k : ℕ) (l : List ℕ) where
  pub laid_top : k ≡ 0 → plan_word 0 1 (cond (not c) 1 0) 0 0 ∷ l ≡ laid_before (marked c) at k l
  unfolding laid_before
  laid_top e = rw e (ap (λ (w : ℕ). w ∷ l) (top_word c))

  pub laid_bottom : k ≡ 1 → plan_word 0 1 (cond c 1 0) 0 0 ∷ l ≡ laid_before (marked c) at k l
  unfolding laid_before
  laid_bottom e = rw e (ap (λ (w : ℕ). w ∷ l) (bottom_word c))

  pub laid_not : k ≡ 2 → set l 0 (leaf_word (1024 + (at + 1))) ≡ laid_before (marked c) at k l
  unfolding laid_before
  laid_not e = rw (e, add-one)

  pub laid_and : k ≡ 3 → joined_word (cond c 2 3) (get_or l 0 0) (get_or l (size_of (get_or l 0 0)) 0) ∷ l ≡ laid_before (marked c) at k l
  unfolding laid_before
  laid_and e = rw e (ap (λ (f : ℕ). joined_word f (get_or l 0 0) (get_or l (size_of (get_or l 0 0)) 0) ∷ l) (and_adds c))

  pub laid_or : k ≡ 4 → joined_word (cond (not c) 2 3) (get_or l 0 0) (get_or l (size_of (get_or l 0 0)) 0) ∷ l ≡ laid_before (marked c) at k l
  unfolding laid_before
  laid_or e = rw e (ap (λ (f : ℕ). joined_word f (get_or l 0 0) (get_or l (size_of (get_or l 0 0)) 0) ∷ l) (or_adds c))

  pub laid_atom : (kind : Kind) → k ≡ number kind → (kind ≡ Predicate) ⊎ (kind ≡ Equals) → leaf_word at ∷ l ≡ laid_before (marked c) at k l
  unfolding laid_before
  laid_atom kind e (inl h) = let z : k ≡ 10 = e ∙ ap number h in rw z
  laid_atom kind e (inr h) = let z : k ≡ 7 = e ∙ ap number h in rw z

  pub laid_past : 13 < k → l ≡ laid_before (marked c) at k l
  unfolding laid_before
  laid_past h =
      rw (lt-leb k 1 (omega arith), lt-leb k 2 (omega arith), lt-leb k 4 (omega arith), ne_eqb k 10 (λ e. omega arith), ne_eqb k 7 (λ e. omega arith))

  pub laid_other : (kind : Kind) → k ≡ number kind
      → (kind ≡ Implies) ⊎ ((kind ≡ Iff) ⊎ ((kind ≡ All) ⊎ ((kind ≡ Exists) ⊎ ((kind ≡ Function) ⊎ ((kind ≡ Variable) ⊎ (kind ≡ Constant))))))
      → l ≡ laid_before (marked c) at k l
  unfolding laid_before
  laid_other kind e (inl h) = let z : k ≡ 5 = e ∙ ap number h in rw z
  laid_other kind e (inr (inl h)) = let z : k ≡ 6 = e ∙ ap number h in rw z
  laid_other kind e (inr (inr (inl h))) = let z : k ≡ 8 = e ∙ ap number h in rw z
  laid_other kind e (inr (inr (inr (inl h)))) = let z : k ≡ 9 = e ∙ ap number h in rw z
  laid_other kind e (inr (inr (inr (inr (inl h))))) = let z : k ≡ 11 = e ∙ ap number h in rw z
  laid_other kind e (inr (inr (inr (inr (inr (inl h)))))) = let z : k ≡ 12 = e ∙ ap number h in rw z
  laid_other kind e (inr (inr (inr (inr (inr (inr h)))))) = let z : k ≡ 13 = e ∙ ap number h in rw z

pub laid_as : {p : ℕ} {O : List ℕ} {r : ℕ} {l m : List ℕ} → l ≡ m → Laid p O r l → Laid p O r m
laid_as e s = rw (← e) s

-- a whole matrix laid out, from the last word on
pub laid_none : (q : Quant) (S O : List ℕ) → length O ≡ 1024 → drop 1024 O ≡ laid q (length S) (map kind_of_word (drop (length S) S))
unfolding laid
laid_none q S O len = rw (drop_of_length-le O {i = 1024} (omega arith), drop_of_length-le S {i = length S} (omega arith))

pub laid_more : (q : Quant) (S O : List ℕ) (p at : ℕ) → 0 < at → at ≤ length S → drop p O ≡ laid q at (map kind_of_word (drop at S))
    → laid_before q (at - 1) (kind_of_word (get_or S (at - 1) 0)) (drop p O) ≡ laid q (at - 1) (map kind_of_word (drop (at - 1) S))
unfolding laid
laid_more q S O p at some room e =
    let y : suc (at - 1) ≡ at = omega arith in
    let m : drop (at - 1) S ≡ get_or S (at - 1) 0 ∷ drop at S = rw y at (drop-cons S (at - 1) 0 (omega arith)) in
    rw (m, y, e)
