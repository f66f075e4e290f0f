-- The free variables of a prenex form, gathered from the tokens of its matrix: each once, by first occurrence, and none that a block binds.
-- The scope that is kept is the first entries of the whole one.
use mathlib.Core.Path.{◌≡◌, refl, sym, ap, ◌∙◌}
use mathlib.Core.Bool.{Bool, true, false, not, ◌&&◌, ◌||◌, cond}
use mathlib.Core.List.{List, [], ◌∷◌, ◌++◌, map, map-append, append_assoc, append-nil}
use Prim.Native.Nat.{ℕ, zero, suc}
use native.Mathlib.Omega.{arith}
use borrow.Author.Tests.{ltb-true, ltb-false, le-ltb}
use lib.Dec.{ltb}
use lib.ListN.{length, take, length-append, length-map, length-take}
use lib.Seq.{take_all, take-append-le}
use Rattle.definitions.specs.Bytes.{same}
use Rattle.definitions.specs.Syntax.{Name, Term, var, con, app, Terms, nil, cons, Formula, top, bot, pred, eq, neg, bin, blk}
use Rattle.definitions.specs.Names.{mem, filter, without, union, term_vars, terms_vars, free}
use Rattle.definitions.specs.Prenex.{Prefix, plain, more, close, no_block}
use Rattle.definitions.specs.Skolem.{binders}
use Rattle.definitions.proofs.Laws.Bools.{by_cases, clash, and_true_left, and_true_right}
use Rattle.definitions.proofs.Laws.Sets.{mem_append, mem_filter}
use Rattle.text.specs.Words.{Token, var_token, sign, term_code, terms_code, code}
use Rattle.text.specs.Prefixes.{names}
use Rattle.text.specs.PrefixLaws.{names_append, names_vars}
use Rattle.skolem.specs.Pass.{most, push, gather}
use Rattle.skolem.proofs.Lists.{filter_same, filter_append, without_twice, without_none, map_same_id}

-- one entry more, of the first ones
pub push_first : {A B : Type 0} (f : A → B) (g : List A) (a : A) → push (map f (take most g)) (f a) ≡ map f (take most (g ++ (a ∷ [])))
unfolding push
push_first f g a =
    by_cases (ltb (length g) most)
    (λ t. let h = ltb-true (length g) most t in
    rw (take_all most g (omega arith), length-map g f, t, take_all most (g ++ (a ∷ [])) (simp length-append (omega arith))) (sym (map-append f g (a ∷ []))))
    (λ n. let h = ltb-false (length g) most n in
    rw (take-append-le most g (a ∷ []) h, le-ltb (length (map f (take most g))) most (simp (length-map, length-take) (omega arith))))

mem_take : (x : Name) (n : ℕ) (l : List Name) → mem x (take n l) ≡ true → mem x l ≡ true
unfolding mem
mem_take x zero l m = clash m refl
mem_take x (suc n) [] m = m
mem_take x (suc n) (y ∷ l) m = by_cases (same x y) (λ t. rw t) (λ f. rw f (mem_take x n l (rw f at m)))

-- the whole list, name by name
module _ (b : List Name) where
  unfoldable collect : List Name → List Name → List Name
  collect g [] = g
  collect g (x ∷ l) = collect (cond (mem x b || mem x g) g (g ++ (x ∷ []))) l

  collect_append : (g l r : List Name) → collect g (l ++ r) ≡ collect (collect g l) r
  unfolding collect
  collect_append g [] r = refl
  collect_append g (x ∷ l) r = collect_append (cond (mem x b || mem x g) g (g ++ (x ∷ []))) l r

  -- an entry that is not among the first ones but in the list: these are full
  gather_step : (g : List Name) (x : Name)
      → cond (not (mem x b || mem x (take most g))) (push (map var_token (take most g)) (var_token x)) (map var_token (take most g))
      ≡ map var_token (take most (cond (mem x b || mem x g) g (g ++ (x ∷ []))))
  unfolding push
  gather_step g x = by_cases (mem x b) (λ t. rw t) (λ f. rw f (by_cases (mem x g)
      (λ t. rw t (by_cases (mem x (take most g))
      (λ i. rw i)
      (λ o. rw o (by_cases (ltb (length g) most)
      (λ l. clash t (rw (take_all most g (omega (arith, ltb-true (length g) most l))) at o))
      (λ l. rw (le-ltb (length (map var_token (take most g))) most (simp (length-map, length-take) (omega (arith, ltb-false (length g) most l)))))))))
      (λ n. rw n (by_cases (mem x (take most g)) (λ i. clash (mem_take x most g i) n) (λ o. rw o (push_first var_token g x))))))

  gather_is : (g : List Name) (l : List Token) → gather (λ t. t) b (map var_token (take most g)) l ≡ map var_token (take most (collect g (names l)))
  unfolding gather collect names
  gather_is g [] = refl
  gather_is g (var_token x ∷ l) =
      rw (map_same_id (map var_token (take most g)), names_vars (take most g), gather_step g x) (gather_is (cond (mem x b || mem x g) g (g ++ (x ∷ []))) l)
  gather_is g (sign k n s ∷ l) = gather_is g l

  -- names that bring in the variables of a list
  abbrev Brings : List Name → List Name → Type 0
  Brings l vs = (g : List Name) → collect g l ≡ g ++ without (b ++ g) vs

  brings_none : Brings [] []
  unfolding collect filter
  brings_none g = sym (append-nil g)

  brings_one : (x : Name) → Brings (x ∷ []) (x ∷ [])
  unfolding collect filter
  brings_one x g = rw (mem_append x b g) (by_cases (mem x b || mem x g) (λ t. rw t (sym (append-nil g))) (λ f. rw f))

  brings_both : (l r vs ws : List Name) → Brings l vs → Brings r ws → Brings (l ++ r) (union vs ws)
  brings_both l r vs ws p q g =
      collect_append g l r ∙ rw (p g) (q (g ++ without (b ++ g) vs)
      ∙ append_assoc g (without (b ++ g) vs) (without (b ++ (g ++ without (b ++ g) vs)) ws)
      ∙ ap (λ (z : List Name). g ++ z) (ap (λ (z : List Name). without (b ++ g) vs ++ z) again ∙ sym (filter_append (λ x. not (mem x (b ++ g))) vs (without vs ws))))
    where
      bools : (a m n : Bool) → not (m || (n || a && not (m || n))) ≡ not (a || (m || n))
      bools true true n = refl
      bools true false true = refl
      bools true false false = refl
      bools false true n = refl
      bools false false true = refl
      bools false false false = refl

      again : without (b ++ (g ++ without (b ++ g) vs)) ws ≡ without (b ++ g) (without vs ws)
      again =
          filter_same (λ x. not (mem x (b ++ (g ++ without (b ++ g) vs)))) (λ x. not (mem x (vs ++ (b ++ g))))
          (λ x. rw (mem_append x b (g ++ without (b ++ g) vs), mem_append x g (without (b ++ g) vs), mem_filter x (λ y. not (mem y (b ++ g))) vs, mem_append x vs (b ++ g), mem_append x b g)
          (bools (mem x vs) (mem x b) (mem x g))) ws
          ∙ sym (without_twice vs (b ++ g) ws)

  mutual
    unfolding term_code terms_code term_vars terms_vars names

    term_brings : (t : Term) → Brings (names (term_code t)) (term_vars t)
    term_brings (var x) = brings_one x
    term_brings (con c) = brings_none
    term_brings (app f ts) = terms_bring ts

    terms_bring : (ts : Terms) → Brings (names (terms_code ts)) (terms_vars ts)
    terms_bring nil = brings_none
    terms_bring (cons t ts) = rw (names_append (term_code t) (terms_code ts))
        (brings_both (names (term_code t)) (names (terms_code ts)) (term_vars t) (terms_vars ts) (term_brings t) (terms_bring ts))

  brings : (f : Formula) → no_block f ≡ true → Brings (names (code f)) (free f)
  unfolding code free names no_block
  brings top n = brings_none
  brings bot n = brings_none
  brings (pred p ts) n = terms_bring ts
  brings (eq t u) n = rw (names_append (term_code t) (term_code u))
      (brings_both (names (term_code t)) (names (term_code u)) (term_vars t) (term_vars u) (term_brings t) (term_brings u))
  brings (neg f) n = brings f n
  brings (bin o f g) n = rw (names_append (code f) (code g))
      (brings_both (names (code f)) (names (code g)) (free f) (free g) (brings f (and_true_left (no_block f) (no_block g) n)) (brings g (and_true_right (no_block f) (no_block g) n)))
  brings (blk q vs f) n = clash n refl

pub free_close : (p : Prefix) (m : Formula) → free (close p m) ≡ without (binders p) (free m)
unfolding free close binders
free_close plain m = sym (without_none (free m))
free_close (more q vs p) m = rw (free_close p m) (twice (binders p) vs (free m))
  where
    twice : (a b l : List Name) → without b (without a l) ≡ without (b ++ a) l
    twice a b l = without_twice a b l ∙ filter_same (λ x. not (mem x (a ++ b))) (λ x. not (mem x (b ++ a))) (λ x. rw (mem_append x a b, mem_append x b a) (bothways (mem x a) (mem x b))) l
      where
        bothways : (m n : Bool) → not (m || n) ≡ not (n || m)
        bothways true true = refl
        bothways true false = refl
        bothways false true = refl
        bothways false false = refl

-- the free variables of a prenex form
pub gather_free : (p : Prefix) (m : Formula) → no_block m ≡ true
    → gather (λ t. t) (binders p) [] (code m) ≡ map var_token (take most (free (close p m)))
gather_free p m n =
    let e : collect (binders p) [] (names (code m)) ≡ free (close p m) =
    brings (binders p) m n [] ∙ rw (append-nil (binders p)) (sym (free_close p m)) in
    gather_is (binders p) [] (code m) ∙ ap (λ (l : List Name). map var_token (take most l)) e
