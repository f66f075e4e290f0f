-- Lists of names joined as sets: nothing, one after another, and a filter behind a filter.
use Rattle.std.specs.Prelude.{◌≡◌, refl, Bool, true, false, not, ◌&&◌, ◌||◌, List, [], ◌∷◌, ◌++◌}
use Rattle.std.proofs.Common.{sym, ap, ◌∙◌, append_assoc, append-nil}
use Rattle.std.proofs.Math.Bool.{and_comm}
use Rattle.definitions.specs.Syntax.{Name}
use Rattle.definitions.specs.Names.{mem, filter, union, without, keep}
use Rattle.definitions.proofs.Laws.Bools.{by_cases}
use Rattle.definitions.proofs.Laws.Sets.{mem_append, mem_filter}

pub filter_all : (p : Name → Bool) (l : List Name) → ((x : Name) → p x ≡ true) → filter p l ≡ l
unfolding filter
filter_all p [] h = refl
filter_all p (x ∷ l) h = rw (h x, filter_all p l h)

pub filter_like : (p q : Name → Bool) (l : List Name) → ((x : Name) → p x ≡ q x) → filter p l ≡ filter q l
unfolding filter
filter_like p q [] h = refl
filter_like p q (x ∷ l) h = rw (h x, filter_like p q l h)

pub filter_append : (p : Name → Bool) (a b : List Name) → filter p (a ++ b) ≡ filter p a ++ filter p b
unfolding filter
filter_append p [] b = refl
filter_append p (x ∷ a) b = by_cases (p x) (λ t. rw (t, filter_append p a b)) (λ f. rw (f, filter_append p a b))

pub filter_both : (p q : Name → Bool) (l : List Name) → filter q (filter p l) ≡ filter (λ x. p x && q x) l
unfolding filter
filter_both p q [] = refl
filter_both p q (x ∷ l) = by_cases (p x) (λ t. rw (t, filter_both p q l)) (λ f. rw (f, filter_both p q l))

-- names sifted in either order
pub filter_swap : (p q : Name → Bool) (l : List Name) → filter p (filter q l) ≡ filter q (filter p l)
filter_swap p q l = filter_both q p l ∙ filter_like _ _ l (λ x. and_comm (q x) (p x)) ∙ sym (filter_both p q l)

-- nothing before a list, and nothing behind it
pub union_nothing : (l : List Name) → union [] l ≡ l
unfolding mem
union_nothing l = filter_all (λ x. not (mem x [])) l (λ x. refl)

pub nothing_union : (l : List Name) → union l [] ≡ l
unfolding filter
nothing_union l = append-nil l

pub union_assoc : (l a b : List Name) → union (union l a) b ≡ union l (union a b)
union_assoc l a b =
    append_assoc l (without l a) (without (union l a) b)
    ∙ ap (λ (c : List Name). l ++ c) (ap (λ (c : List Name). without l a ++ c) (filter_like _ _ b tests ∙ sym (filter_both (λ x. not (mem x a)) (λ x. not (mem x l)) b))
    ∙ sym (filter_append (λ x. not (mem x l)) a (without a b)))
  where
    go : (m n : Bool) → not (m || n && not m) ≡ (not n && not m)
    go true true = refl
    go true false = refl
    go false true = refl
    go false false = refl

    tests : (x : Name) → not (mem x (union l a)) ≡ (not (mem x a) && not (mem x l))
    tests x = rw (mem_append x l (without l a), mem_filter x (λ y. not (mem y l)) a) (go (mem x l) (mem x a))

-- of two lists joined, those that are asked for
pub keep_union : (v a b : List Name) → keep v (union a b) ≡ union (keep v a) (keep v b)
keep_union v a b =
    filter_append (λ x. mem x v) a (without a b)
    ∙ ap (λ (c : List Name). keep v a ++ c) (filter_both (λ x. not (mem x a)) (λ x. mem x v) b ∙ filter_like _ _ b tests ∙ sym (filter_both (λ x. mem x v) (λ x. not (mem x (keep v a))) b))
  where
    go : (m n : Bool) → (not m && n) ≡ (n && not (m && n))
    go true true = refl
    go true false = refl
    go false true = refl
    go false false = refl

    tests : (x : Name) → (not (mem x a) && mem x v) ≡ (mem x v && not (mem x (keep v a)))
    tests x = rw (mem_filter x (λ y. mem y v) a) (go (mem x a) (mem x v))
