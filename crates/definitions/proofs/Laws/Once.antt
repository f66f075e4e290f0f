-- The free variables stand each once. A prenex formula without iff is its own prenex form, so that the Rust's restart at each block changes nothing.
use Rattle.std.specs.Prelude.{◌≡◌, refl, Bool, true, false, not, ◌&&◌, ◌||◌, List, [], ◌∷◌, ◌++◌}
use Rattle.std.proofs.Common.{sym, ◌∙◌, ap}
use Rattle.std.proofs.Math.Bool.{and-false}
use Rattle.definitions.specs.Bytes.{same}
use Rattle.definitions.specs.Syntax.{Formula, Name, Term, Terms, and, app, bin, blk, bot, con, cons, eq, iff, imp, neg, nil, or, pred, top, var}
use Rattle.definitions.specs.Names.{filter, free, mem, term_vars, terms_vars, union, without}
use Rattle.definitions.specs.Prenex.{Prefix, add, close, flips, more, outward, plain, pull, pull_right}
use Rattle.definitions.proofs.Laws.Bools.{and_true_left, and_true_right, by_cases, clash, or_left, or_right}
use Rattle.definitions.proofs.Laws.Sets.{mem_append, mem_filter, same_refl}
use Rattle.definitions.specs.Laws.Once.{flat, once}

pub once_filter : (p : Name → Bool) (l : List Name) → once l ≡ true → once (filter p l) ≡ true
unfolding once filter
once_filter p [] h = refl
once_filter p (x ∷ l) h =
    let r = once_filter p l (and_true_right (not (mem x l)) (once l) h) in
    by_cases (p x)
    (λ t. rw (t, mem_filter x p l) (rw (out (mem x l) (and_true_left (not (mem x l)) (once l) h)) r))
    (λ f. rw f r)
  where
    out : (b : Bool) → not b ≡ true → b ≡ false
    out true e = sym e
    out false e = refl

once_append : (a c : List Name) → once a ≡ true → once c ≡ true → ((x : Name) → mem x a ≡ true → mem x c ≡ false) → once (a ++ c) ≡ true
unfolding once mem
once_append [] c h k d = k
once_append (x ∷ a) c h k d =
    rw (mem_append x a c, d x (or_left (same x x) (mem x a) (same_refl x)), once_append a c (and_true_right (not (mem x a)) (once a) h) k (λ y m. d y (or_right (same y x) (mem y a) m)))
    (and_nil (mem x a) (and_true_left (not (mem x a)) (once a) h))
  where
    and_nil : (b : Bool) → not b ≡ true → (not (b || false) && true) ≡ true
    and_nil true e = e
    and_nil false e = refl

once_union : (a b : List Name) → once a ≡ true → once b ≡ true → once (union a b) ≡ true
once_union a b h k =
    once_append a (without a b) h (once_filter (λ y. not (mem y a)) b k) (λ x m. mem_filter x (λ y. not (mem y a)) b ∙ rw m (and-false (mem x b)))

mutual
  unfolding term_vars terms_vars once mem

  once_term : (t : Term) → once (term_vars t) ≡ true
  once_term (var x) = refl
  once_term (con c) = refl
  once_term (app f ts) = once_terms ts

  once_terms : (ts : Terms) → once (terms_vars ts) ≡ true
  once_terms nil = refl
  once_terms (cons t ts) = once_union (term_vars t) (terms_vars ts) (once_term t) (once_terms ts)

pub free_once : (f : Formula) → once (free f) ≡ true
unfolding free once
free_once top = refl
free_once bot = refl
free_once (pred p ts) = once_terms ts
free_once (eq t u) = once_union (term_vars t) (term_vars u) (once_term t) (once_term u)
free_once (neg f) = free_once f
free_once (bin o f g) = once_union (free f) (free g) (free_once f) (free_once g)
free_once (blk q vs f) = once_filter (λ y. not (mem y vs)) (free f) (free_once f)

outward_flat : (f : Formula) → flat f ≡ true → outward f ≡ record { prefix = plain; matrix = f }
unfolding flat outward pull pull_right flips
outward_flat top e = refl
outward_flat bot e = refl
outward_flat (pred p ts) e = refl
outward_flat (eq t u) e = refl
outward_flat (neg f) e = rw (outward_flat f e)
outward_flat (bin and f g) e = rw (outward_flat f (and_true_left (flat f) (flat g) e), outward_flat g (and_true_right (flat f) (flat g) e))
outward_flat (bin or f g) e = rw (outward_flat f (and_true_left (flat f) (flat g) e), outward_flat g (and_true_right (flat f) (flat g) e))
outward_flat (bin imp f g) e = rw (outward_flat f (and_true_left (flat f) (flat g) e), outward_flat g (and_true_right (flat f) (flat g) e))
outward_flat (bin iff f g) e = clash e refl
outward_flat (blk q vs f) e = clash e refl

pub outward_fixed : (p : Prefix) (m : Formula) → flat m ≡ true → outward (close p m) ≡ record { prefix = p; matrix = m }
unfolding outward close
outward_fixed plain m e = outward_flat m e
outward_fixed (more q vs p) m e = ap (add q vs) (outward_fixed p m e)
