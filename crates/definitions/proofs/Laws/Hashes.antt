-- A symbol that a rule lacks, its simplified and its prenex form lack too; so a rule without `#` has none of the names that are drawn.
use Rattle.std.specs.Prelude.{◌≡◌, Bool, true, false, not, cond}
use Rattle.std.proofs.Math.Path.{refl}
use Rattle.std.proofs.Common.{sym, ◌∙◌, ap}
use mathlib.Core.List.{List, [], ◌∷◌, ◌++◌}
use Rattle.definitions.specs.Bytes.{same}
use Rattle.definitions.specs.Syntax.{Formula, Name, Op, Quant, and, bin, blk, bot, eq, iff, imp, neg, or, pred, top}
use Rattle.definitions.specs.Names.{Sort, constants, free, functions, keep, mem, syms, term_syms}
use Rattle.definitions.specs.Truth.{every}
use Rattle.definitions.specs.Simplify.{is_bot, is_top, over_kept, simplify, tidy, turn}
use Rattle.definitions.specs.Prenex.{Prefix, Prenex, Subst, apart, as_subst, close, formula, merge, more, outward, plain, pnf, pull, pull_right, shade, shades, sub}
use Rattle.definitions.specs.Skolem.{Counts, constant_name, function_name, holds_hash, hash_free}
use Rattle.definitions.proofs.Laws.Bools.{and_true_left, and_true_right, by_cases, clash, or_false_left, or_false_right}
use Rattle.definitions.proofs.Laws.Sets.{mem_append, same_eq}
use Rattle.definitions.proofs.Laws.Symbols.{sub_syms}
use Rattle.definitions.specs.Laws.OneBlock.{New}

module _ (k : Sort) (n : Name) where
  abbrev Lacks : Formula → Type 0
  Lacks f = mem n (syms k f) ≡ false

  lacks_both : (a b : List Name) → mem n a ≡ false → mem n b ≡ false → mem n (a ++ b) ≡ false
  lacks_both a b p q = mem_append n a b ∙ rw (p, q)

  lacks_left : (a b : List Name) → mem n (a ++ b) ≡ false → mem n a ≡ false
  lacks_left a b p = or_false_left (mem n a) (mem n b) (sym (mem_append n a b) ∙ p)

  lacks_right : (a b : List Name) → mem n (a ++ b) ≡ false → mem n b ≡ false
  lacks_right a b p = or_false_right (mem n a) (mem n b) (sym (mem_append n a b) ∙ p)

  turn_lacks : (f : Formula) → Lacks f → Lacks (turn f)
  unfolding turn syms mem
  turn_lacks top h = refl
  turn_lacks bot h = refl
  turn_lacks (pred p ts) h = h
  turn_lacks (eq t u) h = h
  turn_lacks (neg f) h = h
  turn_lacks (bin o f g) h = h
  turn_lacks (blk q vs f) h = h

  pick_lacks : (b : Bool) (f g : Formula) → Lacks f → Lacks g → Lacks (cond b f g)
  pick_lacks true f g p q = p
  pick_lacks false f g p q = q

  tidy_lacks : (o : Op) (f g : Formula) → Lacks f → Lacks g → Lacks (tidy o f g)
  unfolding tidy syms mem
  tidy_lacks and f g p q =
      pick_lacks (is_bot f) _ _ refl (pick_lacks (is_bot g) _ _ refl (pick_lacks (is_top f) _ _ q (pick_lacks (is_top g) _ _ p (lacks_both (syms k f) (syms k g) p q))))
  tidy_lacks or f g p q =
      pick_lacks (is_top f) _ _ refl (pick_lacks (is_top g) _ _ refl (pick_lacks (is_bot f) _ _ q (pick_lacks (is_bot g) _ _ p (lacks_both (syms k f) (syms k g) p q))))
  tidy_lacks imp f g p q =
      pick_lacks (is_bot f) _ _ refl (pick_lacks (is_top g) _ _ refl (pick_lacks (is_top f) _ _ q (pick_lacks (is_bot g) _ _ (turn_lacks f p) (lacks_both (syms k f) (syms k g) p q))))
  tidy_lacks iff f g p q =
      pick_lacks (is_top f) _ _ q (pick_lacks (is_top g) _ _ p (pick_lacks (is_bot f) _ _ (turn_lacks g q) (pick_lacks (is_bot g) _ _ (turn_lacks f p) (lacks_both (syms k f) (syms k g) p q))))

  kept_lacks : (q : Quant) (vs : List Name) (f : Formula) → Lacks f → Lacks (over_kept q vs f)
  unfolding over_kept syms
  kept_lacks q [] f h = h
  kept_lacks q (x ∷ vs) f h = h

  simplify_lacks : (f : Formula) → Lacks f → Lacks (simplify f)
  unfolding simplify syms
  simplify_lacks top h = h
  simplify_lacks bot h = h
  simplify_lacks (pred p ts) h = h
  simplify_lacks (eq t u) h = h
  simplify_lacks (neg f) h = turn_lacks (simplify f) (simplify_lacks f h)
  simplify_lacks (bin o f g) h =
      tidy_lacks o (simplify f) (simplify g) (simplify_lacks f (lacks_left (syms k f) (syms k g) h)) (simplify_lacks g (lacks_right (syms k f) (syms k g) h))
  simplify_lacks (blk q vs f) h = kept_lacks q (keep vs (free (simplify f))) (simplify f) (simplify_lacks f h)

  shades_lacks : (p : Prefix) (s : Subst) → ((y : Name) → mem n (term_syms k (s y)) ≡ false) → (y : Name) → mem n (term_syms k (shades p s y)) ≡ false
  unfolding shades term_syms mem
  shades_lacks plain s h y = h y
  shades_lacks (more q vs p) s h y = shades_lacks p (shade vs s) (λ z. by_cases (mem z vs) (λ t. rw t) (λ e. rw e (h z))) y

  right_lacks : (o : Op) (m : Formula) (p : Prefix) (m' : Formula) → Lacks m → Lacks m' → Lacks (pull_right o m p m').matrix
  unfolding pull_right syms term_syms mem
  right_lacks o m plain m' a b = lacks_both (syms k m) (syms k m') a b
  right_lacks o m (more q vs p) m' a b =
      right_lacks o m p (sub (shades p (as_subst (apart vs (close p m') m))) m') a
      (sub_syms k n m' (shades p (as_subst (apart vs (close p m') m))) b (shades_lacks p (as_subst (apart vs (close p m') m)) (λ y. refl)))

  pull_lacks : (o : Op) (p : Prefix) (m : Formula) (p' : Prefix) (m' : Formula) → Lacks m → Lacks m' → Lacks (pull o p m p' m').matrix
  unfolding pull syms term_syms mem
  pull_lacks o plain m p' m' a b = right_lacks o m p' m' a b
  pull_lacks o (more q vs p) m p' m' a b =
      pull_lacks o p (sub (shades p (as_subst (apart vs (close p m) (close p' m')))) m) p' m'
      (sub_syms k n m (shades p (as_subst (apart vs (close p m) (close p' m')))) a (shades_lacks p (as_subst (apart vs (close p m) (close p' m'))) (λ y. refl))) b

  merge_lacks : (o : Op) (a b : Prenex) → Lacks a.matrix → Lacks b.matrix → Lacks (merge o a b).matrix
  merge_lacks o a b p q = pull_lacks o a.prefix a.matrix b.prefix b.matrix p q

  outward_lacks : (f : Formula) → Lacks f → Lacks (outward f).matrix
  unfolding outward syms
  outward_lacks top h = h
  outward_lacks bot h = h
  outward_lacks (pred p ts) h = h
  outward_lacks (eq t u) h = h
  outward_lacks (neg f) h = outward_lacks f h
  outward_lacks (bin and f g) h =
      merge_lacks and (outward f) (outward g) (outward_lacks f (lacks_left (syms k f) (syms k g) h)) (outward_lacks g (lacks_right (syms k f) (syms k g) h))
  outward_lacks (bin or f g) h =
      merge_lacks or (outward f) (outward g) (outward_lacks f (lacks_left (syms k f) (syms k g) h)) (outward_lacks g (lacks_right (syms k f) (syms k g) h))
  outward_lacks (bin imp f g) h =
      merge_lacks imp (outward f) (outward g) (outward_lacks f (lacks_left (syms k f) (syms k g) h)) (outward_lacks g (lacks_right (syms k f) (syms k g) h))
  outward_lacks (bin iff f g) h =
      merge_lacks and (merge imp (outward f) (outward g)) (merge imp (outward g) (outward f))
      (merge_lacks imp (outward f) (outward g) (outward_lacks f (lacks_left (syms k f) (syms k g) h)) (outward_lacks g (lacks_right (syms k f) (syms k g) h)))
      (merge_lacks imp (outward g) (outward f) (outward_lacks g (lacks_right (syms k f) (syms k g) h)) (outward_lacks f (lacks_left (syms k f) (syms k g) h)))
  outward_lacks (blk q vs f) h = outward_lacks f h

  close_lacks : (p : Prefix) (m : Formula) → Lacks m → Lacks (close p m)
  unfolding close syms
  close_lacks plain m h = h
  close_lacks (more q vs p) m h = close_lacks p m h

  pub pnf_lacks : (f : Formula) → Lacks f → Lacks (formula (pnf f))
  unfolding pnf
  pnf_lacks f h = close_lacks (outward (simplify f)).prefix (outward (simplify f)).matrix (outward_lacks (simplify f) (simplify_lacks f h))

hash_out : (l : List Name) (n : Name) → every (λ m. not (holds_hash m)) l ≡ true → holds_hash n ≡ true → mem n l ≡ false
unfolding every mem
hash_out [] n e h = refl
hash_out (m ∷ l) n e h =
    by_cases (same n m)
    (λ t. clash (and_true_left (not (holds_hash m)) (every (λ m. not (holds_hash m)) l) e) (ap (λ z. not (holds_hash z)) (sym (same_eq n m t)) ∙ ap not h))
    (λ f. rw f (hash_out l n (and_true_right (not (holds_hash m)) (every (λ m. not (holds_hash m)) l) e) h))

-- a formula without `#` has no symbol that may be drawn, from any counts on
pub hash_free_new : (f : Formula) (k : Counts) → hash_free f ≡ true → New k f
unfolding hash_free New holds_hash
hash_free_new f k e = (
  (λ j l. hash_out (syms constants f) (constant_name j)
      (and_true_left (every (λ n. not (holds_hash n)) (syms constants f)) (every (λ n. not (holds_hash n)) (syms functions f)) e) refl),
  (λ j l. hash_out (syms functions f) (function_name j)
      (and_true_right (every (λ n. not (holds_hash n)) (syms constants f)) (every (λ n. not (holds_hash n)) (syms functions f)) e) refl),
)

pub pnf_new : (f : Formula) (k : Counts) → hash_free f ≡ true → New k (formula (pnf f))
unfolding New
pnf_new f k e =
    let new = hash_free_new f k e in
    ((λ j l. pnf_lacks constants (constant_name j) f (new.0 j l)), (λ j l. pnf_lacks functions (function_name j) f (new.1 j l)))
