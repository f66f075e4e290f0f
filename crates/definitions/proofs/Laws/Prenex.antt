-- The prenex form keeps the truth value, and its matrix has no block.
use Rattle.std.specs.Prelude.{◌≡◌, Bool, true, false, ◌&&◌, ◌||◌, List, ◌++◌}
use Rattle.std.proofs.Math.Path.{refl, sym, ap, ap₂, fun_ext}
use Rattle.std.proofs.Common.{◌∙◌}
use Rattle.std.proofs.Math.Bool.{not, and-true, and-false, or-true, or-false}
use Rattle.std.specs.Bool.{beq}
use Rattle.definitions.specs.Syntax.{Formula, Name, Op, Quant, and, bin, blk, bot, eq, iff, imp, neg, or, pred, top, var}
use Rattle.definitions.specs.Names.{bound, free, mem}
use Rattle.definitions.specs.Truth.{Assign, Domain, Meaning, block, join, truth, val}
use Rattle.definitions.specs.Simplify.{simplify}
use Rattle.definitions.specs.Negation.{flip}
use Rattle.definitions.specs.Prenex.{Pairs, Prefix, Prenex, Subst, apart, as_subst, close, flips, formula, merge, more, news, no_block, outward, plain, pnf, premise, pull, pull_right, shade, shades, sub, taken_names, to}
use Rattle.definitions.proofs.Laws.Bools.{by_cases, clash, or_left, or_right}
use Rattle.definitions.proofs.Laws.Sets.{mem_append}
use Rattle.definitions.specs.Laws.Blocks.{Off}
use Rattle.definitions.proofs.Laws.Blocks.{block_const, block_not, block_same}
use Rattle.definitions.proofs.Laws.Free.{truth_agree}
use Rattle.definitions.specs.Laws.Substitution.{Clear}
use Rattle.definitions.proofs.Laws.Substitution.{mem_var, sub_truth}
use Rattle.definitions.proofs.Laws.Simplify.{simplify_truth}
use Rattle.definitions.specs.Laws.Fresh.{In}
use Rattle.definitions.proofs.Laws.Fresh.{news_away, renames_same, to_clear}

abbrev is_iff : Op → Bool
is_iff and = false
is_iff or = false
is_iff imp = false
is_iff iff = true

iff_two : (a b : Bool) → ((not a || b) && (not b || a)) ≡ beq a b
iff_two true true = refl
iff_two true false = refl
iff_two false true = refl
iff_two false false = refl

pub sub_close : (p : Prefix) (s : Subst) (m : Formula) → close p (sub (shades p s) m) ≡ sub s (close p m)
unfolding close shades sub
sub_close plain s m = refl
sub_close (more q vs p) s m = ap (blk q vs) (sub_close p (shade vs s) m)

within_first : (a b : List Name) → In a (a ++ b)
within_first a b x m = mem_append x a b ∙ or_left (mem x a) (mem x b) m

within_second : (a b c : List Name) → In b c → In b (a ++ c)
within_second a b c i x m = mem_append x a c ∙ or_right (mem x a) (mem x c) (i x m)

in_left : (a b c : List Name) → In a b → In a (b ++ c)
in_left a b c i x m = mem_append x b c ∙ or_left (mem x b) (mem x c) (i x m)

module _ (vs : List Name) (f g : Formula) where
  has_bound : In (bound f) (taken_names vs f g)
  has_bound = within_second vs (bound f) _ (in_left (bound f) (bound f ++ free f) _ (within_first (bound f) (free f)))

  has_free : In (free f) (taken_names vs f g)
  has_free = within_second vs (free f) _ (in_left (free f) (bound f ++ free f) _ (within_second (bound f) (free f) (free f) (λ x m. m)))

  has_other : In (free g) (taken_names vs f g)
  has_other = within_second vs (free g) _ (within_second (bound f ++ free f) (free g) _ (within_second (bound g) (free g) (free g) (λ x m. m)))

  apart_clear : Clear (as_subst (apart vs f g)) (bound f)
  apart_clear x y m n =
      ap var (to_clear vs (free g) (taken_names vs f g) x (ap (λ z. mem z (taken_names vs f g)) (sym (mem_var (to (apart vs f g) x) y m)) ∙ has_bound y n))

module _ (D : Domain) (M : Meaning D) where
  -- the block with its variables renamed
  apart_same : (q : Quant) (vs : List Name) (f g : Formula) (ρ : Assign D)
      → block D q (news (apart vs f g)) (truth D M (sub (as_subst (apart vs f g)) f)) ρ ≡ block D q vs (truth D M f) ρ
  unfolding val
  apart_same q vs f g ρ =
      ap (λ k. block D q (news (apart vs f g)) k ρ) (fun_ext (λ σ. sub_truth D M f (as_subst (apart vs f g)) σ (apart_clear vs f g)))
      ∙ renames_same D q vs (free g) (taken_names vs f g) (free f) (truth D M f) ρ (truth_agree D M f) (within_first vs _) (has_free vs f g)

  -- the other side does not vary under the block
  other_same : (q : Quant) (ws : List Name) (h : Bool → Bool → Bool) (k : Assign D → Bool) (g : Formula) (ρ : Assign D)
      → ((y : Name) → mem y ws ≡ true → mem y (free g) ≡ false)
      → block D q ws (λ σ. h (k σ) (truth D M g σ)) ρ ≡ block D q ws (λ σ. h (k σ) (truth D M g ρ)) ρ
  other_same q ws h k g ρ away =
      block_same D q ws ws (λ σ. h (k σ) (truth D M g σ)) (λ σ. h (k σ) (truth D M g ρ)) ρ ρ
      (λ σ off. (σ, off, ap (h (k σ)) (at σ off))) (λ σ off. (σ, off, ap (h (k σ)) (sym (at σ off))))
    where
      at : (σ : Assign D) → Off D ws σ ρ → truth D M g ρ ≡ truth D M g σ
      at σ off = truth_agree D M g ρ σ (λ x m. sym (off x (by_cases (mem x ws) (λ t. clash m (away x t)) (λ n. n))))

  left_over : (o : Op) (q : Quant) (ws : List Name) (k : Assign D → Bool) (c : Bool) (ρ : Assign D) → is_iff o ≡ false
      → block D (premise o q) ws (λ σ. join o (k σ) c) ρ ≡ join o (block D q ws k ρ) c
  left_over and q ws k true ρ e = ap (λ k. block D q ws k ρ) (fun_ext (λ σ. and-true (k σ))) ∙ sym (and-true (block D q ws k ρ))
  left_over and q ws k false ρ e =
      ap (λ k. block D q ws k ρ) (fun_ext (λ σ. and-false (k σ))) ∙ block_const D q ws false ρ ∙ sym (and-false (block D q ws k ρ))
  left_over or q ws k true ρ e =
      ap (λ k. block D q ws k ρ) (fun_ext (λ σ. or-true (k σ))) ∙ block_const D q ws true ρ ∙ sym (or-true (block D q ws k ρ))
  left_over or q ws k false ρ e = ap (λ k. block D q ws k ρ) (fun_ext (λ σ. or-false (k σ))) ∙ sym (or-false (block D q ws k ρ))
  left_over imp q ws k true ρ e =
      ap (λ k. block D (flip q) ws k ρ) (fun_ext (λ σ. or-true (not (k σ)))) ∙ block_const D (flip q) ws true ρ ∙ sym (or-true (not (block D q ws k ρ)))
  left_over imp q ws k false ρ e =
      ap (λ k. block D (flip q) ws k ρ) (fun_ext (λ σ. or-false (not (k σ)))) ∙ sym (block_not D q ws k ρ) ∙ sym (or-false (not (block D q ws k ρ)))
  left_over iff q ws k c ρ e = clash refl e

  right_over : (o : Op) (q : Quant) (ws : List Name) (k : Assign D → Bool) (c : Bool) (ρ : Assign D) → is_iff o ≡ false
      → block D q ws (λ σ. join o c (k σ)) ρ ≡ join o c (block D q ws k ρ)
  right_over and q ws k true ρ e = refl
  right_over and q ws k false ρ e = block_const D q ws false ρ
  right_over or q ws k true ρ e = block_const D q ws true ρ
  right_over or q ws k false ρ e = refl
  right_over imp q ws k true ρ e = refl
  right_over imp q ws k false ρ e = block_const D q ws true ρ
  right_over iff q ws k c ρ e = clash refl e

  right_truth : (o : Op) (m : Formula) (p : Prefix) (n : Formula) (ρ : Assign D) → is_iff o ≡ false
      → truth D M (formula (pull_right o m p n)) ρ ≡ join o (truth D M m ρ) (truth D M (close p n) ρ)
  unfolding pull_right close truth
  right_truth o m plain n ρ e = refl
  right_truth o m (more q vs p) n ρ e =
      ap (λ k. block D q (news ps) k ρ) (fun_ext (λ σ. right_truth o m p (sub (shades p (as_subst ps)) n) σ e ∙ rw (sub_close p (as_subst ps) n)))
      ∙ other_same q (news ps) (λ a b. join o b a) (truth D M (sub (as_subst ps) (close p n))) m ρ
      (λ y h. news_away vs (free m) (taken_names vs (close p n) m) y (has_other vs (close p n) m) h)
      ∙ right_over o q (news ps) (truth D M (sub (as_subst ps) (close p n))) (truth D M m ρ) ρ e
      ∙ ap (join o (truth D M m ρ)) (apart_same q vs (close p n) m ρ)
    where
      ps : Pairs
      ps = apart vs (close p n) m

  pull_truth : (o : Op) (p' : Prefix) (m : Formula) (p : Prefix) (n : Formula) (ρ : Assign D) → is_iff o ≡ false
      → truth D M (formula (pull o p' m p n)) ρ ≡ join o (truth D M (close p' m) ρ) (truth D M (close p n) ρ)
  unfolding pull close truth
  pull_truth o plain m p n ρ e = right_truth o m p n ρ e
  pull_truth o (more q vs p') m p n ρ e =
      ap (λ k. block D (premise o q) (news ps) k ρ)
      (fun_ext (λ σ. pull_truth o p' (sub (shades p' (as_subst ps)) m) p n σ e ∙ rw (sub_close p' (as_subst ps) m)))
      ∙ other_same (premise o q) (news ps) (join o) (truth D M (sub (as_subst ps) (close p' m))) (close p n) ρ
      (λ y h. news_away vs (free (close p n)) (taken_names vs (close p' m) (close p n)) y (has_other vs (close p' m) (close p n)) h)
      ∙ left_over o q (news ps) (truth D M (sub (as_subst ps) (close p' m))) (truth D M (close p n) ρ) ρ e
      ∙ ap (λ b. join o b (truth D M (close p n) ρ)) (apart_same q vs (close p' m) (close p n) ρ)
    where
      ps : Pairs
      ps = apart vs (close p' m) (close p n)

  pub merge_truth : (o : Op) (a b : Prenex) (ρ : Assign D) → is_iff o ≡ false
      → truth D M (formula (merge o a b)) ρ ≡ join o (truth D M (formula a) ρ) (truth D M (formula b) ρ)
  merge_truth o a b ρ e = pull_truth o a.prefix a.matrix b.prefix b.matrix ρ e

  flips_truth : (p : Prefix) (m : Formula) (ρ : Assign D) → truth D M (close (flips p) (neg m)) ρ ≡ not (truth D M (close p m) ρ)
  unfolding flips close truth
  flips_truth plain m ρ = refl
  flips_truth (more q vs p) m ρ =
      ap (λ k. block D (flip q) vs k ρ) (fun_ext (λ σ. flips_truth p m σ)) ∙ sym (block_not D q vs (truth D M (close p m)) ρ)

  pub outward_truth : (f : Formula) (ρ : Assign D) → truth D M (formula (outward f)) ρ ≡ truth D M f ρ
  unfolding outward close truth
  outward_truth top ρ = refl
  outward_truth bot ρ = refl
  outward_truth (pred p ts) ρ = refl
  outward_truth (eq t u) ρ = refl
  outward_truth (neg f) ρ = flips_truth (outward f).prefix (outward f).matrix ρ ∙ ap not (outward_truth f ρ)
  outward_truth (bin and f g) ρ = merge_truth and (outward f) (outward g) ρ refl ∙ ap₂ (join and) (outward_truth f ρ) (outward_truth g ρ)
  outward_truth (bin or f g) ρ = merge_truth or (outward f) (outward g) ρ refl ∙ ap₂ (join or) (outward_truth f ρ) (outward_truth g ρ)
  outward_truth (bin imp f g) ρ = merge_truth imp (outward f) (outward g) ρ refl ∙ ap₂ (join imp) (outward_truth f ρ) (outward_truth g ρ)
  outward_truth (bin iff f g) ρ =
      merge_truth and (merge imp (outward f) (outward g)) (merge imp (outward g) (outward f)) ρ refl
      ∙ ap₂ (join and)
      (merge_truth imp (outward f) (outward g) ρ refl ∙ ap₂ (join imp) (outward_truth f ρ) (outward_truth g ρ))
      (merge_truth imp (outward g) (outward f) ρ refl ∙ ap₂ (join imp) (outward_truth g ρ) (outward_truth f ρ))
      ∙ iff_two (truth D M f ρ) (truth D M g ρ)
  outward_truth (blk q vs f) ρ = ap (λ k. block D q vs k ρ) (fun_ext (λ σ. outward_truth f σ))

  pub pnf_truth : (f : Formula) (ρ : Assign D) → truth D M (formula (pnf f)) ρ ≡ truth D M f ρ
  unfolding pnf
  pnf_truth f ρ = outward_truth (simplify f) ρ ∙ simplify_truth D M f ρ

pub sub_no_block : (s : Subst) (f : Formula) → no_block (sub s f) ≡ no_block f
unfolding no_block sub
sub_no_block s top = refl
sub_no_block s bot = refl
sub_no_block s (pred p ts) = refl
sub_no_block s (eq t u) = refl
sub_no_block s (neg f) = sub_no_block s f
sub_no_block s (bin o f g) = ap₂ (◌&&◌) (sub_no_block s f) (sub_no_block s g)
sub_no_block s (blk q vs f) = refl

right_no_block : (o : Op) (m : Formula) (p : Prefix) (n : Formula) → no_block (pull_right o m p n).matrix ≡ (no_block m && no_block n)
unfolding no_block pull_right
right_no_block o m plain n = refl
right_no_block o m (more q vs p) n =
    right_no_block o m p (sub (shades p (as_subst (apart vs (close p n) m))) n)
    ∙ rw (sub_no_block (shades p (as_subst (apart vs (close p n) m))) n)

pull_no_block : (o : Op) (p' : Prefix) (m : Formula) (p : Prefix) (n : Formula) → no_block (pull o p' m p n).matrix ≡ (no_block m && no_block n)
unfolding no_block pull
pull_no_block o plain m p n = right_no_block o m p n
pull_no_block o (more q vs p') m p n =
    pull_no_block o p' (sub (shades p' (as_subst (apart vs (close p' m) (close p n)))) m) p n
    ∙ rw (sub_no_block (shades p' (as_subst (apart vs (close p' m) (close p n)))) m)

both : (o : Op) (f g : Formula) → no_block (outward f).matrix ≡ true → no_block (outward g).matrix ≡ true
    → no_block (merge o (outward f) (outward g)).matrix ≡ true
both o f g a b = pull_no_block o (outward f).prefix (outward f).matrix (outward g).prefix (outward g).matrix ∙ rw (a, b)

pub outward_no_block : (f : Formula) → no_block (outward f).matrix ≡ true
unfolding no_block outward
outward_no_block top = refl
outward_no_block bot = refl
outward_no_block (pred p ts) = refl
outward_no_block (eq t u) = refl
outward_no_block (neg f) = outward_no_block f
outward_no_block (bin and f g) = both and f g (outward_no_block f) (outward_no_block g)
outward_no_block (bin or f g) = both or f g (outward_no_block f) (outward_no_block g)
outward_no_block (bin imp f g) = both imp f g (outward_no_block f) (outward_no_block g)
outward_no_block (bin iff f g) =
    pull_no_block and (merge imp (outward f) (outward g)).prefix (merge imp (outward f) (outward g)).matrix
    (merge imp (outward g) (outward f)).prefix (merge imp (outward g) (outward f)).matrix
    ∙ ap₂ (◌&&◌) (both imp f g (outward_no_block f) (outward_no_block g)) (both imp g f (outward_no_block g) (outward_no_block f))
outward_no_block (blk q vs f) = outward_no_block f
