-- Simplifying keeps the truth value.
use Rattle.std.specs.Prelude.{◌≡◌, Bool, true, false, cond}
use Rattle.std.proofs.Math.Path.{refl, sym, ap, ap₂, fun_ext}
use Rattle.std.proofs.Common.{◌∙◌}
use Rattle.std.proofs.Math.Bool.{not, not-not, and-true, and-false, or-true, or-false}
use Rattle.std.specs.Bool.{beq}
use mathlib.Core.List.{List, [], ◌∷◌}
use Rattle.definitions.specs.Syntax.{Formula, Name, Op, Quant, and, bin, blk, bot, eq, iff, imp, neg, or, pred, top}
use Rattle.definitions.specs.Names.{free, keep, mem}
use Rattle.definitions.specs.Truth.{Assign, Domain, Meaning, block, join, truth}
use Rattle.definitions.specs.Simplify.{is_bot, is_top, over_kept, simplify, tidy, turn}
use Rattle.definitions.proofs.Laws.Bools.{clash}
use Rattle.definitions.proofs.Laws.Sets.{mem_filter}
use Rattle.definitions.proofs.Laws.Free.{block_reads, truth_agree}

true_iff : (b : Bool) → beq true b ≡ b
true_iff true = refl
true_iff false = refl

iff_true : (b : Bool) → beq b true ≡ b
iff_true true = refl
iff_true false = refl

false_iff : (b : Bool) → beq false b ≡ not b
false_iff true = refl
false_iff false = refl

iff_false : (b : Bool) → beq b false ≡ not b
iff_false true = refl
iff_false false = refl

module _ (D : Domain) (M : Meaning D) where
  top_true : (f : Formula) (ρ : Assign D) → is_top f ≡ true → truth D M f ρ ≡ true
  unfolding is_top truth
  top_true top ρ e = refl
  top_true bot ρ e = clash e refl
  top_true (pred p ts) ρ e = clash e refl
  top_true (eq t u) ρ e = clash e refl
  top_true (neg f) ρ e = clash e refl
  top_true (bin o f g) ρ e = clash e refl
  top_true (blk q vs f) ρ e = clash e refl

  bot_false : (f : Formula) (ρ : Assign D) → is_bot f ≡ true → truth D M f ρ ≡ false
  unfolding is_bot truth
  bot_false top ρ e = clash e refl
  bot_false bot ρ e = refl
  bot_false (pred p ts) ρ e = clash e refl
  bot_false (eq t u) ρ e = clash e refl
  bot_false (neg f) ρ e = clash e refl
  bot_false (bin o f g) ρ e = clash e refl
  bot_false (blk q vs f) ρ e = clash e refl

  turn_truth : (f : Formula) (ρ : Assign D) → truth D M (turn f) ρ ≡ not (truth D M f ρ)
  unfolding turn truth
  turn_truth top ρ = refl
  turn_truth bot ρ = refl
  turn_truth (pred p ts) ρ = refl
  turn_truth (eq t u) ρ = refl
  turn_truth (neg f) ρ = sym (not-not (truth D M f ρ))
  turn_truth (bin o f g) ρ = refl
  turn_truth (blk q vs f) ρ = refl

  -- a choice by a test keeps a truth value that both branches keep
  pick : (b : Bool) (f g : Formula) (ρ : Assign D) (v : Bool) → (b ≡ true → truth D M f ρ ≡ v) → (b ≡ false → truth D M g ρ ≡ v)
      → truth D M (cond b f g) ρ ≡ v
  pick true f g ρ v yes' no' = yes' refl
  pick false f g ρ v yes' no' = no' refl

  tidy_truth : (o : Op) (f g : Formula) (ρ : Assign D) → truth D M (tidy o f g) ρ ≡ join o (truth D M f ρ) (truth D M g ρ)
  unfolding tidy truth
  tidy_truth and f g ρ =
      pick (is_bot f) _ _ ρ _ (λ t. rw (bot_false f ρ t)) (λ _.
      pick (is_bot g) _ _ ρ _ (λ t. rw (bot_false g ρ t) (sym (and-false (truth D M f ρ)))) (λ _.
      pick (is_top f) _ _ ρ _ (λ t. rw (top_true f ρ t)) (λ _.
      pick (is_top g) _ _ ρ _ (λ t. rw (top_true g ρ t) (sym (and-true (truth D M f ρ)))) (λ _. refl))))
  tidy_truth or f g ρ =
      pick (is_top f) _ _ ρ _ (λ t. rw (top_true f ρ t)) (λ _.
      pick (is_top g) _ _ ρ _ (λ t. rw (top_true g ρ t) (sym (or-true (truth D M f ρ)))) (λ _.
      pick (is_bot f) _ _ ρ _ (λ t. rw (bot_false f ρ t)) (λ _.
      pick (is_bot g) _ _ ρ _ (λ t. rw (bot_false g ρ t) (sym (or-false (truth D M f ρ)))) (λ _. refl))))
  tidy_truth imp f g ρ =
      pick (is_bot f) _ _ ρ _ (λ t. rw (bot_false f ρ t)) (λ _.
      pick (is_top g) _ _ ρ _ (λ t. rw (top_true g ρ t) (sym (or-true (not (truth D M f ρ))))) (λ _.
      pick (is_top f) _ _ ρ _ (λ t. rw (top_true f ρ t)) (λ _.
      pick (is_bot g) _ _ ρ _ (λ t. rw (bot_false g ρ t) (turn_truth f ρ ∙ sym (or-false (not (truth D M f ρ))))) (λ _. refl))))
  tidy_truth iff f g ρ =
      pick (is_top f) _ _ ρ _ (λ t. rw (top_true f ρ t) (sym (true_iff (truth D M g ρ)))) (λ _.
      pick (is_top g) _ _ ρ _ (λ t. rw (top_true g ρ t) (sym (iff_true (truth D M f ρ)))) (λ _.
      pick (is_bot f) _ _ ρ _ (λ t. rw (bot_false f ρ t) (turn_truth g ρ ∙ sym (false_iff (truth D M g ρ)))) (λ _.
      pick (is_bot g) _ _ ρ _ (λ t. rw (bot_false g ρ t) (turn_truth f ρ ∙ sym (iff_false (truth D M f ρ)))) (λ _. refl))))

  kept_truth : (q : Quant) (vs : List Name) (f : Formula) (ρ : Assign D) → truth D M (over_kept q vs f) ρ ≡ block D q vs (truth D M f) ρ
  unfolding over_kept truth block
  kept_truth q [] f ρ = refl
  kept_truth q (x ∷ vs) f ρ = refl

  pub simplify_truth : (f : Formula) (ρ : Assign D) → truth D M (simplify f) ρ ≡ truth D M f ρ
  unfolding simplify truth
  simplify_truth top ρ = refl
  simplify_truth bot ρ = refl
  simplify_truth (pred p ts) ρ = refl
  simplify_truth (eq t u) ρ = refl
  simplify_truth (neg f) ρ = turn_truth (simplify f) ρ ∙ ap not (simplify_truth f ρ)
  simplify_truth (bin o f g) ρ = tidy_truth o (simplify f) (simplify g) ρ ∙ ap₂ (join o) (simplify_truth f ρ) (simplify_truth g ρ)
  simplify_truth (blk q vs f) ρ =
      kept_truth q (keep vs (free (simplify f))) (simplify f) ρ
      ∙ block_reads D q (keep vs (free (simplify f))) vs (free (simplify f)) (truth D M (simplify f)) ρ ρ (truth_agree D M (simplify f))
      (λ x m. mem_filter x (λ y. mem y vs) (free (simplify f)) ∙ rw m) (λ x m n. refl)
      ∙ ap (λ k. block D q vs k ρ) (fun_ext (λ σ. simplify_truth f σ))
