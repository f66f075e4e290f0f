-- What putting terms in for variables does to the truth value, where nothing is captured.
use Rattle.std.specs.Prelude.{◌≡◌, true, false, List, ◌∷◌, ◌++◌}
use Rattle.std.proofs.Math.Path.{refl, sym, ap, ap₂, fun_ext}
use Rattle.std.proofs.Common.{◌∙◌}
use Rattle.std.proofs.Math.Bool.{not, or-false}
use Rattle.definitions.specs.Bytes.{same}
use Rattle.definitions.specs.Syntax.{Formula, Name, Term, Terms, app, bin, blk, bot, con, cons, eq, neg, nil, pred, top, var}
use Rattle.definitions.specs.Names.{bound, mem, term_vars}
use Rattle.definitions.specs.Truth.{Assign, Domain, Meaning, block, join, truth, val, vals}
use Rattle.definitions.specs.Prenex.{Subst, shade, sub, term_sub, terms_sub}
use Rattle.definitions.proofs.Laws.Bools.{by_cases, clash, or_left, or_right}
use Rattle.definitions.proofs.Laws.Sets.{mem_append, same_eq}
use Rattle.definitions.specs.Laws.Blocks.{Off}
use Rattle.definitions.proofs.Laws.Blocks.{block_same}
use Rattle.definitions.specs.Laws.Free.{mix}
use Rattle.definitions.proofs.Laws.Free.{mix_off, val_agree}
use Rattle.definitions.specs.Laws.Substitution.{Clear}

clear_left : (s : Subst) (a b : List Name) → Clear s (a ++ b) → Clear s a
clear_left s a b c x y m n = c x y m (mem_append y a b ∙ or_left (mem y a) (mem y b) n)

clear_right : (s : Subst) (a b : List Name) → Clear s (a ++ b) → Clear s b
clear_right s a b c x y m n = c x y m (mem_append y a b ∙ or_right (mem y a) (mem y b) n)

pub clear_shade : (s : Subst) (vs l : List Name) → Clear s l → Clear (shade vs s) l
clear_shade s vs l c x y m n = by_cases (mem x vs) (λ t. rw t) (λ f. rw f (c x y (rw f at m) n))

pub mem_var : (x y : Name) → mem y (term_vars (var x)) ≡ true → y ≡ x
unfolding mem term_vars
mem_var x y m = same_eq y x (sym (or-false (same y x)) ∙ m)

module _ (D : Domain) (M : Meaning D) where
  mutual
    unfolding val vals term_sub terms_sub

    pub tsub_val : (t : Term) (s : Subst) (ρ : Assign D) → val D M ρ (term_sub s t) ≡ val D M (λ x. val D M ρ (s x)) t
    tsub_val (var x) s ρ = refl
    tsub_val (con c) s ρ = refl
    tsub_val (app f ts) s ρ = ap (M.func f) (tssub_vals ts s ρ)

    pub tssub_vals : (ts : Terms) (s : Subst) (ρ : Assign D) → vals D M ρ (terms_sub s ts) ≡ vals D M (λ x. val D M ρ (s x)) ts
    tssub_vals nil s ρ = refl
    tssub_vals (cons t ts) s ρ = ap₂ (◌∷◌) (tsub_val t s ρ) (tssub_vals ts s ρ)

  -- outside a block that captures nothing, a term's value is what it was
  kept : (s : Subst) (vs : List Name) (τ σ : Assign D) → Clear s vs → Off D vs τ σ → (x : Name) → mem x vs ≡ false
      → val D M τ (s x) ≡ val D M σ (s x)
  kept s vs τ σ c off x n =
      val_agree D M (s x) τ σ (λ y m. by_cases (mem y vs)
      (λ t. clash (ap (λ z. mem z vs) (sym (mem_var x y (ap (λ u. mem y (term_vars u)) (sym (c x y m t)) ∙ m))) ∙ t) n)
      (λ f. off y f))

  pub sub_truth : (f : Formula) (s : Subst) (ρ : Assign D) → Clear s (bound f)
      → truth D M (sub s f) ρ ≡ truth D M f (λ x. val D M ρ (s x))
  unfolding truth sub bound val
  sub_truth top s ρ c = refl
  sub_truth bot s ρ c = refl
  sub_truth (pred p ts) s ρ c = ap (M.rel p) (tssub_vals ts s ρ)
  sub_truth (eq t u) s ρ c = ap₂ D.equal (tsub_val t s ρ) (tsub_val u s ρ)
  sub_truth (neg f) s ρ c = ap not (sub_truth f s ρ c)
  sub_truth (bin o f g) s ρ c =
      ap₂ (join o) (sub_truth f s ρ (clear_left s (bound f) (bound g) c)) (sub_truth g s ρ (clear_right s (bound f) (bound g) c))
  sub_truth (blk q vs f) s ρ c =
      ap (λ k. block D q vs k ρ) (fun_ext (λ τ. sub_truth f (shade vs s) τ (clear_shade s vs (bound f) (clear_right s vs (bound f) c))))
      ∙ block_same D q vs vs (λ τ. truth D M f (λ x. val D M τ (shade vs s x))) (truth D M f) ρ (λ x. val D M ρ (s x))
      (λ τ off. ((λ x. val D M τ (shade vs s x)), (λ x n. rw n (kept s vs τ ρ (clear_left s vs (bound f) c) off x n)), refl))
      (λ σ off. (
        mix D vs σ ρ,
        mix_off D vs σ ρ,
        ap (truth D M f) (fun_ext (λ x. by_cases (mem x vs)
            (λ t. rw t (rw t))
            (λ n. rw n (kept s vs (mix D vs σ ρ) ρ (clear_left s vs (bound f) c) (mix_off D vs σ ρ) x n ∙ sym (off x n))))),
      ))
