-- The negation form keeps the truth value.
use Rattle.std.specs.Prelude.{◌≡◌, refl, Bool, true, false, not, ◌&&◌, ◌||◌}
use Rattle.std.proofs.Common.{sym, ◌∙◌, ap}
use Rattle.std.proofs.Math.Path.{fun_ext}
use Rattle.std.specs.Bool.{beq}
use Rattle.std.proofs.Math.Bool.{not-not}
use Rattle.definitions.specs.Syntax.{Formula, and, bin, blk, bot, eq, iff, imp, neg, or, pred, top}
use Rattle.definitions.specs.Truth.{Assign, Domain, Meaning, block, truth}
use Rattle.definitions.specs.Negation.{flip, nnf, push_negation}
use Rattle.definitions.proofs.Laws.Bools.{not_and, not_or}
use Rattle.definitions.proofs.Laws.Blocks.{block_not}

not_imp : (a b : Bool) → (a && not b) ≡ not (not a || b)
not_imp true b = refl
not_imp false b = refl

iff_cnf : (a b : Bool) → ((not a || b) && (a || not b)) ≡ beq a b
iff_cnf true true = refl
iff_cnf true false = refl
iff_cnf false true = refl
iff_cnf false false = refl

iff_dnf : (a b : Bool) → (a && not b || not a && b) ≡ not (beq a b)
iff_dnf true true = refl
iff_dnf true false = refl
iff_dnf false true = refl
iff_dnf false false = refl

module _ (D : Domain) (M : Meaning D) where
  mutual
    unfolding nnf push_negation truth

    pub nnf_truth : (f : Formula) (ρ : Assign D) → truth D M (nnf f) ρ ≡ truth D M f ρ
    nnf_truth top ρ = refl
    nnf_truth bot ρ = refl
    nnf_truth (pred p ts) ρ = refl
    nnf_truth (eq t u) ρ = refl
    nnf_truth (neg f) ρ = push_truth f ρ
    nnf_truth (bin and f g) ρ = rw (nnf_truth f ρ, nnf_truth g ρ)
    nnf_truth (bin or f g) ρ = rw (nnf_truth f ρ, nnf_truth g ρ)
    nnf_truth (bin imp f g) ρ = rw (push_truth f ρ, nnf_truth g ρ)
    nnf_truth (bin iff f g) ρ = rw (push_truth f ρ, push_truth g ρ, nnf_truth f ρ, nnf_truth g ρ) (iff_cnf (truth D M f ρ) (truth D M g ρ))
    nnf_truth (blk q vs f) ρ = ap (λ k. block D q vs k ρ) (fun_ext (λ σ. nnf_truth f σ))

    pub push_truth : (f : Formula) (ρ : Assign D) → truth D M (push_negation f) ρ ≡ not (truth D M f ρ)
    push_truth top ρ = refl
    push_truth bot ρ = refl
    push_truth (pred p ts) ρ = refl
    push_truth (eq t u) ρ = refl
    push_truth (neg f) ρ = nnf_truth f ρ ∙ sym (not-not (truth D M f ρ))
    push_truth (bin and f g) ρ = rw (push_truth f ρ, push_truth g ρ) (sym (not_and (truth D M f ρ) (truth D M g ρ)))
    push_truth (bin or f g) ρ = rw (push_truth f ρ, push_truth g ρ) (sym (not_or (truth D M f ρ) (truth D M g ρ)))
    push_truth (bin imp f g) ρ = rw (nnf_truth f ρ, push_truth g ρ) (not_imp (truth D M f ρ) (truth D M g ρ))
    push_truth (bin iff f g) ρ = rw (push_truth f ρ, push_truth g ρ, nnf_truth f ρ, nnf_truth g ρ) (iff_dnf (truth D M f ρ) (truth D M g ρ))
    push_truth (blk q vs f) ρ = ap (λ k. block D (flip q) vs k ρ) (fun_ext (λ σ. push_truth f σ)) ∙ sym (block_not D q vs (truth D M f) ρ)
