-- The truth value of a formula depends on the values of its free variables only.
use Rattle.std.specs.Prelude.{◌≡◌, Bool, true, false, List, [], ◌∷◌}
use Rattle.std.proofs.Math.Path.{refl, ap, ap₂}
use Rattle.std.proofs.Common.{sym, ◌∙◌}
use Rattle.std.proofs.Math.Bool.{not}
use Rattle.definitions.specs.Syntax.{Formula, Name, Quant, Term, Terms, app, bin, blk, bot, con, cons, eq, neg, nil, pred, top, var}
use Rattle.definitions.specs.Names.{free, mem, term_vars, terms_vars, union}
use Rattle.definitions.specs.Reading.{agree}
use Rattle.definitions.specs.Truth.{Assign, Domain, Meaning, block, join, truth, val, vals}
use Rattle.definitions.proofs.Laws.Bools.{by_cases, or_left, or_right}
use Rattle.definitions.proofs.Laws.Sets.{mem_filter, mem_head, mem_union}
use Rattle.definitions.specs.Laws.Blocks.{Off}
use Rattle.definitions.proofs.Laws.Blocks.{Match, block_same}
use Rattle.definitions.specs.Laws.Free.{Agree, Reads, mix}

module _ (D : Domain) where
  pub mix_off : (vs : List Name) (σ ρ : Assign D) → Off D vs (mix D vs σ ρ) ρ
  mix_off vs σ ρ x m = rw m

  agree_left : (a b : List Name) {ρ σ : Assign D} → Agree D (union a b) ρ σ → Agree D a ρ σ
  agree_left a b h x m = h x (mem_union x a b ∙ or_left (mem x a) (mem x b) m)

  agree_right : (a b : List Name) {ρ σ : Assign D} → Agree D (union a b) ρ σ → Agree D b ρ σ
  agree_right a b h x m = h x (mem_union x a b ∙ or_right (mem x a) (mem x b) m)

  half : (vs ws l : List Name) (k : Assign D → Bool) (ρ ρ' : Assign D) → Reads D l k
      → ((x : Name) → mem x l ≡ true → mem x vs ≡ mem x ws)
      → ((x : Name) → mem x l ≡ true → mem x vs ≡ false → ρ x ≡ ρ' x)
      → Match D vs ws k k ρ ρ'
  half vs ws l k ρ ρ' reads eqv agree σ off = (
    mix D ws σ ρ',
    mix_off ws σ ρ',
    reads (mix D ws σ ρ') σ (λ x m.
        by_cases (mem x ws)
        (λ t. rw t)
        (λ f. rw f (sym (off x (eqv x m ∙ f) ∙ agree x m (eqv x m ∙ f))))),
  )

  -- a block's truth value goes by the set of those variables that its body reads
  pub block_reads : (q : Quant) (vs ws l : List Name) (k : Assign D → Bool) (ρ ρ' : Assign D) → Reads D l k
      → ((x : Name) → mem x l ≡ true → mem x vs ≡ mem x ws)
      → ((x : Name) → mem x l ≡ true → mem x vs ≡ false → ρ x ≡ ρ' x)
      → block D q vs k ρ ≡ block D q ws k ρ'
  block_reads q vs ws l k ρ ρ' reads eqv agree =
      block_same D q vs ws k k ρ ρ' (half vs ws l k ρ ρ' reads eqv agree)
      (half ws vs l k ρ' ρ reads (λ x m. sym (eqv x m)) (λ x m f. sym (agree x m (eqv x m ∙ f))))

module _ (D : Domain) (M : Meaning D) where
  mutual
    unfolding val vals term_vars terms_vars

    pub val_agree : (t : Term) (ρ σ : Assign D) → Agree D (term_vars t) ρ σ → val D M ρ t ≡ val D M σ t
    val_agree (var x) ρ σ h = h x (mem_head x [])
    val_agree (con c) ρ σ h = refl
    val_agree (app f ts) ρ σ h = ap (M.func f) (vals_agree ts ρ σ h)

    pub vals_agree : (ts : Terms) (ρ σ : Assign D) → Agree D (terms_vars ts) ρ σ → vals D M ρ ts ≡ vals D M σ ts
    vals_agree nil ρ σ h = refl
    vals_agree (cons t ts) ρ σ h =
        ap₂ (◌∷◌) (val_agree t ρ σ (agree_left D (term_vars t) (terms_vars ts) h)) (vals_agree ts ρ σ (agree_right D (term_vars t) (terms_vars ts) h))

  pub truth_agree : (f : Formula) → Reads D (free f) (truth D M f)
  unfolding truth free
  truth_agree top ρ σ h = refl
  truth_agree bot ρ σ h = refl
  truth_agree (pred p ts) ρ σ h = ap (M.rel p) (vals_agree ts ρ σ h)
  truth_agree (eq t u) ρ σ h =
      ap₂ D.equal (val_agree t ρ σ (agree_left D (term_vars t) (term_vars u) h)) (val_agree u ρ σ (agree_right D (term_vars t) (term_vars u) h))
  truth_agree (neg f) ρ σ h = ap not (truth_agree f ρ σ h)
  truth_agree (bin o f g) ρ σ h =
      ap₂ (join o) (truth_agree f ρ σ (agree_left D (free f) (free g) h)) (truth_agree g ρ σ (agree_right D (free f) (free g) h))
  truth_agree (blk q vs f) ρ σ h =
      block_reads D q vs vs (free f) (truth D M f) ρ σ (truth_agree f) (λ x m. refl)
      (λ x m n. h x (mem_filter x (λ y. not (mem y vs)) (free f) ∙ rw (m, n)))
