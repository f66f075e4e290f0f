-- What a block of variables says: some (every) assignment that differs from the given one at most on them.
use Rattle.std.specs.Prelude.{◌≡◌, Bool, true, not, ◌&&◌, ◌||◌}
use Rattle.std.proofs.Math.Path.{refl, sym, ap, fun_ext}
use Rattle.std.proofs.Common.{◌∙◌}
use Rattle.std.proofs.Math.Bool.{not-not}
use mathlib.Core.List.{List, [], ◌∷◌, Memᴰ}
use Rattle.definitions.specs.Bytes.{same}
use Rattle.definitions.specs.Syntax.{Name, Quant, all, ex}
use Rattle.definitions.specs.Names.{mem}
use Rattle.definitions.specs.Truth.{Assign, Domain, any, block, every, over, set}
use Rattle.definitions.specs.Negation.{flip}
use Rattle.definitions.proofs.Laws.Bools.{by_cases, clash, not_and, not_or, or_false_left, or_false_right, or_left, or_right, same_truth}
use Rattle.definitions.proofs.Laws.Sets.{same_eq}
use Rattle.definitions.specs.Laws.Blocks.{Off}

pub over_not : {A : Type 0} (q : Quant) (p : A → Bool) (l : List A) → not (over q p l) ≡ over (flip q) (λ a. not (p a)) l
unfolding every any
over_not all p [] = refl
over_not all p (a ∷ l) = not_and (p a) (every p l) ∙ ap (λ b. not (p a) || b) (over_not all p l)
over_not ex p [] = refl
over_not ex p (a ∷ l) = not_or (p a) (any p l) ∙ ap (λ b. not (p a) && b) (over_not ex p l)

pub some_in : {A : Type 0} (p : A → Bool) {a : A} {l : List A} → Memᴰ a l → p a ≡ true → any p l ≡ true
unfolding any
some_in p (Memᴰ.head {x = x} {xs = xs} h) e = or_left (p x) (any p xs) (ap p (sym h) ∙ e)
some_in p (Memᴰ.tail {x = x} {xs = xs} m) e = or_right (p x) (any p xs) (some_in p m e)

pub some_out : {A : Type 0} (p : A → Bool) (l : List A) → any p l ≡ true → (a : A) × (p a ≡ true)
unfolding any
some_out p [] e = clash e refl
some_out p (a ∷ l) e = by_cases (p a) (λ t. (a, t)) (λ f. some_out p l (rw f at e))

module _ (D : Domain) where
  pub block_not : (q : Quant) (vs : List Name) (k : Assign D → Bool) (ρ : Assign D)
      → not (block D q vs k ρ) ≡ block D (flip q) vs (λ σ. not (k σ)) ρ
  unfolding block
  block_not q [] k ρ = refl
  block_not q (x ∷ vs) k ρ =
      over_not q (λ d. block D q vs k (set D ρ x d)) D.elems
      ∙ ap (λ p. over (flip q) p D.elems) (fun_ext (λ d. block_not q vs k (set D ρ x d)))

  pub ex_out : (vs : List Name) (k : Assign D → Bool) (ρ : Assign D)
      → block D ex vs k ρ ≡ true → (σ : Assign D) × Off D vs σ ρ × (k σ ≡ true)
  unfolding block mem
  ex_out [] k ρ e = (ρ, (λ x m. refl), e)
  ex_out (x ∷ vs) k ρ e =
      let (d, e') = some_out (λ d. block D ex vs k (set D ρ x d)) D.elems e in
      let (σ, off, h) = ex_out vs k (set D ρ x d) e' in
      (σ, (λ y m. off y (or_false_right (same y x) (mem y vs) m) ∙ rw (or_false_left (same y x) (mem y vs) m)), h)

  pub ex_in : (vs : List Name) (k : Assign D → Bool) (ρ σ : Assign D)
      → Off D vs σ ρ → k σ ≡ true → block D ex vs k ρ ≡ true
  unfolding block mem
  ex_in [] k ρ σ off e = ap k (fun_ext (λ x. sym (off x refl))) ∙ e
  ex_in (x ∷ vs) k ρ σ off e =
      some_in (λ d. block D ex vs k (set D ρ x d)) (D.whole (σ x)) (ex_in vs k (set D ρ x (σ x)) σ
      (λ y m. by_cases (same y x) (λ t. rw t (ap σ (same_eq y x t))) (λ f. rw f (off y (rw f m)))) e)

  -- Two blocks have one truth value where each assignment that the one reaches is matched by one that the other reaches.
  abbrev pub Match : List Name → List Name → (Assign D → Bool) → (Assign D → Bool) → Assign D → Assign D → Type 0
  Match vs ws k k' ρ ρ' = (σ : Assign D) → Off D vs σ ρ → (σ' : Assign D) × Off D ws σ' ρ' × (k' σ' ≡ k σ)

  ex_half : (vs ws : List Name) (k k' : Assign D → Bool) (ρ ρ' : Assign D) → Match vs ws k k' ρ ρ'
      → block D ex vs k ρ ≡ true → block D ex ws k' ρ' ≡ true
  ex_half vs ws k k' ρ ρ' go e =
      let (σ, off, h) = ex_out vs k ρ e in
      let (σ', off', h') = go σ off in
      ex_in ws k' ρ' σ' off' (h' ∙ h)

  all_as_ex : (vs : List Name) (k : Assign D → Bool) (ρ : Assign D) → block D all vs k ρ ≡ not (block D ex vs (λ σ. not (k σ)) ρ)
  all_as_ex vs k ρ = sym (not-not (block D all vs k ρ)) ∙ ap not (block_not all vs k ρ)

  pub block_same : (q : Quant) (vs ws : List Name) (k k' : Assign D → Bool) (ρ ρ' : Assign D)
      → Match vs ws k k' ρ ρ' → Match ws vs k' k ρ' ρ → block D q vs k ρ ≡ block D q ws k' ρ'
  block_same ex vs ws k k' ρ ρ' there back =
      same_truth (block D ex vs k ρ) (block D ex ws k' ρ') (ex_half vs ws k k' ρ ρ' there) (ex_half ws vs k' k ρ' ρ back)
  block_same all vs ws k k' ρ ρ' there back =
      rw (all_as_ex vs k ρ, all_as_ex ws k' ρ') (ap not
      (same_truth (block D ex vs n ρ) (block D ex ws n' ρ') (ex_half vs ws n n' ρ ρ' (turn vs ws k k' ρ ρ' there)) (ex_half ws vs n' n ρ' ρ (turn ws vs k' k ρ' ρ back))))
    where
      n : Assign D → Bool
      n σ = not (k σ)

      n' : Assign D → Bool
      n' σ = not (k' σ)

      turn : (vs ws : List Name) (k k' : Assign D → Bool) (ρ ρ' : Assign D) → Match vs ws k k' ρ ρ' → Match vs ws (λ σ. not (k σ)) (λ σ. not (k' σ)) ρ ρ'
      turn vs ws k k' ρ ρ' go σ off = let (σ', off', h) = go σ off in (σ', off', ap not h)

  -- a block over what does not vary
  pub block_const : (q : Quant) (vs : List Name) (b : Bool) (ρ : Assign D) → block D q vs (λ σ. b) ρ ≡ b
  unfolding block
  block_const q vs b ρ = block_same q vs [] (λ σ. b) (λ σ. b) ρ ρ (λ σ off. (ρ, (λ x m. refl), refl)) (λ σ off. (ρ, (λ x m. refl), refl))

  pub all_out : (vs : List Name) (k : Assign D → Bool) (ρ σ : Assign D) → block D all vs k ρ ≡ true → Off D vs σ ρ → k σ ≡ true
  all_out vs k ρ σ h off =
      by_cases (k σ) (λ t. t) (λ n. clash h (all_as_ex vs k ρ ∙ ap not (ex_in vs (λ τ. not (k τ)) ρ σ off (ap not n))))

  pub all_in : (vs : List Name) (k : Assign D → Bool) (ρ : Assign D) → ((σ : Assign D) → Off D vs σ ρ → k σ ≡ true) → block D all vs k ρ ≡ true
  all_in vs k ρ h =
      by_cases (block D all vs k ρ) (λ t. t) (λ n.
      let (σ, off, e) = ex_out vs (λ τ. not (k τ)) ρ (sym (block_not all vs k ρ) ∙ ap not n) in
      clash (h σ off) (sym (not-not (k σ)) ∙ ap not e))
