-- What the stages keep: no stage makes a function wider, simplify and the negation form make no name and simplify makes nothing heavier.
-- So a rule within the limits is never refused by simplify, and by the negation form for its weight only.
use Rattle.std.specs.Prelude.{◌≡◌, Bool, true, false, cond, ℕ, ◌≤◌, max, leb}
use Rattle.std.proofs.Math.Path.{refl}
use Rattle.std.proofs.Common.{leb-true}
use Rattle.std.proofs.Math.Bool.{not}
use mathlib.Core.List.{List, [], ◌∷◌, ◌++◌}
use native.Mathlib.Omega.{arith}
use Rattle.definitions.specs.Syntax.{Formula, Name, Op, Quant, Term, Terms, and, app, bin, blk, bot, con, cons, count, eq, iff, imp, neg, nil, or, pred, top, var}
use Rattle.definitions.specs.Names.{bound, filter, free, keep, mem, term_vars, term_widest, terms_vars, terms_widest, union, widest, without}
use Rattle.definitions.specs.Truth.{every}
use Rattle.definitions.specs.Simplify.{is_bot, is_top, over_kept, simplify, tidy, turn}
use Rattle.definitions.specs.Negation.{nnf, push_negation}
use Rattle.definitions.specs.Laws.Kept.{each, term_each, terms_each}
use Rattle.definitions.proofs.Laws.Bools.{and_both, and_true_left, and_true_right, by_cases}

module _ (p : Name → Bool) (w : ℕ → Bool) where
  pub every_append : (a b : List Name) → every p a ≡ true → every p b ≡ true → every p (a ++ b) ≡ true
  unfolding every
  every_append [] b h k = k
  every_append (x ∷ a) b h k = and_both (and_true_left (p x) (every p a) h) (every_append a b (and_true_right (p x) (every p a) h) k)

  pub every_filter : (q : Name → Bool) (l : List Name) → every p l ≡ true → every p (filter q l) ≡ true
  unfolding every filter
  every_filter q [] h = refl
  every_filter q (x ∷ l) h =
      let r = every_filter q l (and_true_right (p x) (every p l) h) in
      by_cases (q x) (λ t. rw t (and_both (and_true_left (p x) (every p l) h) r)) (λ f. rw f r)

  every_union : (a b : List Name) → every p a ≡ true → every p b ≡ true → every p (union a b) ≡ true
  every_union a b h k = every_append a (without a b) h (every_filter (λ x. not (mem x a)) b k)

  mutual
    unfolding term_each terms_each term_vars terms_vars every

    term_vars_each : (t : Term) → term_each p w t ≡ true → every p (term_vars t) ≡ true
    term_vars_each (var x) h = and_both h refl
    term_vars_each (con c) h = refl
    term_vars_each (app f ts) h = terms_vars_each ts (and_true_right (w (count ts)) (terms_each p w ts) h)

    terms_vars_each : (ts : Terms) → terms_each p w ts ≡ true → every p (terms_vars ts) ≡ true
    terms_vars_each nil h = refl
    terms_vars_each (cons t ts) h =
        every_union (term_vars t) (terms_vars ts) (term_vars_each t (and_true_left (term_each p w t) (terms_each p w ts) h)) (terms_vars_each ts (and_true_right (term_each p w t) (terms_each p w ts) h))

  free_each : (f : Formula) → each p w f ≡ true → every p (free f) ≡ true
  unfolding each free every
  free_each top h = refl
  free_each bot h = refl
  free_each (pred q ts) h = terms_vars_each ts h
  free_each (eq t u) h = every_union (term_vars t) (term_vars u) (term_vars_each t (and_true_left (term_each p w t) (term_each p w u) h)) (term_vars_each u (and_true_right (term_each p w t) (term_each p w u) h))
  free_each (neg f) h = free_each f h
  free_each (bin o f g) h = every_union (free f) (free g) (free_each f (and_true_left (each p w f) (each p w g) h)) (free_each g (and_true_right (each p w f) (each p w g) h))
  free_each (blk q vs f) h = every_filter (λ x. not (mem x vs)) (free f) (free_each f (and_true_right (every p vs) (each p w f) h))

  bound_each : (f : Formula) → each p w f ≡ true → every p (bound f) ≡ true
  unfolding each bound every
  bound_each top h = refl
  bound_each bot h = refl
  bound_each (pred q ts) h = refl
  bound_each (eq t u) h = refl
  bound_each (neg f) h = bound_each f h
  bound_each (bin o f g) h = every_append (bound f) (bound g) (bound_each f (and_true_left (each p w f) (each p w g) h)) (bound_each g (and_true_right (each p w f) (each p w g) h))
  bound_each (blk q vs f) h = every_append vs (bound f) (and_true_left (every p vs) (each p w f) h) (bound_each f (and_true_right (every p vs) (each p w f) h))

  pub variables_each : (f : Formula) → each p w f ≡ true → every p (bound f ++ free f) ≡ true
  variables_each f h = every_append (bound f) (free f) (bound_each f h) (free_each f h)

  -- the negation form has the rule's variables
  mutual
    unfolding each nnf push_negation

    pub nnf_each : (f : Formula) → each p w f ≡ true → each p w (nnf f) ≡ true
    nnf_each top h = refl
    nnf_each bot h = refl
    nnf_each (pred q ts) h = h
    nnf_each (eq t u) h = h
    nnf_each (neg f) h = push_each f h
    nnf_each (bin and f g) h = and_both (nnf_each f (and_true_left (each p w f) (each p w g) h)) (nnf_each g (and_true_right (each p w f) (each p w g) h))
    nnf_each (bin or f g) h = and_both (nnf_each f (and_true_left (each p w f) (each p w g) h)) (nnf_each g (and_true_right (each p w f) (each p w g) h))
    nnf_each (bin imp f g) h = and_both (push_each f (and_true_left (each p w f) (each p w g) h)) (nnf_each g (and_true_right (each p w f) (each p w g) h))
    nnf_each (bin iff f g) h =
        let a = and_true_left (each p w f) (each p w g) h in
        let b = and_true_right (each p w f) (each p w g) h in and_both (and_both (push_each f a) (nnf_each g b)) (and_both (nnf_each f a) (push_each g b))
    nnf_each (blk q vs f) h = and_both (and_true_left (every p vs) (each p w f) h) (nnf_each f (and_true_right (every p vs) (each p w f) h))

    push_each : (f : Formula) → each p w f ≡ true → each p w (push_negation f) ≡ true
    push_each top h = refl
    push_each bot h = refl
    push_each (pred q ts) h = h
    push_each (eq t u) h = h
    push_each (neg f) h = nnf_each f h
    push_each (bin and f g) h = and_both (push_each f (and_true_left (each p w f) (each p w g) h)) (push_each g (and_true_right (each p w f) (each p w g) h))
    push_each (bin or f g) h = and_both (push_each f (and_true_left (each p w f) (each p w g) h)) (push_each g (and_true_right (each p w f) (each p w g) h))
    push_each (bin imp f g) h = and_both (nnf_each f (and_true_left (each p w f) (each p w g) h)) (push_each g (and_true_right (each p w f) (each p w g) h))
    push_each (bin iff f g) h =
        let a = and_true_left (each p w f) (each p w g) h in
        let b = and_true_right (each p w f) (each p w g) h in and_both (and_both (nnf_each f a) (push_each g b)) (and_both (push_each f a) (nnf_each g b))
    push_each (blk q vs f) h = and_both (and_true_left (every p vs) (each p w f) h) (push_each f (and_true_right (every p vs) (each p w f) h))

  -- simplify has only variables and functions of the rule
  turn_each : (f : Formula) → each p w f ≡ true → each p w (turn f) ≡ true
  unfolding each turn
  turn_each top h = refl
  turn_each bot h = refl
  turn_each (pred q ts) h = h
  turn_each (eq t u) h = h
  turn_each (neg f) h = h
  turn_each (bin o f g) h = h
  turn_each (blk q vs f) h = h

  pick_each : (b : Bool) (f g : Formula) → each p w f ≡ true → each p w g ≡ true → each p w (cond b f g) ≡ true
  pick_each true f g h k = h
  pick_each false f g h k = k

  tidy_each : (o : Op) (f g : Formula) → each p w f ≡ true → each p w g ≡ true → each p w (tidy o f g) ≡ true
  unfolding each tidy
  tidy_each and f g h k =
      pick_each (is_bot f) _ _ refl (pick_each (is_bot g) _ _ refl (pick_each (is_top f) _ _ k (pick_each (is_top g) _ _ h (and_both h k))))
  tidy_each or f g h k =
      pick_each (is_top f) _ _ refl (pick_each (is_top g) _ _ refl (pick_each (is_bot f) _ _ k (pick_each (is_bot g) _ _ h (and_both h k))))
  tidy_each imp f g h k =
      pick_each (is_bot f) _ _ refl (pick_each (is_top g) _ _ refl (pick_each (is_top f) _ _ k (pick_each (is_bot g) _ _ (turn_each f h) (and_both h k))))
  tidy_each iff f g h k =
      pick_each (is_top f) _ _ k (pick_each (is_top g) _ _ h (pick_each (is_bot f) _ _ (turn_each g k) (pick_each (is_bot g) _ _ (turn_each f h) (and_both h k))))

  kept_each : (q : Quant) (vs : List Name) (f : Formula) → every p vs ≡ true → each p w f ≡ true → each p w (over_kept q vs f) ≡ true
  unfolding each over_kept
  kept_each q [] f h k = k
  kept_each q (x ∷ vs) f h k = and_both h k

  pub simplify_each : (f : Formula) → each p w f ≡ true → each p w (simplify f) ≡ true
  unfolding each simplify
  simplify_each top h = refl
  simplify_each bot h = refl
  simplify_each (pred q ts) h = h
  simplify_each (eq t u) h = h
  simplify_each (neg f) h = turn_each (simplify f) (simplify_each f h)
  simplify_each (bin o f g) h = tidy_each o (simplify f) (simplify g) (simplify_each f (and_true_left (each p w f) (each p w g) h)) (simplify_each g (and_true_right (each p w f) (each p w g) h))
  simplify_each (blk q vs f) h =
      let r = simplify_each f (and_true_right (every p vs) (each p w f) h) in
      kept_each q (keep vs (free (simplify f))) (simplify f) (every_filter (λ x. mem x vs) (free (simplify f)) (free_each (simplify f) r)) r

-- a function's arguments are at most as many as the widest function has
module _ (p : Name → Bool) (n : ℕ) where
  abbrev narrow : ℕ → Bool
  narrow k = leb k n

  both_most : (a b : ℕ) → a ≤ n → b ≤ n → max a b ≤ n
  both_most a b h k = omega arith

  mutual
    unfolding term_each terms_each term_widest terms_widest

    term_most : (t : Term) → term_each p narrow t ≡ true → term_widest t ≤ n
    term_most (var x) h = omega arith
    term_most (con c) h = omega arith
    term_most (app f ts) h =
        both_most (count ts) (terms_widest ts) (leb-true (count ts) n (and_true_left (leb (count ts) n) (terms_each p narrow ts) h))
        (terms_most ts (and_true_right (leb (count ts) n) (terms_each p narrow ts) h))

    terms_most : (ts : Terms) → terms_each p narrow ts ≡ true → terms_widest ts ≤ n
    terms_most nil h = omega arith
    terms_most (cons t ts) h =
        both_most (term_widest t) (terms_widest ts) (term_most t (and_true_left (term_each p narrow t) (terms_each p narrow ts) h))
        (terms_most ts (and_true_right (term_each p narrow t) (terms_each p narrow ts) h))

  pub widest_most : (f : Formula) → each p narrow f ≡ true → widest f ≤ n
  unfolding each widest
  widest_most top h = omega arith
  widest_most bot h = omega arith
  widest_most (pred q ts) h = terms_most ts h
  widest_most (eq t u) h =
      both_most (term_widest t) (term_widest u) (term_most t (and_true_left (term_each p narrow t) (term_each p narrow u) h))
      (term_most u (and_true_right (term_each p narrow t) (term_each p narrow u) h))
  widest_most (neg f) h = widest_most f h
  widest_most (bin o f g) h =
      both_most (widest f) (widest g) (widest_most f (and_true_left (each p narrow f) (each p narrow g) h)) (widest_most g (and_true_right (each p narrow f) (each p narrow g) h))
  widest_most (blk q vs f) h = widest_most f (and_true_right (every p vs) (each p narrow f) h)
