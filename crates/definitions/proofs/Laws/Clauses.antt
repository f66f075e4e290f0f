-- The clause set of a matrix is strictly sorted within and without, and it is as true as the matrix.
-- Truth goes through the distribution by the distributive law; sorting does not change it, since a set has the members of its list.
use Rattle.std.specs.Prelude.{◌≡◌, Bool, ◌&&◌, ◌||◌}
use Rattle.std.proofs.Math.Path.{refl, ap₂, fun_ext}
use Rattle.std.proofs.Common.{sym, ◌∙◌, ap}
use Rattle.std.proofs.Math.Bool.{true, false, and-true, or-false, and-or_distrib_left, and-or_distrib_right, or-and_distrib_left, or-and_distrib_right}
use mathlib.Core.List.{List, [], ◌∷◌, ◌++◌, map}
use Rattle.definitions.specs.Syntax.{Op, and, or, imp, iff, Quant, all, ex, Formula, top, bot, pred, eq, neg, bin, blk}
use Rattle.definitions.specs.Truth.{Domain, Meaning, Assign, every, any, over, join, truth}
use Rattle.definitions.specs.Negation.{flip, nnf}
use Rattle.definitions.specs.Prenex.{no_block}
use Rattle.definitions.specs.Order.{rel, same_as, Literal, pos, opp, Clause, cmp_literal, cmp_clause, set_of}
use Rattle.definitions.specs.Clauses.{product, constant, combine, opposite, distribute, clauses, literal_truth, clause_truth, set_truth}
use Rattle.definitions.proofs.Laws.Bools.{clash, and_true_left, and_true_right}
use Rattle.definitions.proofs.Laws.Order.{literal_orders, clause_orders}
use Rattle.definitions.specs.Laws.Sorted.{both, sorted}
use Rattle.definitions.proofs.Laws.Sorted.{over_cons, over_append, over_map, over_set_of, set_of_sorted}
use Rattle.definitions.proofs.Laws.Negation.{nnf_truth}
use Rattle.definitions.specs.Laws.Shapes.{is_atom, and_or, negated, ready}
use Rattle.definitions.proofs.Laws.Shapes.{nnf_ready}

-- Sorted.
pub clauses_sorted : (q : Quant) (f : Formula) → sorted cmp_clause (clauses q f) ≡ true
unfolding clauses
clauses_sorted q f = set_of_sorted clause_orders (map (set_of cmp_literal) (distribute q f))

pub each_clause_sorted : (q : Quant) (f : Formula) → every (sorted cmp_literal) (clauses q f) ≡ true
unfolding clauses every
each_clause_sorted q f =
    over_set_of clause_orders all (sorted cmp_literal) (map (set_of cmp_literal) (distribute q f))
    ∙ over_map all (sorted cmp_literal) (set_of cmp_literal) (distribute q f) ∙ each (distribute q f)
  where
    each : (cs : List Clause) → every (λ c. sorted cmp_literal (set_of cmp_literal c)) cs ≡ true
    each [] = refl
    each (c ∷ cs) = rw (set_of_sorted literal_orders c) (each cs)

-- The distributive laws.
share_left : (q : Quant) (a b c : Bool) → both q (both (flip q) a b) (both (flip q) a c) ≡ both (flip q) a (both q b c)
share_left all a b c = sym (or-and_distrib_left a b c)
share_left ex a b c = sym (and-or_distrib_left a b c)

share_right : (q : Quant) (a b c : Bool) → both q (both (flip q) a c) (both (flip q) b c) ≡ both (flip q) (both q a b) c
share_right all a b c = sym (or-and_distrib_right a b c)
share_right ex a b c = sym (and-or_distrib_right a b c)

module _ (D : Domain) (M : Meaning D) (ρ : Assign D) where
  abbrev holds : Quant → List Clause → Bool
  holds q cs = set_truth D M ρ q cs

  abbrev clause_holds : Quant → Clause → Bool
  clause_holds q c = clause_truth D M ρ q c

  -- no clause holds where all must, and does not where some must
  none_left : (q : Quant) (b : Bool) → holds q [] ≡ both (flip q) (holds q []) b
  unfolding every any
  none_left all b = refl
  none_left ex b = refl

  none_right : (q : Quant) (b : Bool) → holds q [] ≡ both (flip q) b (holds q [])
  unfolding every any
  none_right all true = refl
  none_right all false = refl
  none_right ex true = refl
  none_right ex false = refl

  joined_truth : (q : Quant) (c : Clause) (b : List Clause) → holds q (map (λ d. c ++ d) b) ≡ both (flip q) (clause_holds q c) (holds q b)
  joined_truth q c [] = none_right q (clause_holds q c)
  joined_truth q c (d ∷ b) =
      over_cons q (clause_holds q) (c ++ d) (map (λ d. c ++ d) b)
      ∙ rw (joined_truth q c b, over_append (flip q) (literal_truth D M ρ) c d, over_cons q (clause_holds q) d b)
      (share_left q (clause_holds q c) (clause_holds q d) (holds q b))

  product_truth : (q : Quant) (a b : List Clause) → holds q (product a b) ≡ both (flip q) (holds q a) (holds q b)
  unfolding product
  product_truth q [] b = none_left q (holds q b)
  product_truth q (c ∷ a) b =
      over_append q (clause_holds q) (map (λ d. c ++ d) b) (product a b)
      ∙ rw (joined_truth q c b, product_truth q a b, over_cons q (clause_holds q) c a)
      (share_right q (clause_holds q c) (holds q a) (holds q b))

  constant_truth : (q : Quant) (b : Bool) → holds q (constant q b) ≡ b
  unfolding every any
  constant_truth all true = refl
  constant_truth all false = refl
  constant_truth ex true = refl
  constant_truth ex false = refl

  single_truth : (q : Quant) (l : Literal) → holds q ((l ∷ []) ∷ []) ≡ literal_truth D M ρ l
  unfolding every any
  single_truth all l = and-true (literal_truth D M ρ l || false) ∙ or-false (literal_truth D M ρ l)
  single_truth ex l = or-false (literal_truth D M ρ l && true) ∙ and-true (literal_truth D M ρ l)

  opposite_truth : (q : Quant) (f : Formula) → is_atom f ≡ true → holds q (opposite f) ≡ truth D M (neg f) ρ
  opposite_truth q top h = clash h refl
  opposite_truth q bot h = clash h refl
  opposite_truth q (pred p ts) h = single_truth q (opp (rel p ts))
  opposite_truth q (eq t u) h = single_truth q (opp (same_as t u))
  opposite_truth q (neg f) h = clash h refl
  opposite_truth q (bin o f g) h = clash h refl
  opposite_truth q (blk r vs f) h = clash h refl

  combine_truth : (q : Quant) (o : Op) (a b : List Clause) → and_or o ≡ true → holds q (combine q o a b) ≡ join o (holds q a) (holds q b)
  combine_truth all and a b h = over_append all (clause_holds all) a b
  combine_truth all or a b h = product_truth all a b
  combine_truth all imp a b h = clash h refl
  combine_truth all iff a b h = clash h refl
  combine_truth ex and a b h = product_truth ex a b
  combine_truth ex or a b h = over_append ex (clause_holds ex) a b
  combine_truth ex imp a b h = clash h refl
  combine_truth ex iff a b h = clash h refl

  -- the raw clauses
  distribute_truth : (q : Quant) (f : Formula) → negated f ≡ true → no_block f ≡ true → holds q (distribute q f) ≡ truth D M f ρ
  unfolding distribute negated no_block truth
  distribute_truth q top h k = constant_truth q true
  distribute_truth q bot h k = constant_truth q false
  distribute_truth q (pred p ts) h k = single_truth q (pos (rel p ts))
  distribute_truth q (eq t u) h k = single_truth q (pos (same_as t u))
  distribute_truth q (neg f) h k = opposite_truth q f h
  distribute_truth q (bin o f g) h k =
      let parts = and_true_right (and_or o) (negated f && negated g) h in
      combine_truth q o (distribute q f) (distribute q g) (and_true_left (and_or o) (negated f && negated g) h)
      ∙ ap₂ (join o)
      (distribute_truth q f (and_true_left (negated f) (negated g) parts) (and_true_left (no_block f) (no_block g) k))
      (distribute_truth q g (and_true_right (negated f) (negated g) parts) (and_true_right (no_block f) (no_block g) k))
  distribute_truth q (blk r vs f) h k = clash k refl

  -- sorting each clause, and the clauses
  sorted_truth : (q : Quant) (cs : List Clause) → holds q (set_of cmp_clause (map (set_of cmp_literal) cs)) ≡ holds q cs
  sorted_truth q cs =
      over_set_of clause_orders q (clause_holds q) (map (set_of cmp_literal) cs)
      ∙ over_map q (clause_holds q) (set_of cmp_literal) cs
      ∙ ap (λ p. over q p cs) (fun_ext (λ c. over_set_of literal_orders (flip q) (literal_truth D M ρ) c))

  pub clauses_truth : (q : Quant) (f : Formula) → ready f ≡ true → set_truth D M ρ q (clauses q f) ≡ truth D M f ρ
  unfolding clauses ready
  clauses_truth q f h =
      sorted_truth q (distribute q f) ∙ distribute_truth q f (and_true_left (negated f) (no_block f) h) (and_true_right (negated f) (no_block f) h)

  -- the clauses of a matrix are as true as the matrix
  pub matrix_truth : (q : Quant) (m : Formula) → no_block m ≡ true → set_truth D M ρ q (clauses q (nnf m)) ≡ truth D M m ρ
  matrix_truth q m h = clauses_truth q (nnf m) (nnf_ready m h) ∙ nnf_truth D M m ρ
