-- A rule within the limits passes stage 1 always, and stage 4 unless its negation form is too heavy; what each stage leaves to be tested.
use Rattle.std.specs.Prelude.{◌≡◌, Bool, true, false, ◌&&◌, cond, ℕ, suc, ◌+◌, ◌≤◌, leb, ltb, length}
use Rattle.std.proofs.Math.Path.{refl, ap}
use Rattle.std.proofs.Common.{sym, ◌∙◌, arith}
use Rattle.std.proofs.Math.Bool.{not, or-false}
use mathlib.Core.List.{List, [], ◌∷◌, ◌++◌}
use borrow.Author.Tests.{le-leb, ltb-true}
use Rattle.definitions.specs.Bytes.{null, same}
use Rattle.definitions.specs.Syntax.{Formula, Name, Op, Quant, Term, Terms, and, app, bin, blk, bot, con, cons, count, eq, iff, imp, neg, nil, or, pred, top, var, weight}
use Rattle.definitions.specs.Limits.{Limits}
use Rattle.definitions.specs.Names.{free, keep, mem, widest}
use Rattle.definitions.specs.RuleText.{Manner, Node, behind, is_name, letter, nodes, term_nodes, terms_nodes, variable_name}
use Rattle.definitions.specs.Reading.{all_names}
use Rattle.definitions.specs.Truth.{every}
use Rattle.definitions.specs.Simplify.{is_bot, is_top, over_kept, simplify, tidy, turn}
use Rattle.definitions.specs.Negation.{nnf}
use Rattle.definitions.specs.Convert.{Result, refused_if, stage, too_large, too_long}
use Rattle.definitions.proofs.Laws.Bools.{and_both, and_true_left, and_true_right, by_cases, clash, or_left, or_right}
use Rattle.definitions.proofs.Laws.Sets.{mem_filter, same_eq, same_refl}
use Rattle.definitions.specs.Laws.Within.{AllGood, Within}
use Rattle.definitions.specs.Laws.Fresh.{In}
use Rattle.definitions.specs.Laws.Once.{once}
use Rattle.definitions.proofs.Laws.Once.{free_once, once_filter}
use Rattle.definitions.specs.Laws.Kept.{each, term_each, terms_each}
use Rattle.definitions.specs.Laws.Passing.{short, few}
use Rattle.definitions.proofs.Laws.Kept.{nnf_each, simplify_each, variables_each, widest_most}

-- A list without repeats whose names are all in another is no longer than it.
remove : Name → List Name → List Name
remove x [] = []
remove x (y ∷ l) = cond (same x y) l (y ∷ remove x l)

remove_length : (x : Name) (l : List Name) → mem x l ≡ true → suc (length (remove x l)) ≡ length l
unfolding remove mem
remove_length x [] m = clash m refl
remove_length x (y ∷ l) m = by_cases (same x y) (λ t. rw t) (λ f. rw f (ap suc (remove_length x l (rw f at m))))

remove_other : (x y : Name) (l : List Name) → same y x ≡ false → mem y l ≡ true → mem y (remove x l) ≡ true
unfolding remove mem
remove_other x y [] d m = clash m refl
remove_other x y (z ∷ l) d m =
    by_cases (same x z)
    (λ t. rw t (rw (ap (same y) (sym (same_eq x z t)) ∙ d) at m))
    (λ f. rw f (by_cases (same y z) (λ t. rw t) (λ n. rw n (remove_other x y l d (rw n at m)))))

once_fits : (a b : List Name) → once a ≡ true → In a b → length a ≤ length b
unfolding once mem
once_fits [] b o i = omega arith
once_fits (x ∷ a) b o i =
    let there = i x (or_left (same x x) (mem x a) (same_refl x)) in
    let r = once_fits a (remove x b) (and_true_right (not (mem x a)) (once a) o) (λ y m. remove_other x y b
    (by_cases (same y x) (λ t. clash (ap (λ z. mem z a) (sym (same_eq y x t)) ∙ m) (is_false (mem x a) (and_true_left (not (mem x a)) (once a) o))) (λ f. f))
    (i y (or_right (same y x) (mem y a) m))) in
    omega (arith, remove_length x b there)
  where
    is_false : (b : Bool) → not b ≡ true → b ≡ false
    is_false true e = sym e
    is_false false e = refl

-- Simplify makes nothing heavier.
turn_light : (f : Formula) → weight (turn f) ≤ suc (weight f)
unfolding weight turn
turn_light top = omega arith
turn_light bot = omega arith
turn_light (pred p ts) = omega arith
turn_light (eq t u) = omega arith
turn_light (neg f) = omega arith
turn_light (bin o f g) = omega arith
turn_light (blk q vs f) = omega arith

weighs : (f : Formula) → 1 ≤ weight f
unfolding weight
weighs top = omega arith
weighs bot = omega arith
weighs (pred p ts) = omega arith
weighs (eq t u) = omega arith
weighs (neg f) = omega arith
weighs (bin o f g) = omega arith
weighs (blk q vs f) = omega arith

pick_light : (b : Bool) (f g : Formula) (n : ℕ) → weight f ≤ n → weight g ≤ n → weight (cond b f g) ≤ n
pick_light true f g n h k = h
pick_light false f g n h k = k

tidy_light : (o : Op) (f g : Formula) → weight (tidy o f g) ≤ 1 + (weight f + weight g)
unfolding tidy weight
tidy_light and f g =
    pick_light (is_bot f) _ _ _ (omega arith) (pick_light (is_bot g) _ _ _ (omega arith) (pick_light (is_top f) _ _ _ (omega arith) (pick_light (is_top g) _ _ _ (omega arith) (omega arith))))
tidy_light or f g =
    pick_light (is_top f) _ _ _ (omega arith) (pick_light (is_top g) _ _ _ (omega arith) (pick_light (is_bot f) _ _ _ (omega arith) (pick_light (is_bot g) _ _ _ (omega arith) (omega arith))))
tidy_light imp f g =
    pick_light (is_bot f) _ _ _ (omega arith) (pick_light (is_top g) _ _ _ (omega arith) (pick_light (is_top f) _ _ _ (omega arith)
    (pick_light (is_bot g) _ _ _ (omega (arith, turn_light f)) (omega arith))))
tidy_light iff f g =
    pick_light (is_top f) _ _ _ (omega arith) (pick_light (is_top g) _ _ _ (omega arith) (pick_light (is_bot f) _ _ _ (omega (arith, turn_light g))
    (pick_light (is_bot g) _ _ _ (omega (arith, turn_light f)) (omega arith))))

kept_light : (q : Quant) (vs ws : List Name) (f : Formula) → length ws ≤ length vs → weight (over_kept q ws f) ≤ 1 + length vs + weight f
unfolding over_kept weight
kept_light q vs [] f h = omega arith
kept_light q vs (x ∷ ws) f h = omega arith

pub simplify_light : (f : Formula) → weight (simplify f) ≤ weight f
unfolding simplify weight
simplify_light top = omega arith
simplify_light bot = omega arith
simplify_light (pred p ts) = omega arith
simplify_light (eq t u) = omega arith
simplify_light (neg f) = omega (arith, turn_light (simplify f), simplify_light f)
simplify_light (bin o f g) = omega (arith, tidy_light o (simplify f) (simplify g), simplify_light f, simplify_light g)
simplify_light (blk q vs f) =
    let few = once_fits (keep vs (free (simplify f))) vs (once_filter (λ x. mem x vs) (free (simplify f)) (free_once (simplify f)))
    (λ x m. and_true_right (mem x (free (simplify f))) (mem x vs) (sym (mem_filter x (λ y. mem y vs) (free (simplify f))) ∙ m)) in
    omega (arith, kept_light q vs (keep vs (free (simplify f))) (simplify f) few, simplify_light f)

-- What a rule within the limits has: short variables, narrow functions.
module _ (L : Limits) where
  short_name : (m : Manner) (x : Name) → is_name L m x ≡ true → short L x ≡ true
  unfolding is_name
  short_name m [] e = clash e refl
  short_name m (b ∷ s) e =
      and_true_left (leb (length (b ∷ s)) L.name) (letter b) (and_true_left (leb (length (b ∷ s)) L.name && letter b) (null (behind m s)) e)

  short_names : (vs : List Name) → all_names L variable_name vs ≡ true → every (short L) vs ≡ true
  unfolding all_names every
  short_names [] e = refl
  short_names (x ∷ vs) e =
      and_both (short_name variable_name x (and_true_left (is_name L variable_name x) (all_names L variable_name vs) e))
      (short_names vs (and_true_right (is_name L variable_name x) (all_names L variable_name vs) e))

  good_left : (a b : List Node) → AllGood L (a ++ b) → AllGood L a
  good_left [] b h = tt
  good_left (n ∷ a) b h = (h.0, good_left a b h.1)

  good_right : (a b : List Node) → AllGood L (a ++ b) → AllGood L b
  good_right [] b h = h
  good_right (n ∷ a) b h = good_right a b h.1

  mutual
    unfolding term_each terms_each term_nodes terms_nodes

    good_term : (t : Term) → AllGood L (term_nodes t) → term_each (short L) (few L) t ≡ true
    good_term (var x) h = short_name variable_name x h.0.allowed
    good_term (con c) h = refl
    good_term (app f ts) h = and_both (le-leb (count ts) L.arguments h.0.allowed.1) (good_terms ts h.1)

    good_terms : (ts : Terms) → AllGood L (terms_nodes ts) → terms_each (short L) (few L) ts ≡ true
    good_terms nil h = refl
    good_terms (cons t ts) h = and_both (good_term t (good_left (term_nodes t) (terms_nodes ts) h)) (good_terms ts (good_right (term_nodes t) (terms_nodes ts) h))

  pub good_each : (f : Formula) → AllGood L (nodes f) → each (short L) (few L) f ≡ true
  unfolding each nodes
  good_each top h = refl
  good_each bot h = refl
  good_each (pred p ts) h = good_terms ts h.1
  good_each (eq t u) h = and_both (good_term t (good_left (term_nodes t) (term_nodes u) h.1)) (good_term u (good_right (term_nodes t) (term_nodes u) h.1))
  good_each (neg f) h = good_each f h.1
  good_each (bin o f g) h = and_both (good_each f (good_left (nodes f) (nodes g) h.1)) (good_each g (good_right (nodes f) (nodes g) h.1))
  good_each (blk q vs f) h = and_both (short_names vs h.0.allowed.2) (good_each f h.1)

  -- what such a formula is tested for: its weight alone
  pub each_short : (f : Formula) → each (short L) (few L) f ≡ true → too_long L f ≡ false
  unfolding too_long
  each_short f h = ap not (variables_each (short L) (few L) f h)

  pub each_large : (f : Formula) → each (short L) (few L) f ≡ true → too_large L f ≡ ltb L.weight (weight f)
  unfolding too_large
  each_large f h =
      rw (by_cases (ltb L.arguments (widest f)) (λ t. absurd (omega (arith, ltb-true L.arguments (widest f) t, widest_most (short L) L.arguments f h))) (λ e. e))
      (or-false (ltb L.weight (weight f)))

  pub each_stage : (k : ℕ) (f : Formula) (r : Result) → each (short L) (few L) f ≡ true → stage L k f r ≡ refused_if (ltb L.weight (weight f)) 7 k r
  each_stage k f r h = rw (each_large f h, each_short f h)

  not_heavy : (n : ℕ) → n ≤ L.weight → ltb L.weight n ≡ false
  not_heavy n h = by_cases (ltb L.weight n) (λ t. absurd (omega (arith, ltb-true L.weight n t))) (λ e. e)

  pub simplify_stage : (f : Formula) (r : Result) → Within L f → stage L 1 (simplify f) r ≡ r
  simplify_stage f r w =
      each_stage 1 (simplify f) r (simplify_each (short L) (few L) f (good_each f w.good))
      ∙ rw (not_heavy (weight (simplify f)) (omega (arith, simplify_light f, w.light)))

  pub nnf_stage : (f : Formula) (r : Result) → Within L f → stage L 4 (nnf f) r ≡ refused_if (ltb L.weight (weight (nnf f))) 7 4 r
  nnf_stage f r w = each_stage 4 (nnf f) r (nnf_each (short L) (few L) f (good_each f w.good))
