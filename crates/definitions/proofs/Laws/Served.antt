-- Nodes serve what is due just when they are the nodes of trees of the due sorts, not too deep and not too heavy.
-- One way by the trees, each laying its nodes before what follows; back by the nodes, each planted on the trees of those behind it.
use Rattle.std.specs.Prelude.{◌≡◌}
use Rattle.std.proofs.Math.Path.{refl, ap}
use Rattle.std.proofs.Common.{◌∙◌}
use Rattle.std.proofs.Math.Bool.{true, false}
use mathlib.Core.List.{List, [], ◌∷◌, ◌++◌, append_assoc}
use Prim.Native.Nat.{ℕ, zero, suc, ◌+◌, ◌≤◌}
use native.Mathlib.Omega.{arith}
use Rattle.std.proofs.lemmas.Bool.{not-true}
use Rattle.std.proofs.Math.ListN.{length}
use Rattle.definitions.specs.Syntax.{Term, var, con, app, Terms, nil, cons, Formula, top, bot, pred, eq, neg, bin, blk, count, term_weight, terms_weight, weight, term_depth, terms_depth, depth}
use Rattle.definitions.specs.Limits.{Limits}
use Rattle.definitions.specs.RuleText.{Node, top_node, bot_node, not_node, eq_node, bin_node, block_node, pred_node, fun_node, var_node, con_node, term_nodes, terms_nodes, nodes}
use Rattle.definitions.specs.Reading.{node_weight, is_term, Due, some_due, parts, agree, Tree, formula_tree, term_tree, plant, trees}
use Rattle.definitions.proofs.Laws.Bools.{clash}
use Rattle.definitions.specs.Laws.Trees.{term_trees}
use Rattle.definitions.proofs.Laws.Trees.{take_them, drop_them}
use Rattle.definitions.specs.Laws.Served.{Fits, Grown, Served, all_nodes, all_weight}

module _ (L : Limits) where
  mutual
    unfolding term_weight terms_weight term_depth terms_depth term_nodes terms_nodes count

    serve_term : (t : Term) (D : ℕ) (due : List Due) (w v : ℕ) (l : List Node) → D + term_depth t ≤ suc L.depth → w + term_weight t ≡ v → v ≤ L.weight
        → Served L l due v → Served L (term_nodes t ++ l) (record { term = true; depth = D } ∷ due) w
    serve_term (var x) D due w v l h e g s = (refl, omega arith, omega arith, rw e s)
    serve_term (con c) D due w v l h e g s = (refl, omega arith, omega arith, rw e s)
    serve_term (app f ts) D due w v l h e g s = (refl, omega arith, omega arith, serve_terms ts (suc D) due (w + 1) v l (omega arith) (omega arith) g s)

    serve_terms : (ts : Terms) (D : ℕ) (due : List Due) (w v : ℕ) (l : List Node) → D + terms_depth ts ≤ suc L.depth → w + terms_weight ts ≡ v → v ≤ L.weight
        → Served L l due v → Served L (terms_nodes ts ++ l) (some_due (count ts) true D ++ due) w
    serve_terms nil D due w v l h e g s = let z : w ≡ v = omega arith in rw z s
    serve_terms (cons t ts) D due w v l h e g s =
        rw append_assoc (serve_term t D (some_due (count ts) true D ++ due) w (w + term_weight t) (terms_nodes ts ++ l) (omega arith) refl (omega arith)
        (serve_terms ts D due (w + term_weight t) v l (omega arith) (omega arith) g s))

  pub serve : (f : Formula) (D : ℕ) (due : List Due) (w v : ℕ) (l : List Node) → D + depth f ≤ suc L.depth → w + weight f ≡ v → v ≤ L.weight
      → Served L l due v → Served L (nodes f ++ l) (record { term = false; depth = D } ∷ due) w
  unfolding weight depth nodes
  serve top D due w v l h e g s = (refl, omega arith, omega arith, rw e s)
  serve bot D due w v l h e g s = (refl, omega arith, omega arith, rw e s)
  serve (pred p ts) D due w v l h e g s = (refl, omega arith, omega arith, serve_terms ts (suc D) due (w + 1) v l (omega arith) (omega arith) g s)
  serve (eq t u) D due w v l h e g s = (
    refl,
    omega arith,
    omega arith,
    rw (append_assoc (term_nodes t) (term_nodes u) l) (serve_term t (suc D) (some_due 1 true (suc D) ++ due) (w + 1) (w + 1 + term_weight t) (term_nodes u ++ l) (omega arith) refl (omega arith)
        (serve_term u (suc D) due (w + 1 + term_weight t) v l (omega arith) (omega arith) g s)),
  )
  serve (neg f) D due w v l h e g s = (refl, omega arith, omega arith, serve f (suc D) due (w + 1) v l (omega arith) (omega arith) g s)
  serve (bin o f k) D due w v l h e g s = (
    refl,
    omega arith,
    omega arith,
    rw (append_assoc (nodes f) (nodes k) l) (serve f (suc D) (some_due 1 false (suc D) ++ due) (w + 1) (w + 1 + weight f) (nodes k ++ l) (omega arith) refl (omega arith)
        (serve k (suc D) due (w + 1 + weight f) v l (omega arith) (omega arith) g s)),
  )
  serve (blk q vs f) D due w v l h e g s = (refl, omega arith, omega arith, serve f (suc D) due (w + (1 + length vs)) v l (omega arith) (omega arith) g s)

terms_all_nodes : (ts : Terms) (T : List Tree) → terms_nodes ts ++ all_nodes T ≡ all_nodes (term_trees ts T)
unfolding terms_nodes
terms_all_nodes nil T = refl
terms_all_nodes (cons t ts) T = append_assoc (term_nodes t) (terms_nodes ts) (all_nodes T) ∙ ap (λ (l : List Node). term_nodes t ++ l) (terms_all_nodes ts T)

terms_all_weight : (ts : Terms) (T : List Tree) → terms_weight ts + all_weight T ≡ all_weight (term_trees ts T)
unfolding terms_weight
terms_all_weight nil T = omega arith
terms_all_weight (cons t ts) T = omega (arith, terms_all_weight ts T)

-- what a node makes of the trees behind it
record Planted (L : Limits) (n : Node) (d : Due) (due : List Due) (T : List Tree) : Type 0 where
  again : all_nodes (plant n T) ≡ n ∷ all_nodes T
  heavier : all_weight (plant n T) ≡ node_weight n + all_weight T
  fits : Fits L (d ∷ due) (plant n T)

module _ (L : Limits) where
  -- what fits where a formula, a term or some terms are due first, begins with them
  by_formula : (P : List Tree → Type 0) (D : ℕ) (due : List Due) (T : List Tree) → Fits L (record { term = false; depth = D } ∷ due) T
      → ((f : Formula) (U : List Tree) → D + depth f ≤ suc L.depth → Fits L due U → P (formula_tree f ∷ U)) → P T
  by_formula P D due [] h k = absurd h
  by_formula P D due (formula_tree f ∷ U) h k = k f U h.0.1 h.1
  by_formula P D due (term_tree t ∷ U) h k = clash h.0.0 refl

  by_term : (P : List Tree → Type 0) (D : ℕ) (due : List Due) (T : List Tree) → Fits L (record { term = true; depth = D } ∷ due) T
      → ((t : Term) (U : List Tree) → D + term_depth t ≤ suc L.depth → Fits L due U → P (term_tree t ∷ U)) → P T
  by_term P D due [] h k = absurd h
  by_term P D due (formula_tree f ∷ U) h k = clash refl h.0.0
  by_term P D due (term_tree t ∷ U) h k = k t U h.0.1 h.1

  by_terms : (n : ℕ) (P : List Tree → Type 0) (D : ℕ) (due : List Due) → D ≤ suc L.depth → (T : List Tree) → Fits L (some_due n true D ++ due) T
      → ((ts : Terms) (U : List Tree) → count ts ≡ n → D + terms_depth ts ≤ suc L.depth → Fits L due U → P (term_trees ts U)) → P T
  unfolding count terms_depth
  by_terms zero P D due low T h k = k nil T refl (omega arith) h
  by_terms (suc n) P D due low T h k =
      by_term P D (some_due n true D ++ due) T h (λ t U a fs. by_terms n (λ U. P (term_tree t ∷ U)) D due low U fs (λ ts W c b gs. k (cons t ts) W (ap suc c) (omega arith) gs))

  planted : (n : Node) (d : Due) (due : List Due) (T : List Tree) → agree (is_term n) d.term ≡ true → d.depth ≤ L.depth
      → Fits L (parts n (suc d.depth) ++ due) T → Planted L n d due T
  unfolding plant nodes weight depth term_nodes term_weight term_depth
  planted top_node d due T a low fs = record { again = refl; heavier = refl; fits = ((not-true d.term a, omega arith), fs) }
  planted bot_node d due T a low fs = record { again = refl; heavier = refl; fits = ((not-true d.term a, omega arith), fs) }
  planted not_node d due T a low fs =
      by_formula (λ T. Planted L not_node d due T) (suc d.depth) due T fs
      (λ f U b gs. record { again = refl; heavier = omega arith; fits = ((not-true d.term a, omega arith), gs) })
  planted eq_node d due T a low fs =
      by_term (λ T. Planted L eq_node d due T) (suc d.depth) (some_due 1 true (suc d.depth) ++ due) T fs
      (λ t U b gs. by_term (λ U. Planted L eq_node d due (term_tree t ∷ U)) (suc d.depth) due U gs
      (λ u W c hs. record {
        again = ap (λ (l : List Node). eq_node ∷ l) (append_assoc (term_nodes t) (term_nodes u) (all_nodes W));
        heavier = omega arith;
        fits = ((not-true d.term a, omega arith), hs);
      }))
  planted (bin_node o) d due T a low fs =
      by_formula (λ T. Planted L (bin_node o) d due T) (suc d.depth) (some_due 1 false (suc d.depth) ++ due) T fs
      (λ f U b gs. by_formula (λ U. Planted L (bin_node o) d due (formula_tree f ∷ U)) (suc d.depth) due U gs
      (λ g W c hs. record {
        again = ap (λ (l : List Node). bin_node o ∷ l) (append_assoc (nodes f) (nodes g) (all_nodes W));
        heavier = omega arith;
        fits = ((not-true d.term a, omega arith), hs);
      }))
  planted (block_node q vs) d due T a low fs =
      by_formula (λ T. Planted L (block_node q vs) d due T) (suc d.depth) due T fs
      (λ f U b gs. record { again = refl; heavier = omega arith; fits = ((not-true d.term a, omega arith), gs) })
  planted (pred_node p n) d due T a low fs =
      by_terms n (λ T. Planted L (pred_node p n) d due T) (suc d.depth) due (omega arith) T fs
      (λ ts U c b gs. rw (← c) (record {
        again = rw (take_them ts U, drop_them ts U) (ap (λ (l : List Node). pred_node p (count ts) ∷ l) (terms_all_nodes ts U));
        heavier = rw (take_them ts U, drop_them ts U) (omega (arith, terms_all_weight ts U));
        fits = rw (take_them ts U, drop_them ts U) ((not-true d.term a, omega arith), gs);
      }))
  planted (fun_node f n) d due T a low fs =
      by_terms n (λ T. Planted L (fun_node f n) d due T) (suc d.depth) due (omega arith) T fs
      (λ ts U c b gs. rw (← c) (record {
        again = rw (take_them ts U, drop_them ts U) (ap (λ (l : List Node). fun_node f (count ts) ∷ l) (terms_all_nodes ts U));
        heavier = rw (take_them ts U, drop_them ts U) (omega (arith, terms_all_weight ts U));
        fits = rw (take_them ts U, drop_them ts U) ((a, omega arith), gs);
      }))
  planted (var_node x) d due T a low fs = record { again = refl; heavier = refl; fits = ((a, omega arith), fs) }
  planted (con_node c) d due T a low fs = record { again = refl; heavier = refl; fits = ((a, omega arith), fs) }

pub grown : (L : Limits) (l : List Node) (due : List Due) (w : ℕ) → w ≤ L.weight → Served L l due w → Grown L l due w
unfolding trees
grown L [] [] w h s = record { again = refl; fits = tt; light = omega arith }
grown L [] (d ∷ due) w h s = absurd s
grown L (n ∷ l) [] w h s = absurd s
grown L (n ∷ l) (d ∷ due) w h s =
    let g = grown L l (parts n (suc d.depth) ++ due) (w + node_weight n) s.2 s.3 in
    let p = planted L n d due (trees l) s.0 s.1 g.fits in
    record { again = p.again ∙ ap (λ (m : List Node). n ∷ m) g.again; fits = p.fits; light = omega (arith, p.heavier, g.light) }
