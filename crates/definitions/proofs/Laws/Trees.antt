-- The nodes of trees, one behind another, are planted to those trees again.
use Rattle.std.specs.Prelude.{◌≡◌, refl, List, ◌∷◌, ◌++◌}
use Rattle.std.proofs.Common.{◌∙◌, ap, append_assoc}
use Rattle.definitions.specs.Syntax.{Term, var, con, app, Terms, nil, cons, Formula, top, bot, pred, eq, neg, bin, blk, count}
use Rattle.definitions.specs.RuleText.{Node, term_nodes, terms_nodes, nodes}
use Rattle.definitions.specs.Reading.{Tree, formula_tree, term_tree, take_terms, drop_terms, plant, trees}
use Rattle.definitions.specs.Laws.Trees.{term_trees}

pub take_them : (ts : Terms) (l : List Tree) → take_terms (count ts) (term_trees ts l) ≡ ts
unfolding take_terms count
take_them nil l = refl
take_them (cons t ts) l = ap (cons t) (take_them ts l)

pub drop_them : (ts : Terms) (l : List Tree) → drop_terms (count ts) (term_trees ts l) ≡ l
unfolding drop_terms count
drop_them nil l = refl
drop_them (cons t ts) l = drop_them ts l

mutual
  unfolding trees plant term_nodes terms_nodes

  pub trees_term : (t : Term) (l : List Node) → trees (term_nodes t ++ l) ≡ term_tree t ∷ trees l
  trees_term (var x) l = refl
  trees_term (con c) l = refl
  trees_term (app f ts) l = rw (trees_terms ts l, take_them ts (trees l), drop_them ts (trees l))

  pub trees_terms : (ts : Terms) (l : List Node) → trees (terms_nodes ts ++ l) ≡ term_trees ts (trees l)
  trees_terms nil l = refl
  trees_terms (cons t ts) l = rw append_assoc (trees_term t (terms_nodes ts ++ l) ∙ ap (λ (r : List Tree). term_tree t ∷ r) (trees_terms ts l))

pub trees_formula : (f : Formula) (l : List Node) → trees (nodes f ++ l) ≡ formula_tree f ∷ trees l
unfolding trees plant nodes
trees_formula top l = refl
trees_formula bot l = refl
trees_formula (pred p ts) l = rw (trees_terms ts l, take_them ts (trees l), drop_them ts (trees l))
trees_formula (eq t u) l = rw (append_assoc (term_nodes t) (term_nodes u) l, trees_term t (term_nodes u ++ l), trees_term u l)
trees_formula (neg f) l = rw (trees_formula f l)
trees_formula (bin o f g) l = rw (append_assoc (nodes f) (nodes g) l, trees_formula f (nodes g ++ l), trees_formula g l)
trees_formula (blk q vs f) l = rw (trees_formula f l)
