-- Nodes serve what is due just when they are the nodes of trees of the due sorts, not too deep and not too heavy.
-- One way by the trees, each laying its nodes before what follows; back by the nodes, each planted on the trees of those behind it.
use Rattle.std.specs.Prelude.{◌≡◌}
use Rattle.std.proofs.Math.Bool.{true, false}
use mathlib.Core.List.{List, [], ◌∷◌, ◌++◌}
use Prim.Native.Nat.{ℕ, suc, ◌+◌, ◌≤◌}
use Rattle.definitions.specs.Syntax.{term_weight, weight, term_depth, depth}
use Rattle.definitions.specs.Limits.{Limits}
use Rattle.definitions.specs.RuleText.{Node, term_nodes, nodes}
use Rattle.definitions.specs.Reading.{node_weight, is_term, Due, parts, agree, Tree, formula_tree, term_tree, trees}

-- the nodes l go through one after another where these things are due and w is the weight so far, and nothing is due behind them
abbrev pub Served : Limits → List Node → List Due → ℕ → Type 0
Served L [] [] w = Unit {0}
Served L [] (d ∷ due) w = ⊥
Served L (n ∷ l) [] w = ⊥
Served L (n ∷ l) (d ∷ due) w =
    (agree (is_term n) d.term ≡ true) × (d.depth ≤ L.depth) × (w + node_weight n ≤ L.weight) × Served L l (parts n (suc d.depth) ++ due) (w + node_weight n)

-- a tree is one that is due
abbrev pub Fit : Limits → Due → Tree → Type 0
Fit L d (formula_tree f) = (d.term ≡ false) × (d.depth + depth f ≤ suc L.depth)
Fit L d (term_tree t) = (d.term ≡ true) × (d.depth + term_depth t ≤ suc L.depth)

abbrev pub Fits : Limits → List Due → List Tree → Type 0
Fits L [] [] = Unit {0}
Fits L [] (t ∷ T) = ⊥
Fits L (d ∷ due) [] = ⊥
Fits L (d ∷ due) (t ∷ T) = Fit L d t × Fits L due T

-- the nodes and the weight of trees
abbrev pub tree_nodes : Tree → List Node
tree_nodes (formula_tree f) = nodes f
tree_nodes (term_tree t) = term_nodes t

abbrev pub all_nodes : List Tree → List Node
all_nodes [] = []
all_nodes (t ∷ T) = tree_nodes t ++ all_nodes T

abbrev pub tree_weight : Tree → ℕ
tree_weight (formula_tree f) = weight f
tree_weight (term_tree t) = term_weight t

abbrev pub all_weight : List Tree → ℕ
all_weight [] = 0
all_weight (t ∷ T) = tree_weight t + all_weight T

-- Nodes that serve what is due are the nodes of their trees, and those are what is due.
pub record Grown (L : Limits) (l : List Node) (due : List Due) (w : ℕ) : Type 0 where
  pub again : all_nodes (trees l) ≡ l
  pub fits : Fits L due (trees l)
  pub light : w + all_weight (trees l) ≤ L.weight
