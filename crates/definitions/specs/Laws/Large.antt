-- Refusal 3: a tree whose lines are all good, but whose weight or depth passes the limit, is refused at the first line that passes it.
use Rattle.std.specs.Prelude.{◌≡◌, ℕ, suc, ◌+◌, ◌≤◌, length}
use mathlib.Core.List.{List, [], ◌∷◌, ◌++◌}
use Rattle.definitions.specs.Syntax.{Term, var, con, app, Terms, nil, cons, Formula, top, bot, pred, eq, neg, bin, blk}
use Rattle.definitions.specs.Limits.{Limits}
use Rattle.definitions.specs.RuleText.{Node, nodes}
use Rattle.definitions.specs.Reading.{node_weight}
use Rattle.definitions.specs.Laws.Within.{AllGood}

-- the depth of each node, parent first, where that of the root is D
unfoldable mutual
  pub term_depths : ℕ → Term → List ℕ
  term_depths D (var x) = D ∷ []
  term_depths D (con c) = D ∷ []
  term_depths D (app f ts) = D ∷ terms_depths (suc D) ts

  pub terms_depths : ℕ → Terms → List ℕ
  terms_depths D nil = []
  terms_depths D (cons t ts) = term_depths D t ++ terms_depths D ts

unfoldable pub depths : ℕ → Formula → List ℕ
depths D top = D ∷ []
depths D bot = D ∷ []
depths D (pred p ts) = D ∷ terms_depths (suc D) ts
depths D (eq t u) = D ∷ (term_depths (suc D) t ++ term_depths (suc D) u)
depths D (neg f) = D ∷ depths (suc D) f
depths D (bin o f g) = D ∷ (depths (suc D) f ++ depths (suc D) g)
depths D (blk q vs f) = D ∷ depths (suc D) f

unfoldable pub nodes_weight : List Node → ℕ
nodes_weight [] = 0
nodes_weight (n ∷ l) = node_weight n + nodes_weight l

abbrev pub AllAtMost : ℕ → List ℕ → Type 0
AllAtMost z [] = Unit {0}
AllAtMost z (D ∷ a) = (D ≤ z) × AllAtMost z a

-- a tree with good lines, cut before its node n at depth D; before it neither the depth nor the weight has passed its limit
pub record Cut (L : Limits) (f : Formula) (l : List Node) (n : Node) (D : ℕ) : Type 0 where
  pub behind : List Node
  pub depths_before : List ℕ
  pub depths_behind : List ℕ
  pub cut : nodes f ≡ l ++ (n ∷ behind)
  pub depths_cut : depths 1 f ≡ depths_before ++ (D ∷ depths_behind)
  pub alike : length depths_before ≡ length l
  pub good : AllGood L (nodes f)
  pub shallow : AllAtMost L.depth depths_before
  pub light : nodes_weight l ≤ L.weight
