-- When a formula is within the limits: its weight, its depth, and each of its lines.
use Rattle.std.specs.Prelude.{◌≡◌, true, List, [], ◌∷◌, ◌≤◌, length}
use Rattle.definitions.specs.Syntax.{Formula, weight, depth}
use Rattle.definitions.specs.Limits.{Limits}
use Rattle.definitions.specs.RuleText.{simple_name, variable_name, symbol_name, is_name, Node, top_node, bot_node, not_node, eq_node, bin_node, block_node, pred_node, fun_node, var_node, con_node, line, nodes}
use Rattle.definitions.specs.Reading.{all_names}

-- a block has 1 to 32 variables, a predicate or function 0 to 32 arguments, and each name is one in its manner
abbrev pub Allowed : Limits → Node → Type 0
Allowed L top_node = Unit {0}
Allowed L bot_node = Unit {0}
Allowed L not_node = Unit {0}
Allowed L eq_node = Unit {0}
Allowed L (bin_node o) = Unit {0}
Allowed L (block_node q vs) = (1 ≤ length vs) × (length vs ≤ L.block) × (all_names L variable_name vs ≡ true)
Allowed L (pred_node p n) = (is_name L simple_name p ≡ true) × (n ≤ L.arguments)
Allowed L (fun_node f n) = (is_name L symbol_name f ≡ true) × (n ≤ L.arguments)
Allowed L (var_node x) = is_name L variable_name x ≡ true
Allowed L (con_node c) = is_name L symbol_name c ≡ true

-- a node whose line is a line: what stands on it is allowed, and it is not too long
pub record Good (L : Limits) (n : Node) : Type 0 where
  pub allowed : Allowed L n
  pub short : length (line n) ≤ L.line

abbrev pub AllGood : Limits → List Node → Type 0
AllGood L [] = Unit {0}
AllGood L (n ∷ l) = Good L n × AllGood L l

pub record Within (L : Limits) (f : Formula) : Type 0 where
  pub light : weight f ≤ L.weight
  pub shallow : depth f ≤ L.depth
  pub good : AllGood L (nodes f)
