-- Rule text: a tree is written parent first, children left to right, one node a line; fields are parted by tabs, lines end in LF.
use Rattle.std.specs.Prelude.{Bool, false, ◌&&◌, ◌||◌, List, [], ◌∷◌, ◌++◌, ℕ, eqb, leb, length}
use Rattle.definitions.specs.Bytes.{Bytes, TAB, LF, null, behind_each, skip, decimal}
use Rattle.definitions.specs.Syntax.{Name, Term, var, con, app, Terms, nil, cons, Op, and, or, imp, iff, Quant, all, ex, Formula, top, bot, pred, eq, neg, bin, blk, count}
use Rattle.definitions.specs.Limits.{Limits}

-- Names: ASCII letters, digits, underscore, first a letter or underscore.
abbrev pub between : ℕ → ℕ → ℕ → Bool
between a z b = leb a b && leb b z

unfoldable pub letter : ℕ → Bool
letter b = between 65 90 b || between 97 122 b || eqb b 95

unfoldable pub digit : ℕ → Bool
digit b = between 48 57 b

unfoldable pub word : ℕ → Bool
word b = letter b || digit b

-- with `#`, and backticks
unfoldable pub hashed : ℕ → Bool
hashed b = word b || eqb b 35

unfoldable pub tick : ℕ → Bool
tick b = eqb b 96

-- Predicates and labels are plain; a variable may end in backticks; constants and functions may contain `#`, not first.
pub data Manner : Type 0 where
  simple_name variable_name symbol_name : Manner

unfoldable pub behind : Manner → Bytes → Bytes
behind simple_name s = skip word s
behind variable_name s = skip tick (skip word s)
behind symbol_name s = skip hashed s

unfoldable pub is_name : Limits → Manner → Bytes → Bool
is_name L m [] = false
is_name L m (b ∷ s) = leb (length (b ∷ s)) L.name && letter b && null (behind m s)

-- What stands on one line: a node, without its parts.
pub data Node : Type 0 where
  top_node bot_node not_node eq_node : Node
  bin_node : Op → Node
  block_node : Quant → List Name → Node
  pred_node fun_node : Name → ℕ → Node
  var_node con_node : Name → Node

-- its keyword: `top` `bot` `not` `eq`, `and` `or` `imp` `iff`, `all` `ex`, `pred` `fun` `var` `con`
abbrev pub op_word : Op → Bytes
op_word and = 97 ∷ 110 ∷ 100 ∷ []
op_word or = 111 ∷ 114 ∷ []
op_word imp = 105 ∷ 109 ∷ 112 ∷ []
op_word iff = 105 ∷ 102 ∷ 102 ∷ []

abbrev pub quant_word : Quant → Bytes
quant_word all = 97 ∷ 108 ∷ 108 ∷ []
quant_word ex = 101 ∷ 120 ∷ []

abbrev pub keyword : Node → Bytes
keyword top_node = 116 ∷ 111 ∷ 112 ∷ []
keyword bot_node = 98 ∷ 111 ∷ 116 ∷ []
keyword not_node = 110 ∷ 111 ∷ 116 ∷ []
keyword eq_node = 101 ∷ 113 ∷ []
keyword (bin_node o) = op_word o
keyword (block_node q vs) = quant_word q
keyword (pred_node p n) = 112 ∷ 114 ∷ 101 ∷ 100 ∷ []
keyword (fun_node f n) = 102 ∷ 117 ∷ 110 ∷ []
keyword (var_node x) = 118 ∷ 97 ∷ 114 ∷ []
keyword (con_node c) = 99 ∷ 111 ∷ 110 ∷ []

-- the fields behind the keyword: a block's variables, a name, an argument count
abbrev pub fields : Node → List Bytes
fields top_node = []
fields bot_node = []
fields not_node = []
fields eq_node = []
fields (bin_node o) = []
fields (block_node q vs) = vs
fields (pred_node p n) = p ∷ decimal n ∷ []
fields (fun_node f n) = f ∷ decimal n ∷ []
fields (var_node x) = x ∷ []
fields (con_node c) = c ∷ []

abbrev pub line : Node → Bytes
line n = keyword n ++ behind_each TAB (fields n)

-- the text of nodes on lines one behind another
unfoldable pub lines : List Node → Bytes
lines [] = []
lines (n ∷ l) = line n ++ (LF ∷ lines l)

-- the nodes of a tree, parent first
unfoldable mutual
  pub term_nodes : Term → List Node
  term_nodes (var x) = var_node x ∷ []
  term_nodes (con c) = con_node c ∷ []
  term_nodes (app f ts) = fun_node f (count ts) ∷ terms_nodes ts

  pub terms_nodes : Terms → List Node
  terms_nodes nil = []
  terms_nodes (cons t ts) = term_nodes t ++ terms_nodes ts

unfoldable pub nodes : Formula → List Node
nodes top = top_node ∷ []
nodes bot = bot_node ∷ []
nodes (pred p ts) = pred_node p (count ts) ∷ terms_nodes ts
nodes (eq t u) = eq_node ∷ (term_nodes t ++ term_nodes u)
nodes (neg f) = not_node ∷ nodes f
nodes (bin o f g) = bin_node o ∷ (nodes f ++ nodes g)
nodes (blk q vs f) = block_node q vs ∷ nodes f

-- the rule text of a tree
unfoldable pub written : Formula → Bytes
written f = lines (nodes f)
