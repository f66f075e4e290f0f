-- Reading rule text: the tree, or the refusals 2 (malformed) and 3 (too large) with the line, from 1.
use Rattle.std.specs.Prelude.{Bool, true, false, not, ◌&&◌, cond, List, [], ◌∷◌, ◌++◌, ℕ, zero, suc, ◌+◌, leb, length, replicate}
use Rattle.std.proofs.Math.Option.{Option, none, some}
use Rattle.definitions.specs.Bytes.{Bytes, TAB, LF, same, null, split, number}
use Rattle.definitions.specs.Syntax.{Name, Term, var, con, app, Terms, nil, cons, and, or, imp, iff, Quant, all, ex, Formula, top, bot, pred, eq, neg, bin, blk}
use Rattle.definitions.specs.Limits.{Limits}
use Rattle.definitions.specs.RuleText.{Manner, simple_name, variable_name, symbol_name, is_name, Node, top_node, bot_node, not_node, eq_node, bin_node, block_node, pred_node, fun_node, var_node, con_node, op_word, quant_word, keyword}

-- A line's node. First the keyword; each says which fields may follow it.
pub data Kind : Type 0 where
  alone : Node → Kind
  blocks : Quant → Kind
  applied : Manner → (Name → ℕ → Node) → Kind
  symbol : Manner → (Name → Node) → Kind
  unknown : Kind

unfoldable pub look_up : List (Bytes × Kind) → Bytes → Kind
look_up [] w = unknown
look_up (e ∷ l) w = cond (same w e.0) e.1 (look_up l w)

abbrev pub keywords : List (Bytes × Kind)
keywords =
    (keyword top_node, alone top_node) ∷ (keyword bot_node, alone bot_node) ∷ (keyword not_node, alone not_node)
    ∷ (op_word and, alone (bin_node and)) ∷ (op_word or, alone (bin_node or)) ∷ (op_word imp, alone (bin_node imp)) ∷ (op_word iff, alone (bin_node iff))
    ∷ (keyword eq_node, alone eq_node)
    ∷ (quant_word all, blocks all) ∷ (quant_word ex, blocks ex)
    ∷ (keyword (pred_node [] 0), applied simple_name pred_node) ∷ (keyword (fun_node [] 0), applied symbol_name fun_node)
    ∷ (keyword (var_node []), symbol variable_name var_node) ∷ (keyword (con_node []), symbol symbol_name con_node)
    ∷ []

unfoldable pub all_names : Limits → Manner → List Bytes → Bool
all_names L m [] = true
all_names L m (x ∷ l) = is_name L m x && all_names L m l

-- an argument count, 0 to the limit
abbrev pub counted : Limits → Option ℕ → (ℕ → Node) → Option Node
counted L none k = none
counted L (some n) k = cond (leb n L.arguments) (some (k n)) none

abbrev pub if : Bool → Option Node → Option Node
if b o = cond b o none

unfoldable pub of_kind : Limits → Kind → List Bytes → Option Node
of_kind L (alone n) [] = some n
of_kind L (alone n) (f ∷ l) = none
of_kind L (blocks q) [] = none
of_kind L (blocks q) (f ∷ l) = if (leb (length (f ∷ l)) L.block && all_names L variable_name (f ∷ l)) (some (block_node q (f ∷ l)))
of_kind L (applied m k) [] = none
of_kind L (applied m k) (f ∷ []) = none
of_kind L (applied m k) (f ∷ n ∷ []) = if (is_name L m f) (counted L (number n) (k f))
of_kind L (applied m k) (f ∷ n ∷ g ∷ l) = none
of_kind L (symbol m k) [] = none
of_kind L (symbol m k) (f ∷ []) = if (is_name L m f) (some (k f))
of_kind L (symbol m k) (f ∷ g ∷ l) = none
of_kind L unknown l = none

abbrev pub of_fields : Limits → List Bytes → Option Node
of_fields L [] = none
of_fields L (w ∷ l) = of_kind L (look_up keywords w) l

-- the node of a line; none where the line is bad
unfoldable pub parse : Limits → Bytes → Option Node
parse L s = if (leb (length s) L.line) (of_fields L (split TAB s))

-- What a node weighs, whether it is a formula or a term, and which parts it has.
abbrev pub node_weight : Node → ℕ
node_weight top_node = 1
node_weight bot_node = 1
node_weight not_node = 1
node_weight eq_node = 1
node_weight (bin_node o) = 1
node_weight (block_node q vs) = 1 + length vs
node_weight (pred_node p n) = 1
node_weight (fun_node f n) = 1
node_weight (var_node x) = 1
node_weight (con_node c) = 1

abbrev pub is_term : Node → Bool
is_term top_node = false
is_term bot_node = false
is_term not_node = false
is_term eq_node = false
is_term (bin_node o) = false
is_term (block_node q vs) = false
is_term (pred_node p n) = false
is_term (fun_node f n) = true
is_term (var_node x) = true
is_term (con_node c) = true

-- something that is due: a formula or a term, at a depth
pub record Due : Type 0 where
  pub term : Bool
  pub depth : ℕ

abbrev pub some_due : ℕ → Bool → ℕ → List Due
some_due n t d = replicate n (record { term = t; depth = d })

-- the parts of a node, at the depth d
abbrev pub parts : Node → ℕ → List Due
parts top_node d = []
parts bot_node d = []
parts not_node d = some_due 1 false d
parts eq_node d = some_due 2 true d
parts (bin_node o) d = some_due 2 false d
parts (block_node q vs) d = some_due 1 false d
parts (pred_node p n) d = some_due n true d
parts (fun_node f n) d = some_due n true d
parts (var_node x) d = []
parts (con_node c) d = []

abbrev pub agree : Bool → Bool → Bool
agree true b = b
agree false b = not b

-- What a line does where some things are due, in the order in which they are, and w is the weight so far:
-- bad (2 comes before 3 on one line), too large, or on to what is due then.
pub data Step : Type 0 where
  bad over : Step
  on : Node → List Due → Step

abbrev pub place : Limits → List Due → ℕ → Option Node → Step
place L due w none = bad
place L [] w (some n) = bad
place L (d ∷ due) w (some n) =
    cond (agree (is_term n) d.term)
    (cond (leb d.depth L.depth && leb (w + node_weight n) L.weight) (on n (parts n (suc d.depth) ++ due)) over)
    bad

pub data Scan : Type 0 where
  read_nodes : List Node → Scan
  bad_line large_line : ℕ → Scan

abbrev pub before : Node → Scan → Scan
before n (read_nodes l) = read_nodes (n ∷ l)
before n (bad_line k) = bad_line k
before n (large_line k) = large_line k

-- The lines from the k-th on. The last piece is what follows the last LF: it has to be empty, with nothing due.
-- So an unfinished tree is refused one past the last line, and a last line without its LF is refused itself.
unfoldable pub scan : Limits → List Due → ℕ → ℕ → List Bytes → Scan
scan L due w k [] = bad_line k
scan L due w k (l ∷ []) = cond (null l && null due) (read_nodes []) (bad_line k)
scan L due w k (l ∷ m ∷ rest) =
    elim (place L due w (parse L l)) [
      | bad ↦ bad_line k
      | over ↦ large_line k
      | on n due' ↦ before n (scan L due' (w + node_weight n) (suc k) (m ∷ rest))
    ]

-- The trees that a list of nodes writes one behind another, from its end: a node takes its parts from the front of those behind it.
pub data Tree : Type 0 where
  formula_tree : Formula → Tree
  term_tree : Term → Tree

-- where a part is missing or of the other sort, something stands in that no accepted text brings up
abbrev pub as_formula : Tree → Formula
as_formula (formula_tree f) = f
as_formula (term_tree t) = top

abbrev pub as_term : Tree → Term
as_term (formula_tree f) = var []
as_term (term_tree t) = t

abbrev pub first : List Tree → Tree
first [] = formula_tree top
first (t ∷ l) = t

abbrev pub rest : List Tree → List Tree
rest [] = []
rest (t ∷ l) = l

unfoldable pub take_terms : ℕ → List Tree → Terms
take_terms zero l = nil
take_terms (suc n) l = cons (as_term (first l)) (take_terms n (rest l))

unfoldable pub drop_terms : ℕ → List Tree → List Tree
drop_terms zero l = l
drop_terms (suc n) l = drop_terms n (rest l)

unfoldable pub plant : Node → List Tree → List Tree
plant top_node l = formula_tree top ∷ l
plant bot_node l = formula_tree bot ∷ l
plant not_node l = formula_tree (neg (as_formula (first l))) ∷ rest l
plant eq_node l = formula_tree (eq (as_term (first l)) (as_term (first (rest l)))) ∷ rest (rest l)
plant (bin_node o) l = formula_tree (bin o (as_formula (first l)) (as_formula (first (rest l)))) ∷ rest (rest l)
plant (block_node q vs) l = formula_tree (blk q vs (as_formula (first l))) ∷ rest l
plant (pred_node p n) l = formula_tree (pred p (take_terms n l)) ∷ drop_terms n l
plant (fun_node f n) l = term_tree (app f (take_terms n l)) ∷ drop_terms n l
plant (var_node x) l = term_tree (var x) ∷ l
plant (con_node c) l = term_tree (con c) ∷ l

unfoldable pub trees : List Node → List Tree
trees [] = []
trees (n ∷ l) = plant n (trees l)

-- What a text is: a tree, or malformed, or too large, at a line.
pub data Reading : Type 0 where
  tree : Formula → Reading
  malformed large : ℕ → Reading

abbrev pub settle : Scan → Reading
settle (read_nodes l) = tree (as_formula (first (trees l)))
settle (bad_line k) = malformed k
settle (large_line k) = large k

-- at first one formula is due, at depth 1
unfoldable pub read : Limits → Bytes → Reading
read L text = settle (scan L (some_due 1 false 1) 0 1 (split LF text))
