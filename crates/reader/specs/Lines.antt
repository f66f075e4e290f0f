-- A line of rule text as the reader takes it apart: the kind that its keyword names, the name and the count behind it, and the words that
-- stand for its node.
use Rattle.std.specs.Prelude.{◌≡◌, Bool, true, false, not, ◌&&◌, cond, List, [], ◌∷◌, ◌++◌, map, ℕ, suc, ◌+◌, ◌-◌, ◌≤◌, ◌<◌, eqb, leb, ltb, length}
use Rattle.std.specs.Prelude.{refl, take, drop, Option, Some, None, MatchOption}
use Rattle.std.proofs.Math.Option.{Option as Perhaps, none, some}
use Rattle.definitions.specs.Bytes.{Bytes, TAB, split, number}
use Rattle.definitions.specs.Limits.{house}
use Rattle.definitions.specs.Syntax.{and, or, imp, iff, all, ex}
use Rattle.definitions.specs.RuleText.{Manner, simple_name, variable_name, symbol_name, digit, Node, top_node, bot_node, not_node, eq_node, bin_node}
use Rattle.definitions.specs.RuleText.{block_node, pred_node, fun_node, var_node, con_node}
use Rattle.definitions.specs.Reading.{Kind as Keyword, unknown, keywords, look_up, alone, blocks, applied, symbol, of_kind, all_names, counted}
use Rattle.definitions.specs.Reading.{node_weight, is_term, parts, some_due}
use Rattle.text.specs.declared.kind.Kind.{Kind}
use Rattle.text.specs.declared.kind.Kind.TheVariants.{Top, Bottom, Not, And, Or, Implies, Iff, Equals, All, Exists, Predicate, Function, Variable, Constant}
use Rattle.text.specs.Kinds.{number as kind_number}
use Rattle.text.specs.Words.{is_made, size_of, start_of, Token, var_token, sign, tokens, op_kind, block_code}
use Rattle.reader.specs.declared.Seen.{Seen}

-- how many bytes stand before the first b
unfoldable pub upto : ℕ → Bytes → ℕ
upto b [] = 0
upto b (x ∷ s) = cond (eqb x b) 0 (suc (upto b s))

-- what a kind's keyword stands for
abbrev pub keyword_of : Kind → Keyword
keyword_of Top = alone top_node
keyword_of Bottom = alone bot_node
keyword_of Not = alone not_node
keyword_of And = alone (bin_node and)
keyword_of Or = alone (bin_node or)
keyword_of Implies = alone (bin_node imp)
keyword_of Iff = alone (bin_node iff)
keyword_of Equals = alone eq_node
keyword_of All = blocks all
keyword_of Exists = blocks ex
keyword_of Predicate = applied simple_name pred_node
keyword_of Function = applied symbol_name fun_node
keyword_of Variable = symbol variable_name var_node
keyword_of Constant = symbol symbol_name con_node

-- a word that is a kind's keyword, and one that is no keyword
pub record Named (w : Bytes) (kind : Kind) : Type 0 where
  pub meaning : look_up keywords w ≡ keyword_of kind

pub record Unnamed (w : Bytes) : Type 0 where
  pub meaning : look_up keywords w ≡ unknown

-- the manner of the names that a kind has
abbrev pub manner_of : Kind → Manner
manner_of Variable = variable_name
manner_of Predicate = simple_name
manner_of Top = symbol_name
manner_of Bottom = symbol_name
manner_of Not = symbol_name
manner_of And = symbol_name
manner_of Or = symbol_name
manner_of Implies = symbol_name
manner_of Iff = symbol_name
manner_of Equals = symbol_name
manner_of All = symbol_name
manner_of Exists = symbol_name
manner_of Function = symbol_name
manner_of Constant = symbol_name

-- the same of a kind's number, and of any other
abbrev pub manner_at : ℕ → Manner
manner_at k = cond (eqb k 12) variable_name (cond (eqb k 10) simple_name symbol_name)

-- for a kind's number it is the kind's
pub numbered_manner : (kind : Kind) → manner_at (kind_number kind) ≡ manner_of kind
numbered_manner Top = refl
numbered_manner Bottom = refl
numbered_manner Not = refl
numbered_manner And = refl
numbered_manner Or = refl
numbered_manner Implies = refl
numbered_manner Iff = refl
numbered_manner Equals = refl
numbered_manner All = refl
numbered_manner Exists = refl
numbered_manner Predicate = refl
numbered_manner Function = refl
numbered_manner Variable = refl
numbered_manner Constant = refl

-- a digit's value
abbrev pub digit_value : ℕ → Option ℕ
digit_value b = cond (digit b) (Some (b - 48)) None

-- an answer of the code as an option of the definitions
abbrev pub perhaps : Option ℕ → Perhaps ℕ
perhaps None = none
perhaps (Some n) = some n

-- s counts as an argument count just where n does, and as the same
abbrev pub Counted : Bytes → Option ℕ → Type 0
Counted s n = (make : ℕ → Node) → counted house (number s) make ≡ counted house (perhaps n) make

-- the fields of l behind the keyword, which ends at `end`
abbrev pub behind : Bytes → ℕ → List Bytes
behind l end = cond (ltb end (length l)) (split TAB (drop (end + 1) l)) []

-- whether a block may have these variables
abbrev pub block_fits : List Bytes → Bool
block_fits l = leb (length l) house.block && all_names house variable_name l

-- n is how many variables they are, if a block may have them
abbrev pub Tallied : List Bytes → Option ℕ → Type 0
Tallied l n = MatchOption n (block_fits l ≡ false) (λ n. (block_fits l ≡ true) × (n ≡ length l))

-- the kinds that stand alone on a line, with how many parts they have
abbrev pub Alone : Kind → ℕ → Type 0
Alone Top n = n ≡ 0
Alone Bottom n = n ≡ 0
Alone Not n = n ≡ 1
Alone And n = n ≡ 2
Alone Or n = n ≡ 2
Alone Implies n = n ≡ 2
Alone Iff n = n ≡ 2
Alone Equals n = n ≡ 2
Alone All n = ⊥
Alone Exists n = ⊥
Alone Predicate n = ⊥
Alone Function n = ⊥
Alone Variable n = ⊥
Alone Constant n = ⊥

-- whether a kind's nodes are terms, and whether their parts are
abbrev pub kind_is_term : Kind → Bool
kind_is_term Function = true
kind_is_term Variable = true
kind_is_term Constant = true
kind_is_term Top = false
kind_is_term Bottom = false
kind_is_term Not = false
kind_is_term And = false
kind_is_term Or = false
kind_is_term Implies = false
kind_is_term Iff = false
kind_is_term Equals = false
kind_is_term All = false
kind_is_term Exists = false
kind_is_term Predicate = false

abbrev pub parts_are_terms : Kind → Bool
parts_are_terms Equals = true
parts_are_terms Predicate = true
parts_are_terms Function = true
parts_are_terms Variable = false
parts_are_terms Constant = false
parts_are_terms Top = false
parts_are_terms Bottom = false
parts_are_terms Not = false
parts_are_terms And = false
parts_are_terms Or = false
parts_are_terms Implies = false
parts_are_terms Iff = false
parts_are_terms All = false
parts_are_terms Exists = false

-- the tokens of a node without its parts, and of nodes one behind another
abbrev pub node_code : Node → List Token
node_code top_node = sign 0 0 [] ∷ []
node_code bot_node = sign 1 0 [] ∷ []
node_code not_node = sign 2 0 [] ∷ []
node_code eq_node = sign 7 0 [] ∷ []
node_code (bin_node o) = sign (op_kind o) 0 [] ∷ []
node_code (block_node q vs) = block_code q vs
node_code (pred_node p n) = sign 10 n p ∷ []
node_code (fun_node f n) = sign 11 n f ∷ []
node_code (var_node x) = var_token x ∷ []
node_code (con_node c) = sign 13 0 c ∷ []

unfoldable pub nodes_code : List Node → List Token
nodes_code [] = []
nodes_code (n ∷ l) = node_code n ++ nodes_code l

-- a word whose symbol's spelling lies inside the rule text T
abbrev pub inside : Bytes → ℕ → Bool
inside T w = not (is_made w) && leb (start_of w + size_of w) (length T)

unfoldable pub all_inside : Bytes → List ℕ → Bool
all_inside T [] = true
all_inside T (w ∷ l) = inside T w && all_inside T l

-- words stand for tokens over the rule text T, whatever the made names
pub record Stand (T : Bytes) (ws : List ℕ) (ts : List Token) : Type 0 where
  pub mean : (M : Bytes) → tokens T M ws ≡ ts
  pub within : all_inside T ws ≡ true

-- the line l stands in the text T, from `at` on
pub record Lies (T : Bytes) (at : ℕ) (l : Bytes) : Type 0 where
  pub there : take (length l) (drop at T) ≡ l
  pub fits : at + length l ≤ length T

-- the variables of a block, n of them, stand in l from `from` on
abbrev pub names_from : Bytes → ℕ → ℕ → List Bytes
names_from l from n = take n (split TAB (drop from l))

pub record Fields (l : Bytes) (from n : ℕ) : Type 0 where
  pub starts : 0 < n → from ≤ length l
  pub number : n ≤ length (split TAB (drop from l))
  pub names : all_names house variable_name (names_from l from n) ≡ true

-- the node n of the line l, which stands at `at`, as it was seen: its kind and parts, its first word, and where a block's variables stand
pub record Sees (at : ℕ) (l : Bytes) (n : Node) (r : Seen) : Type 0 where
  pub sort : kind_is_term r.kind ≡ is_term n
  pub below : (d : ℕ) → parts n d ≡ some_due r.parts (parts_are_terms r.kind) d
  pub weight : node_weight n ≡ 1 + r.variables
  pub slim : r.variables ≤ house.block
  pub short : length l ≤ house.line
  pub block : Fields l r.from r.variables
  pub head : Token
  pub first : (T : Bytes) → Lies T at l → Stand T (r.word ∷ []) (head ∷ [])
  pub code : node_code n ≡ head ∷ map var_token (names_from l r.from r.variables)

-- a line that has no node is seen as none
abbrev pub Saw : ℕ → Bytes → Perhaps Node → Option Seen → Type 0
Saw at l none r = r ≡ None
Saw at l (some n) r = MatchOption r ⊥ (Sees at l n)

-- a keyword ends at `end` in the line l
pub record Ends (l : Bytes) (end : ℕ) : Type 0 where
  pub short : length l ≤ house.line
  pub inside : end ≤ length l

-- what was seen of the line l at `at`, whose keyword is the kind's and ends at `end`
abbrev pub SawAs : Kind → ℕ → ℕ → Bytes → Option Seen → Type 0
SawAs kind end at l r = Saw at l (of_kind house (keyword_of kind) (behind l end)) r
