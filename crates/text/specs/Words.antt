-- Words of a node table, and what they stand for. A formula is a run of words in preorder, one for each unit of its weight: a block's
-- variables stand behind it as words of their own.
-- A word is kind + 16 * count + 1024 * origin + 2048 * size + 131072 * start. The kind is a keyword's place among `top` `bot` `not` `and`
-- `or` `imp` `iff` `eq` `all` `ex` `pred` `fun` `var` `con`; the count is a predicate's or a function's number of arguments, or a block's
-- number of variables, and else 0; the rest is a symbol: where its spelling starts and how long it is, in the rule text (origin 0) or among
-- the made names (origin 1). What lies above start's 32 bits is left free.
use Rattle.std.specs.Prelude.{Bool, false, cond, List, [], ◌∷◌, ◌++◌, map, ℕ, ◌+◌, ◌*◌, ◌/◌, ◌%◌, eqb, length, take, drop}
use Rattle.definitions.specs.Bytes.{Bytes, same}
use Rattle.definitions.specs.Syntax.{Name, Term, var, con, app, Terms, nil, cons, count as arguments, Op, and, or, imp, iff, Quant, all, ex, Formula, top, bot, pred, eq, neg, bin, blk}

abbrev pub word_of : ℕ → ℕ → ℕ → ℕ → ℕ → ℕ
word_of kind count origin size start = kind + 16 * (count + 64 * (origin + 2 * (size + 64 * start)))

abbrev pub kind_of_word : ℕ → ℕ
kind_of_word w = w % 16

abbrev pub count_of : ℕ → ℕ
count_of w = w / 16 % 64

abbrev pub is_made : ℕ → Bool
is_made w = eqb (w / 1024 % 2) 1

abbrev pub size_of : ℕ → ℕ
size_of w = w / 2048 % 64

abbrev pub start_of : ℕ → ℕ
start_of w = w / 131072 % 4294967296

-- the spelling of a word's symbol: a part of the rule text T or of the made names M, whatever the word is
abbrev pub spell : Bytes → Bytes → ℕ → Name
spell T M w = take (size_of w) (drop (start_of w) (cond (is_made w) M T))

-- what a word stands for: a variable, or anything else with its kind, count and spelling
pub data Token : Type 0 where
  var_token : Name → Token
  sign : ℕ → ℕ → Name → Token

-- a token's kind, count and name
abbrev pub kind : Token → ℕ
kind (var_token x) = 12
kind (sign k n s) = k

abbrev pub count : Token → ℕ
count (var_token x) = 0
count (sign k n s) = n

abbrev pub name : Token → Name
name (var_token x) = x
name (sign k n s) = s

abbrev pub token : Bytes → Bytes → ℕ → Token
token T M w = cond (eqb (kind_of_word w) 12) (var_token (spell T M w)) (sign (kind_of_word w) (count_of w) (spell T M w))

abbrev pub tokens : Bytes → Bytes → List ℕ → List Token
tokens T M ws = map (token T M) ws

-- whether a token is the variable of a name
abbrev pub same_variable : Name → Token → Bool
same_variable x (var_token y) = same x y
same_variable x (sign k n s) = false

-- how many terms stand behind a term's token: a function's arguments
abbrev pub behind : Token → ℕ
behind (var_token x) = 0
behind (sign k n s) = cond (eqb k 11) n 0

-- the tokens of terms and formulae, in preorder
unfoldable mutual
  pub term_code : Term → List Token
  term_code (var x) = var_token x ∷ []
  term_code (con c) = sign 13 0 c ∷ []
  term_code (app f ts) = sign 11 (arguments ts) f ∷ terms_code ts

  pub terms_code : Terms → List Token
  terms_code nil = []
  terms_code (cons t ts) = term_code t ++ terms_code ts

abbrev pub op_kind : Op → ℕ
op_kind and = 3
op_kind or = 4
op_kind imp = 5
op_kind iff = 6

abbrev pub block_kind : Quant → ℕ
block_kind all = 8
block_kind ex = 9

abbrev pub block_code : Quant → List Name → List Token
block_code q vs = sign (block_kind q) (length vs) [] ∷ map var_token vs

unfoldable pub code : Formula → List Token
code top = sign 0 0 [] ∷ []
code bot = sign 1 0 [] ∷ []
code (pred p ts) = sign 10 (arguments ts) p ∷ terms_code ts
code (eq t u) = sign 7 0 [] ∷ (term_code t ++ term_code u)
code (neg f) = sign 2 0 [] ∷ code f
code (bin o f g) = sign (op_kind o) 0 [] ∷ (code f ++ code g)
code (blk q vs f) = block_code q vs ++ code f

-- a formula's first token, and the tokens behind it: the two sides of an equation are terms
abbrev pub sides : Term → Term → Terms
sides t u = cons t (cons u nil)

abbrev pub root : Formula → Token
root top = sign 0 0 []
root bot = sign 1 0 []
root (pred p ts) = sign 10 (arguments ts) p
root (eq t u) = sign 7 0 []
root (neg f) = sign 2 0 []
root (bin o f g) = sign (op_kind o) 0 []
root (blk q vs f) = sign (block_kind q) (length vs) []

abbrev pub below : Formula → List Token
below top = []
below bot = []
below (pred p ts) = terms_code ts
below (eq t u) = terms_code (sides t u)
below (neg f) = code f
below (bin o f g) = code f ++ code g
below (blk q vs f) = map var_token vs ++ code f
