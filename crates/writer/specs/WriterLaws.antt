-- The text of a formula's tokens is the formula's rule text.
use Rattle.std.specs.Prelude.{◌≡◌, refl, List, [], ◌∷◌, ◌++◌, map, ℕ, length, take}
use Rattle.std.proofs.Common.{sym, ap, ◌∙◌, append_assoc, append-nil}
use Rattle.definitions.specs.Bytes.{Bytes, TAB, LF, behind_each}
use Rattle.definitions.specs.Syntax.{Name, Term, var, con, app, Terms, nil, cons, count, Op, and, or, imp, iff, Quant, all, ex, Formula, top, bot, pred, eq, neg, bin, blk}
use Rattle.definitions.specs.RuleText.{Node, top_node, bot_node, not_node, eq_node, bin_node, block_node, pred_node, fun_node, var_node, con_node, quant_word, line, lines, term_nodes, terms_nodes, nodes, written}
use Rattle.text.specs.declared.table.Table.{Table}
use Rattle.text.specs.Words.{Token, var_token, sign, tokens, op_kind, block_kind, block_code, term_code, terms_code, code}
use Rattle.text.specs.Tables.{Holds}
use Rattle.writer.specs.Writer.{keyword_of, body, after, end, text_from, text_of}

lines_append : (a b : List Node) → lines (a ++ b) ≡ lines a ++ lines b
unfolding lines
lines_append [] b = refl
lines_append (n ∷ a) b = rw (lines_append a b) (sym (append_assoc (line n) (LF ∷ lines a) (lines b)))

-- Tokens that write the lines of nodes, whatever follows.
abbrev Spells : List Token → List Node → Type 0
Spells a m = (l : List Token) → text_of (a ++ l) ≡ lines m ++ text_of l

abbrev Begins : Token → Node → Type 0
Begins t n = (l : List Token) → text_of (t ∷ l) ≡ line n ++ (LF ∷ text_of l)

nothing : Spells [] []
unfolding lines
nothing l = refl

both : (a b : List Token) (m n : List Node) → Spells a m → Spells b n → Spells (a ++ b) (m ++ n)
both a b m n p q l =
    ap text_of (append_assoc a b l) ∙ p (b ++ l) ∙ ap (λ (s : Bytes). lines m ++ s) (q l)
    ∙ rw (lines_append m n) (sym (append_assoc (lines m) (lines n) (text_of l)))

first : (t : Token) (n : Node) (a : List Token) (m : List Node) → Begins t n → Spells a m → Spells (t ∷ a) (n ∷ m)
unfolding lines
first t n a m p q l = p (a ++ l) ∙ rw (q l) (sym (append_assoc (line n) (LF ∷ lines m) (text_of l)))

-- A token that ends its own line.
var_line : (x : Name) → Begins (var_token x) (var_node x)
unfolding text_from body after end keyword_of behind_each
var_line x l = append_assoc (line (var_node x)) (LF ∷ []) (text_of l)

con_line : (c : Name) → Begins (sign 13 0 c) (con_node c)
unfolding text_from body after end keyword_of behind_each
con_line c l = append_assoc (line (con_node c)) (LF ∷ []) (text_of l)

fun_line : (f : Name) (n : ℕ) → Begins (sign 11 n f) (fun_node f n)
unfolding text_from body after end keyword_of behind_each
fun_line f n l = append_assoc (line (fun_node f n)) (LF ∷ []) (text_of l)

pred_line : (p : Name) (n : ℕ) → Begins (sign 10 n p) (pred_node p n)
unfolding text_from body after end keyword_of behind_each
pred_line p n l = append_assoc (line (pred_node p n)) (LF ∷ []) (text_of l)

bin_line : (o : Op) → Begins (sign (op_kind o) 0 []) (bin_node o)
unfolding text_from body after end keyword_of behind_each
bin_line and l = refl
bin_line or l = refl
bin_line imp l = refl
bin_line iff l = refl

plain_lines : Begins (sign 0 0 []) top_node × Begins (sign 1 0 []) bot_node × Begins (sign 2 0 []) not_node × Begins (sign 7 0 []) eq_node
unfolding text_from body after end keyword_of behind_each
plain_lines = (λ l. refl, λ l. refl, λ l. refl, λ l. refl)

-- A block's line ends behind the variables that it makes due.
variables : (vs : List Name) (l : List Token) → end (length vs) ++ text_from (length vs) (map var_token vs ++ l) ≡ behind_each TAB vs ++ (LF ∷ text_of l)
unfolding text_from body after end behind_each
variables [] l = refl
variables (v ∷ vs) l =
    let rest = text_from (length vs) (map var_token vs ++ l) in
    ap (λ (s : Bytes). TAB ∷ s)
    (append_assoc v (end (length vs)) rest ∙ ap (λ (s : Bytes). v ++ s) (variables vs l) ∙ sym (append_assoc v (behind_each TAB vs) (LF ∷ text_of l)))

block_head : (q : Quant) (n : ℕ) (l : List Token) → text_of (sign (block_kind q) n [] ∷ l) ≡ quant_word q ++ (end n ++ text_from n l)
unfolding text_from body after keyword_of behind_each
block_head all n l = refl
block_head ex n l = refl

block_line_written : (q : Quant) (vs : List Name) (l : List Token)
    → text_of (sign (block_kind q) (length vs) [] ∷ (map var_token vs ++ l)) ≡ line (block_node q vs) ++ (LF ∷ text_of l)
block_line_written q vs l =
    block_head q (length vs) (map var_token vs ++ l) ∙ rw (variables vs l) (sym (append_assoc (quant_word q) (behind_each TAB vs) (LF ∷ text_of l)))

block_lines : (q : Quant) (vs : List Name) (a : List Token) (m : List Node) → Spells a m
    → Spells (block_code q vs ++ a) (block_node q vs ∷ m)
unfolding lines
block_lines q vs a m p l =
    ap (λ (r : List Token). text_of (sign (block_kind q) (length vs) [] ∷ r)) (append_assoc (map var_token vs) a l)
    ∙ block_line_written q vs (a ++ l) ∙ rw (p l) (sym (append_assoc (line (block_node q vs)) (LF ∷ lines m) (text_of l)))

mutual
  unfolding term_code term_nodes terms_code terms_nodes

  term_lines : (t : Term) → Spells (term_code t) (term_nodes t)
  term_lines (var x) = first (var_token x) (var_node x) [] [] (var_line x) nothing
  term_lines (con c) = first (sign 13 0 c) (con_node c) [] [] (con_line c) nothing
  term_lines (app f ts) = first (sign 11 (count ts) f) (fun_node f (count ts)) (terms_code ts) (terms_nodes ts) (fun_line f (count ts)) (terms_lines ts)

  terms_lines : (ts : Terms) → Spells (terms_code ts) (terms_nodes ts)
  terms_lines nil = nothing
  terms_lines (cons t ts) = both (term_code t) (terms_code ts) (term_nodes t) (terms_nodes ts) (term_lines t) (terms_lines ts)

formula_lines : (f : Formula) → Spells (code f) (nodes f)
unfolding code nodes
formula_lines top = first (sign 0 0 []) top_node [] [] plain_lines.0 nothing
formula_lines bot = first (sign 1 0 []) bot_node [] [] plain_lines.1 nothing
formula_lines (pred p ts) = first (sign 10 (count ts) p) (pred_node p (count ts)) (terms_code ts) (terms_nodes ts) (pred_line p (count ts)) (terms_lines ts)
formula_lines (eq t u) =
    first (sign 7 0 []) eq_node (term_code t ++ term_code u) (term_nodes t ++ term_nodes u) plain_lines.3
    (both (term_code t) (term_code u) (term_nodes t) (term_nodes u) (term_lines t) (term_lines u))
formula_lines (neg f) = first (sign 2 0 []) not_node (code f) (nodes f) plain_lines.2 (formula_lines f)
formula_lines (bin o f g) =
    first (sign (op_kind o) 0 []) (bin_node o) (code f ++ code g) (nodes f ++ nodes g) (bin_line o)
    (both (code f) (code g) (nodes f) (nodes g) (formula_lines f) (formula_lines g))
formula_lines (blk q vs f) = block_lines q vs (code f) (nodes f) (formula_lines f)

-- The text of a formula's tokens is its rule text, and so is that of a table which holds it.
pub text_of_code : (f : Formula) → text_of (code f) ≡ written f
unfolding written text_from
text_of_code f = ap text_of (sym (append-nil (code f))) ∙ formula_lines f [] ∙ append-nil (lines (nodes f))

pub text_of_table : {T M : Bytes} {t : Table} {f : Formula} → Holds T M t f → text_of (tokens T M (take t.used t.nodes)) ≡ written f
text_of_table {f = f} h = ap text_of h.words ∙ text_of_code f
