-- The reader's loop: what is known between two lines, and how a line leads on. The whole scan is the nodes that were read, and then the scan
-- of what is left; at the end these nodes are those of the tree, and their words stand in the table.
use mathlib.Core.Path.{◌≡◌, refl, sym, ap, ◌∙◌}
use mathlib.Core.Bool.{true, false, and-false}
use mathlib.Core.List.{List, [], ◌∷◌, ◌++◌, append_assoc, append-nil}
use Prim.Native.Nat.{ℕ, suc, ◌+◌, ◌*◌, ◌-◌, ◌<◌, ◌≤◌}
use native.Mathlib.Numerals.{add-one}
use native.Mathlib.Omega.{arith}
use lib.ListN.{length, take, drop}
use Rattle.definitions.specs.Bytes.{Bytes, LF, null, split}
use Rattle.definitions.specs.Limits.{house}
use Rattle.definitions.specs.Syntax.{Term, var, con, app, Terms, nil, cons, Formula, top, bot, pred, eq, neg, bin, blk}
use Rattle.definitions.specs.RuleText.{Node, top_node, bot_node, not_node, eq_node, bin_node, block_node, pred_node, fun_node, var_node, con_node}
use Rattle.definitions.specs.RuleText.{term_nodes, terms_nodes, nodes, written}
use Rattle.definitions.specs.Reading.{parse, node_weight, Due, some_due, Step, bad, over, on, place, Scan, read_nodes, bad_line, large_line, before}
use Rattle.definitions.specs.Reading.{scan, as_formula, first, trees, settle, read}
use Rattle.definitions.proofs.Laws.Scanned.{served_scan}
use Rattle.definitions.proofs.Laws.Reading.{read_iff, within_served}
use Rattle.text.specs.Words.{term_code, terms_code, code}
use Rattle.reader.specs.Lines.{upto, node_code, nodes_code, all_inside, Lies}
use Rattle.reader.specs.Levels.{due, Ready, Fit, Written, move, Moves}
use Rattle.reader.specs.Reader.{Says}
use Rattle.text.specs.declared.table.Table.{Table}
use Rattle.reader.specs.declared.Stack.{Stack}
use Rattle.reader.specs.declared.Flaw.{Flaw}
use Rattle.reader.specs.declared.Flaw.TheVariants.{Malformed, Large}
use Rattle.std.specs.Prelude.{Result, Ok, Err}
use Rattle.reader.proofs.Pieces.{piece, split_many, first_piece, last_piece, piece_length}
use Rattle.reader.proofs.Steps.{top_is, no_level}

-- Tokens of nodes: a formula's nodes have the formula's tokens.
code_append : (a b : List Node) → nodes_code (a ++ b) ≡ nodes_code a ++ nodes_code b
unfolding nodes_code
code_append [] b = refl
code_append (n ∷ a) b = rw (code_append a b) (sym (append_assoc (node_code n) (nodes_code a) (nodes_code b)))

mutual
  unfolding nodes_code term_nodes terms_nodes term_code terms_code

  term_nodes_code : (t : Term) → nodes_code (term_nodes t) ≡ term_code t
  term_nodes_code (var x) = refl
  term_nodes_code (con c) = refl
  term_nodes_code (app f ts) = rw (terms_nodes_code ts)

  terms_nodes_code : (ts : Terms) → nodes_code (terms_nodes ts) ≡ terms_code ts
  terms_nodes_code nil = refl
  terms_nodes_code (cons t ts) = code_append (term_nodes t) (terms_nodes ts) ∙ rw (term_nodes_code t, terms_nodes_code ts)

formula_nodes_code : (f : Formula) → nodes_code (nodes f) ≡ code f
unfolding nodes_code nodes code
formula_nodes_code top = refl
formula_nodes_code bot = refl
formula_nodes_code (pred p ts) = rw (terms_nodes_code ts)
formula_nodes_code (eq t u) = rw (code_append (term_nodes t) (term_nodes u), term_nodes_code t, term_nodes_code u)
formula_nodes_code (neg f) = rw (formula_nodes_code f)
formula_nodes_code (bin o f g) = rw (code_append (nodes f) (nodes g), formula_nodes_code f, formula_nodes_code g)
formula_nodes_code (blk q vs f) = rw (formula_nodes_code f)

-- Scans.
abbrev pub before_all : List Node → Scan → Scan
before_all [] s = s
before_all (n ∷ l) s = before n (before_all l s)

before_snoc : (l : List Node) (n : Node) (s : Scan) → before_all (l ++ (n ∷ [])) s ≡ before_all l (before n s)
before_snoc [] n s = refl
before_snoc (m ∷ l) n s = ap (before m) (before_snoc l n s)

before_bad : (l : List Node) (k : ℕ) → before_all l (bad_line k) ≡ bad_line k
before_bad [] k = refl
before_bad (m ∷ l) k = ap (before m) (before_bad l k)

before_large : (l : List Node) (k : ℕ) → before_all l (large_line k) ≡ large_line k
before_large [] k = refl
before_large (m ∷ l) k = ap (before m) (before_large l k)

before_end : (l : List Node) → before_all l (read_nodes []) ≡ read_nodes l
before_end [] = refl
before_end (m ∷ l) = ap (before m) (before_end l)

null_none : (l : Bytes) → length l ≡ 0 → null l ≡ true
null_none [] e = refl
null_none (x ∷ l) e = absurd (omega arith)

null_some : (l : Bytes) → 0 < length l → null l ≡ false
null_some [] h = absurd (omega arith)
null_some (x ∷ l) h = refl

module _ (due : List Due) (w k : ℕ) (l : Bytes) where
  scan_ends : length l ≡ 0 → null due ≡ true → scan house due w k (l ∷ []) ≡ read_nodes []
  unfolding scan
  scan_ends e d = rw (null_none l e, d)

  scan_rest : 0 < length l → scan house due w k (l ∷ []) ≡ bad_line k
  unfolding scan
  scan_rest h = rw (null_some l h)

  scan_due : null due ≡ false → scan house due w k (l ∷ []) ≡ bad_line k
  unfolding scan
  scan_due e = rw (e, and-false (null l))

  -- a line with others behind it
  go_on : Step → Bytes → List Bytes → Scan
  go_on s m r = elim s [ bad ↦ bad_line k | over ↦ large_line k | on n next ↦ before n (scan house next (w + node_weight n) (suc k) (m ∷ r)) ]

  scan_bad : (r : List Bytes) → 0 < length r → place house due w (parse house l) ≡ bad → scan house due w k (l ∷ r) ≡ bad_line k
  unfolding scan go_on
  scan_bad [] h e = absurd (omega arith)
  scan_bad (m ∷ r) h e = ap (λ (s : Step). go_on s m r) e

  scan_over : (r : List Bytes) → 0 < length r → place house due w (parse house l) ≡ over → scan house due w k (l ∷ r) ≡ large_line k
  unfolding scan go_on
  scan_over [] h e = absurd (omega arith)
  scan_over (m ∷ r) h e = ap (λ (s : Step). go_on s m r) e

  scan_on : (r : List Bytes) → 0 < length r → (n : Node) (next : List Due) → place house due w (parse house l) ≡ on n next
      → scan house due w k (l ∷ r) ≡ before n (scan house next (w + node_weight n) (suc k) r)
  unfolding scan go_on
  scan_on [] h n next e = absurd (omega arith)
  scan_on (m ∷ r) h n next e = ap (λ (s : Step). go_on s m r) e

-- the nodes of a whole text are those of its tree
nodes_of_tree : (text : Bytes) (l : List Node) → scan house (some_due 1 false 1) 0 1 (split LF text) ≡ read_nodes l → l ≡ nodes (as_formula (first (trees l)))
unfolding read written
nodes_of_tree text l e =
    let f = as_formula (first (trees l)) in
    let r = (read_iff house text f).0 (ap settle e) in
    let s : scan house (some_due 1 false 1) 0 1 (split LF text) ≡ read_nodes (nodes f) = rw r.0
    (served_scan house (nodes f) (some_due 1 false 1) 0 1 r.1.good (within_served house f r.1)) in
    same_nodes (nodes f) (sym e ∙ s)
  where
    same_nodes : (m : List Node) → read_nodes l ≡ read_nodes m → l ≡ m
    same_nodes m d = cc

some_weight : (n : Node) → 1 ≤ node_weight n
some_weight top_node = omega arith
some_weight bot_node = omega arith
some_weight not_node = omega arith
some_weight eq_node = omega arith
some_weight (bin_node o) = omega arith
some_weight (block_node q vs) = omega arith
some_weight (pred_node p n) = omega arith
some_weight (fun_node f n) = omega arith
some_weight (var_node x) = omega arith
some_weight (con_node c) = omega arith

-- Between two lines: the nodes that were read stand in the table, and the rest of the text is scanned where this is due.
pub record State (text : Bytes) (table : Table) (stack : Stack) (at line : ℕ) : Type 0 where
  pub done : List Node
  pub inside : at ≤ length text
  pub ready : Ready stack
  pub fit : Fit table
  pub stand : Written text table (nodes_code done)
  pub low : at ≤ 1025 * table.used
  pub few : line ≤ 1 + table.used
  pub scans : scan house (some_due 1 false 1) 0 1 (split LF text) ≡ before_all done (scan house (due stack) table.used line (split LF (drop at text)))

pub starts : (text : Bytes) (table : Table) (stack : Stack) → length table.nodes ≡ house.weight → table.used ≡ 0 → Ready stack
    → due stack ≡ some_due 1 false 1 → State text table stack 0 1
unfolding nodes_code all_inside
starts text t stack n u r e =
    record {
      done = [];
      inside = omega arith;
      ready = r;
      fit = record { len = n; room = omega arith };
      stand = rw u (record { mean = λ M. refl; within = refl });
      low = omega arith;
      few = omega arith;
      scans = rw (e, u);
    }

module _ (text : Bytes) (table : Table) (stack : Stack) (at line : ℕ) (s : State text table stack at line) (end : ℕ)
    (found : end ≡ at + upto 10 (drop at text)) where
  -- the last piece, which has no LF
  module _ (g : length text ≤ end) where
    last : scan house (some_due 1 false 1) 0 1 (split LF text) ≡ before_all s.done (scan house (due stack) table.used line (piece text at end ∷ []))
    last = s.scans ∙ ap (λ (r : List Bytes). before_all s.done (scan house (due stack) table.used line r)) (last_piece 10 text at end s.inside found g)

    refused : scan house (due stack) table.used line (piece text at end ∷ []) ≡ bad_line line → Says (read house text) text (Err (Malformed line))
    unfolding read
    refused e = rw (last, e, before_bad s.done line)

    pub ends : end ≤ length text → stack.depth ≡ 0 → end ≡ at → Says (read house text) text (Ok table)
    unfolding read
    ends h e d =
        let z : length (piece text at end) ≡ 0 = piece_length text at end (omega arith) h ∙ omega arith in
        let n : null (due stack) ≡ true = ap null (no_level stack e) in
        let whole = last ∙ ap (before_all s.done) (scan_ends (due stack) table.used line (piece text at end) z n) ∙ before_end s.done in
        let f = as_formula (first (trees s.done)) in
        let same_code : nodes_code s.done ≡ code f = ap nodes_code (nodes_of_tree text s.done whole) ∙ formula_nodes_code f in
        rw whole (record { holds = λ M. record { room = s.fit.room; words = s.stand.mean M ∙ same_code }; within = s.stand.within })

    pub ends_bare : end ≤ length text → at ≤ end → (end ≡ at → ⊥) → Says (read house text) text (Err (Malformed line))
    ends_bare h n d =
        let z : 0 < length (piece text at end) = omega (arith, piece_length text at end n h) in
        refused (scan_rest (due stack) table.used line (piece text at end) z)

    pub ends_due : (stack.depth ≡ 0 → ⊥) → Says (read house text) text (Err (Malformed line))
    ends_due d =
        let n : null (due stack) ≡ false = ap null (top_is stack s.ready (stack.depth - 1) (omega arith)).first in
        refused (scan_due (due stack) table.used line (piece text at end) n)

  -- a line with its LF
  module _ (g : end < length text) (h : at ≤ end) (r : Result Unit Flaw) (stack' : Stack) (table' : Table) where
    more : scan house (some_due 1 false 1) 0 1 (split LF text) ≡ before_all s.done
        (scan house (due stack) table.used line (piece text at end ∷ split LF (drop (end + 1) text)))
    more = s.scans ∙ ap (λ (r : List Bytes). before_all s.done (scan house (due stack) table.used line r)) (first_piece 10 text at end s.inside found g)

    there : Lies text at (piece text at end)
    there = let n = piece_length text at end h (omega arith) in record { there = ap (λ (x : ℕ). take x (drop at text)) n; fits = omega arith }

    pub stops : (flaw : Flaw) → r ≡ Err flaw → (m : Step) → move stack table (piece text at end) ≡ m
        → Moves at line (piece text at end) table m r stack' table' → Says (read house text) text (Err flaw)
    unfolding read
    stops flaw z bad e w =
        let y : flaw ≡ Malformed line = cc in
        rw (more, scan_bad (due stack) table.used line _ _ (split_many 10 _) e, before_bad s.done line, y)
    stops flaw z over e w =
        let y : flaw ≡ Large line = cc in
        rw (more, scan_over (due stack) table.used line _ _ (split_many 10 _) e, before_large s.done line, y)
    stops flaw z (on n d) e w = absurd (rw z at w)

    pub leads : r ≡ Ok tt → (m : Step) → move stack table (piece text at end) ≡ m → Moves at line (piece text at end) table m r stack' table'
        → Ready stack' → Fit table' → State text table' stack' (end + 1) (line + 1)
    unfolding nodes_code
    leads z bad e w y f = absurd cc
    leads z over e w y f = absurd cc
    leads z (on n d) e w y f =
        let p = piece_length text at end h (omega arith) in
        let o = some_weight n in
        let w = rw z at w in
        record {
          done = s.done ++ (n ∷ []);
          inside = omega arith;
          ready = y;
          fit = f;
          stand = rw (code_append s.done (n ∷ []), append-nil) (w.table text (nodes_code s.done) there s.stand);
          low = omega (arith, w.weight, w.short, s.low);
          few = omega (arith, w.weight, s.few);
          scans =
              more
              ∙ ap (before_all s.done) (scan_on (due stack) table.used line _ _ (split_many 10 _) n d e)
              ∙ sym (before_snoc s.done n (scan house d (table.used + node_weight n) (suc line) (split LF (drop (end + 1) text))))
              ∙ rw (w.left, w.weight, add-one line);
        }
