-- How much of a rule's text is enough: a line that is read has at most 33 bytes, its LF counted, for each unit of its weight. So the
-- lines that pass before the weight limit have at most 33,792 bytes; the line behind them is refused for its length once it has 1,025.
-- What lies past the first 34,817 bytes of a text cannot change how it is read.
use Rattle.std.specs.Prelude.{◌≡◌, refl, true, false, ◌&&◌, List, [], ◌∷◌, ◌++◌, ℕ, zero, suc, ◌+◌, ◌*◌, ◌-◌, ◌/◌, ◌%◌, ◌≤◌, ◌<◌, leb, ltb, eqb, length}
use Rattle.std.proofs.Common.{sym, ◌∙◌, ap, append-nil, arith, leb-true, lt-ltb, length-append}
use Rattle.std.proofs.Math.Option.{Option, none, some}
use Rattle.std.proofs.lemmas.Bool.{lt-leb}
use Rattle.definitions.specs.Bytes.{Bytes, TAB, LF, null, split, behind_each, digits, decimal}
use Rattle.definitions.specs.Syntax.{and, or, imp, iff, all, ex}
use Rattle.definitions.specs.Limits.{house}
use Rattle.definitions.specs.RuleText.{Manner, simple_name, variable_name, symbol_name, letter, behind, is_name, Node, top_node, bot_node, not_node, eq_node, bin_node, block_node, pred_node, fun_node, var_node, con_node, line}
use Rattle.definitions.specs.Reading.{all_names, parse, node_weight, is_term, Due, some_due, parts, agree, Step, bad, over, on, place, bad_line, before, scan, settle, read}
use Rattle.definitions.proofs.Laws.Bools.{by_cases, and_true_left, and_true_right}
use Rattle.definitions.proofs.Laws.Pieces.{split_some}
use Rattle.definitions.specs.Laws.Within.{Allowed}
use Rattle.definitions.proofs.Laws.Lines.{parse_iff}
use Rattle.definitions.specs.Laws.Scanned.{follow}
use Rattle.definitions.proofs.Laws.Scanned.{scan_follows}

-- 33 bytes for each unit of weight, and one line that is too long
abbrev pub enough : ℕ
enough = 34817

name_short : (m : Manner) (s : Bytes) → is_name house m s ≡ true → length s ≤ 24
unfolding is_name
name_short m [] e = omega arith
name_short m (x ∷ s) e =
    let short = leb (length (x ∷ s)) 24 in
    leb-true (length (x ∷ s)) 24 (and_true_left short (letter x) (and_true_left (short && letter x) (null (behind m s)) e))

digits_few : (k n : ℕ) → n < 10 → length (digits k n) ≤ 1
unfolding digits
digits_few zero n l = omega arith
digits_few (suc k) n l = rw (lt-ltb n 10 l) (omega arith)

decimal_short : (n : ℕ) → n ≤ 32 → length (decimal n) ≤ 2
unfolding decimal digits
decimal_short n l =
    by_cases (ltb n 10)
    (λ t. rw t (omega arith))
    (λ f. rw (f, length-append (digits n (n / 10)) ((48 + n % 10) ∷ [])) (omega (arith, digits_few n (n / 10) (omega arith))))

-- A line has at most 33 bytes for each unit of weight: `pred` TAB a name TAB a count of two digits LF.
names_short : (vs : List Bytes) → all_names house variable_name vs ≡ true → length (behind_each TAB vs) ≤ 25 * length vs
unfolding all_names behind_each
names_short [] e = omega arith
names_short (x ∷ vs) e =
    let named = is_name house variable_name x in
    omega (
      arith,
      length-append x (behind_each TAB vs),
      name_short variable_name x (and_true_left named (all_names house variable_name vs) e),
      names_short vs (and_true_right named (all_names house variable_name vs) e),
    )

field_short : (s : Bytes) → length (behind_each TAB (s ∷ [])) ≡ suc (length s)
unfolding behind_each
field_short s = omega (arith, length-append s [])

two_short : (s t : Bytes) → length (behind_each TAB (s ∷ t ∷ [])) ≡ suc (suc (length s + length t))
unfolding behind_each
two_short s t = omega (arith, length-append s (TAB ∷ (t ++ [])), length-append t [])

line_short : (n : Node) → Allowed house n → suc (length (line n)) ≤ 33 * node_weight n
unfolding behind_each
line_short top_node a = omega arith
line_short bot_node a = omega arith
line_short not_node a = omega arith
line_short eq_node a = omega arith
line_short (bin_node and) a = omega arith
line_short (bin_node or) a = omega arith
line_short (bin_node imp) a = omega arith
line_short (bin_node iff) a = omega arith
line_short (block_node all vs) a = omega (arith, names_short vs a.2)
line_short (block_node ex vs) a = omega (arith, names_short vs a.2)
line_short (pred_node p n) a = omega (arith, two_short p (decimal n), name_short simple_name p a.0, decimal_short n a.1)
line_short (fun_node f n) a = omega (arith, two_short f (decimal n), name_short symbol_name f a.0, decimal_short n a.1)
line_short (var_node x) a = omega (arith, field_short x, name_short variable_name x a)
line_short (con_node c) a = omega (arith, field_short c, name_short symbol_name c a)

-- a line that leads on has its node's length and is within the weight limit
record Leads (w : ℕ) (s : Bytes) (n : Node) : Type 0 where
  short : suc (length s) ≤ 33 * node_weight n
  light : w + node_weight n ≤ 1024

leads : (due : List Due) (w : ℕ) (s : Bytes) (n : Node) (next : List Due) → place house due w (parse house s) ≡ on n next → Leads w s n
leads due w s n next e = go due (parse house s) refl e
  where
    not_bad : bad ≡ on n next → Leads w s n
    not_bad q = let z : ◌≡◌ {A = ℕ} 0 1 = cc in absurd (omega arith)

    not_over : over ≡ on n next → Leads w s n
    not_over q = let z : ◌≡◌ {A = ℕ} 0 1 = cc in absurd (omega arith)

    found : (m : Node) → parse house s ≡ some m → m ≡ n → w + node_weight m ≤ 1024 → Leads w s n
    found m p q h =
        let g = (parse_iff house s m).0 p in
        let l : Leads w s m = record { short = rw g.0 (line_short m g.1.allowed); light = h } in
        rw q at l

    go : (due : List Due) (o : Option Node) → parse house s ≡ o → place house due w o ≡ on n next → Leads w s n
    go due none p q = not_bad q
    go [] (some m) p q = not_bad q
    go (d ∷ due) (some m) p q =
        by_cases (agree (is_term m) d.term)
        (λ t. by_cases (leb d.depth 64 && leb (w + node_weight m) 1024)
        (λ u. found m p (same_node (rw (t, u) at q)) (leb-true (w + node_weight m) 1024 (and_true_right (leb d.depth 64) (leb (w + node_weight m) 1024) u)))
        (λ u. not_over (rw (t, u) at q)))
        (λ f. not_bad (rw f at q))
      where
        same_node : on m (parts m (suc d.depth) ++ due) ≡ on n next → m ≡ n
        same_node e = cc

-- The pieces of a text that goes on: all but the last stay, and the last goes on with the first of what follows.
total : List Bytes → ℕ
total [] = 0
total (p ∷ ps) = suc (length p + total ps)

record Ends (b : ℕ) (x : Bytes) : Type 0 where
  firsts : List Bytes
  last : Bytes
  counted : total firsts + length last ≡ length x
  whole : split b x ≡ firsts ++ (last ∷ [])
  longer : (t q : Bytes) (qs : List Bytes) → split b t ≡ q ∷ qs → split b (x ++ t) ≡ firsts ++ ((last ++ q) ∷ qs)

ends : (b : ℕ) (x : Bytes) → Ends b x
unfolding split total
ends b [] = record { firsts = []; last = []; counted = refl; whole = refl; longer = λ t q qs e. e }
ends b (x ∷ s) = by_cases (eqb x b) (λ y. apart y (ends b s)) (λ n. onto_first n (ends b s) (ends b s).firsts refl)
  where
    apart : eqb x b ≡ true → Ends b s → Ends b (x ∷ s)
    apart y r = record {
      firsts = [] ∷ r.firsts;
      last = r.last;
      counted = omega (arith, r.counted);
      whole = rw (y, r.whole);
      longer = λ t q qs e. rw (y, r.longer t q qs e);
    }

    onto_first : eqb x b ≡ false → (r : Ends b s) (ps : List Bytes) → r.firsts ≡ ps → Ends b (x ∷ s)
    onto_first n r [] p = record {
      firsts = [];
      last = x ∷ r.last;
      counted = omega (arith, rw p at r.counted);
      whole = rw (n, r.whole, p);
      longer = λ t q qs e. rw (n, r.longer t q qs e, p);
    }
    onto_first n r (f ∷ ps) p = record {
      firsts = (x ∷ f) ∷ ps;
      last = r.last;
      counted = omega (arith, rw p at r.counted);
      whole = rw (n, r.whole, p);
      longer = λ t q qs e. rw (n, r.longer t q qs e, p);
    }

scan_on : (ls : List Bytes) (due : List Due) (w k : ℕ) (s m : Bytes) (rest : List Bytes)
    → scan house due w k (s ∷ (ls ++ (m ∷ rest))) ≡ follow house w k (ls ++ (m ∷ rest)) (place house due w (parse house s))
scan_on [] due w k s m rest = scan_follows house due w k s m rest
scan_on (l ∷ ls) due w k s m rest = scan_follows house due w k s l (ls ++ (m ∷ rest))

-- an unfinished line of more than 1,024 bytes is refused, whatever follows
long_bad : (s : Bytes) → 1024 < length s → parse house s ≡ none
unfolding parse
long_bad s h = rw (lt-leb (length s) 1024 h)

long_refused : (due : List Due) (w k : ℕ) (p q : Bytes) (qs : List Bytes) → 1024 < length p → scan house due w k ((p ++ q) ∷ qs) ≡ bad_line k
unfolding scan
long_refused due w k [] q qs h = absurd (omega arith)
long_refused due w k (b ∷ p) q [] h = refl
long_refused due w k (b ∷ p) q (m ∷ rest) h =
    scan_follows house due w k (b ∷ (p ++ q)) m rest
    ∙ ap (λ o. follow house w k (m ∷ rest) (place house due w o)) (long_bad (b ∷ (p ++ q)) (omega (arith, length-append p q)))

scan_enough : (ps : List Bytes) (p q : Bytes) (qs : List Bytes) (due : List Due) (w k : ℕ) → 33 * (1024 - w) + 1025 ≤ total ps + length p
    → scan house due w k (ps ++ ((p ++ q) ∷ qs)) ≡ scan house due w k (ps ++ (p ∷ []))
unfolding total
scan_enough [] p q qs due w k h =
    long_refused due w k p q qs (omega arith)
    ∙ sym (ap (λ s. scan house due w k (s ∷ [])) (sym (append-nil p)) ∙ long_refused due w k p [] [] (omega arith))
scan_enough (l ∷ ps) p q qs due w k h =
    scan_on ps due w k l (p ++ q) qs
    ∙ go (λ next n a. scan_enough ps p q qs next (w + node_weight n) (suc k) (omega (arith, a.short, a.light))) (place house due w (parse house l)) refl
    ∙ sym (scan_on ps due w k l p [])
  where
    go : ((next : List Due) (n : Node) → Leads w l n → scan house next (w + node_weight n) (suc k) (ps ++ ((p ++ q) ∷ qs)) ≡ scan house next (w + node_weight n) (suc k) (ps ++ (p ∷ [])))
        → (a : Step) → place house due w (parse house l) ≡ a → follow house w k (ps ++ ((p ++ q) ∷ qs)) a ≡ follow house w k (ps ++ (p ∷ [])) a
    go ih bad e = refl
    go ih over e = refl
    go ih (on n next) e = ap (before n) (ih next n (leads due w l n next e))

pub read_enough : (x t : Bytes) → enough ≤ length x → read house (x ++ t) ≡ read house x
unfolding read
read_enough x t h =
    let e = ends LF x in
    let p = split_some LF t in
    rw (e.longer t p.0 p.1 p.2, e.whole)
    (ap settle (scan_enough e.firsts e.last p.0 p.1 (some_due 1 false 1) 0 1 (omega (arith, e.counted))))
