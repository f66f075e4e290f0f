-- A listing tells its clauses: two clause sets with one listing are one, where no name holds a tab or a line feed.
-- A listing is rows of fields. Cutting it at line feeds and tabs gives the rows back; and the counts in the rows say where each part ends.
use Rattle.std.specs.Prelude.{◌≡◌, refl, ℕ, length}
use Rattle.std.proofs.Common.{sym, ◌∙◌, ap, ap₂, arith}
use mathlib.Core.List.{List, [], ◌∷◌, ◌++◌, append_assoc, append-nil, tail-eq_of_cons-eq}
use Rattle.definitions.specs.Bytes.{Bytes, TAB, LF, behind_each, decimal}
use Rattle.definitions.specs.Syntax.{Term, var, con, app, Terms, nil, cons, count}
use Rattle.definitions.specs.RuleText.{Node, var_node, con_node, fun_node, pred_node, eq_node, keyword, fields, line, lines, term_nodes, terms_nodes, nodes, written}
use Rattle.definitions.specs.Truth.{every}
use Rattle.definitions.specs.Order.{Atom, rel, same_as, Literal, pos, opp, Clause}
use Rattle.definitions.specs.Clauses.{atom_formula, literal_word, literals_text, clause_word, clauses_word, counted_line, clauses_text, listing}
use Rattle.definitions.proofs.Laws.Decimal.{decimal_inj}
use Rattle.definitions.specs.Laws.Pieces.{joined}
use Rattle.definitions.specs.Laws.Rows.{Row, rows_text, no_field, field, PlainRows, no_row, plain_row}
use Rattle.definitions.proofs.Laws.Rows.{rows_told, plain_word, plain_number}
use Rattle.definitions.specs.Laws.Listing.{PlainAtom, PlainClause, PlainClauses, PlainTerm, PlainTerms}

-- the rows of each thing, before given rows
abbrev row : Node → Row
row n = keyword n ∷ fields n

unfoldable mutual
  term_rows : Term → List Row → List Row
  term_rows (var x) r = row (var_node x) ∷ r
  term_rows (con c) r = row (con_node c) ∷ r
  term_rows (app f ts) r = row (fun_node f (count ts)) ∷ terms_rows ts r

  terms_rows : Terms → List Row → List Row
  terms_rows nil r = r
  terms_rows (cons t ts) r = term_rows t (terms_rows ts r)

unfoldable atom_rows : Atom → List Row → List Row
atom_rows (rel p ts) r = row (pred_node p (count ts)) ∷ terms_rows ts r
atom_rows (same_as t u) r = row eq_node ∷ term_rows t (term_rows u r)

unfoldable literal_rows : Literal → List Row → List Row
literal_rows (pos a) r = (literal_word (pos a) ∷ []) ∷ atom_rows a r
literal_rows (opp a) r = (literal_word (opp a) ∷ []) ∷ atom_rows a r

unfoldable clause_rows : Clause → List Row → List Row
clause_rows [] r = r
clause_rows (l ∷ c) r = literal_rows l (clause_rows c r)

unfoldable clauses_rows : List Clause → List Row
clauses_rows [] = []
clauses_rows (c ∷ cs) = (clause_word ∷ decimal (length c) ∷ []) ∷ clause_rows c (clauses_rows cs)

abbrev listing_rows : List Clause → List Row
listing_rows cs = (clauses_word ∷ decimal (length cs) ∷ []) ∷ clauses_rows cs

-- the first byte of rows: keywords that may stand at one place differ in it
abbrev mark : List Row → ℕ
mark [] = 0
mark ([] ∷ l) = 0
mark (([] ∷ r) ∷ l) = 0
mark (((b ∷ f) ∷ r) ∷ l) = b

-- Rows say which terms, literals and clauses they are of.
mutual
  unfolding term_rows terms_rows count

  term_told : (t u : Term) (x y : List Row) → term_rows t x ≡ term_rows u y → (t ≡ u) × (x ≡ y)
  term_told (var a) (var b) x y e = (cc, cc)
  term_told (var a) (con b) x y e = absurd (omega (arith, ap mark e))
  term_told (var a) (app g us) x y e = absurd (omega (arith, ap mark e))
  term_told (con a) (var b) x y e = absurd (omega (arith, ap mark e))
  term_told (con a) (con b) x y e = (cc, cc)
  term_told (con a) (app g us) x y e = absurd (omega (arith, ap mark e))
  term_told (app f ts) (var b) x y e = absurd (omega (arith, ap mark e))
  term_told (app f ts) (con b) x y e = absurd (omega (arith, ap mark e))
  term_told (app f ts) (app g us) x y e =
      let n : decimal (count ts) ≡ decimal (count us) = cc in
      let (same, rest) = terms_told ts us x y (decimal_inj (count ts) (count us) n) (tail-eq_of_cons-eq e) in
      (ap₂ app (cc) same, rest)

  terms_told : (ts us : Terms) (x y : List Row) → count ts ≡ count us → terms_rows ts x ≡ terms_rows us y → (ts ≡ us) × (x ≡ y)
  terms_told nil nil x y n e = (refl, e)
  terms_told nil (cons u us) x y n e = absurd (omega arith)
  terms_told (cons t ts) nil x y n e = absurd (omega arith)
  terms_told (cons t ts) (cons u us) x y n e =
      let (first, more) = term_told t u (terms_rows ts x) (terms_rows us y) e in
      let (same, rest) = terms_told ts us x y (omega arith) more in
      (ap₂ cons first same, rest)

atom_told : (a b : Atom) (x y : List Row) → atom_rows a x ≡ atom_rows b y → (a ≡ b) × (x ≡ y)
unfolding atom_rows
atom_told (rel p ts) (rel q us) x y e =
    let n : decimal (count ts) ≡ decimal (count us) = cc in
    let (same, rest) = terms_told ts us x y (decimal_inj (count ts) (count us) n) (tail-eq_of_cons-eq e) in
    (ap₂ rel (cc) same, rest)
atom_told (rel p ts) (same_as t u) x y e = absurd (omega (arith, ap mark e))
atom_told (same_as t u) (rel q us) x y e = absurd (omega (arith, ap mark e))
atom_told (same_as t u) (same_as t' u') x y e =
    let (left, more) = term_told t t' (term_rows u x) (term_rows u' y) (tail-eq_of_cons-eq e) in
    let (right, rest) = term_told u u' x y more in
    (ap₂ same_as left right, rest)

literal_told : (a b : Literal) (x y : List Row) → literal_rows a x ≡ literal_rows b y → (a ≡ b) × (x ≡ y)
unfolding literal_rows
literal_told (pos a) (pos b) x y e = let (same, rest) = atom_told a b x y (tail-eq_of_cons-eq e) in (ap pos same, rest)
literal_told (pos a) (opp b) x y e = absurd (omega (arith, ap mark e))
literal_told (opp a) (pos b) x y e = absurd (omega (arith, ap mark e))
literal_told (opp a) (opp b) x y e = let (same, rest) = atom_told a b x y (tail-eq_of_cons-eq e) in (ap opp same, rest)

clause_told : (a b : Clause) (x y : List Row) → length a ≡ length b → clause_rows a x ≡ clause_rows b y → (a ≡ b) × (x ≡ y)
unfolding clause_rows
clause_told [] [] x y n e = (refl, e)
clause_told [] (l ∷ b) x y n e = absurd (omega arith)
clause_told (l ∷ a) [] x y n e = absurd (omega arith)
clause_told (l ∷ a) (m ∷ b) x y n e =
    let (first, more) = literal_told l m (clause_rows a x) (clause_rows b y) e in
    let (same, rest) = clause_told a b x y (omega arith) more in
    (ap₂ (◌∷◌) first same, rest)

clauses_told : (cs ds : List Clause) → length cs ≡ length ds → clauses_rows cs ≡ clauses_rows ds → cs ≡ ds
unfolding clauses_rows
clauses_told [] [] n e = refl
clauses_told [] (d ∷ ds) n e = absurd (omega arith)
clauses_told (c ∷ cs) [] n e = absurd (omega arith)
clauses_told (c ∷ cs) (d ∷ ds) n e =
    let same_length : decimal (length c) ≡ decimal (length d) = cc in
    let (first, rest) = clause_told c d (clauses_rows cs) (clauses_rows ds) (decimal_inj (length c) (length d) same_length) (tail-eq_of_cons-eq e) in
    ap₂ (◌∷◌) first (clauses_told cs ds (omega arith) rest)

-- The listing is the text of its rows.
lines_append : (a b : List Node) → lines (a ++ b) ≡ lines a ++ lines b
unfolding lines
lines_append [] b = refl
lines_append (n ∷ a) b = rw (lines_append a b) (sym (append_assoc (line n) (LF ∷ lines a) (lines b)))

mutual
  unfolding term_rows terms_rows term_nodes terms_nodes rows_text lines joined

  term_text : (t : Term) (r : List Row) → rows_text (term_rows t r) ≡ lines (term_nodes t) ++ rows_text r
  term_text (var x) r = sym (append_assoc (line (var_node x)) (LF ∷ []) (rows_text r))
  term_text (con c) r = sym (append_assoc (line (con_node c)) (LF ∷ []) (rows_text r))
  term_text (app f ts) r =
      rw (terms_text ts r) (sym (append_assoc (line (fun_node f (count ts))) (LF ∷ lines (terms_nodes ts)) (rows_text r)))

  terms_text : (ts : Terms) (r : List Row) → rows_text (terms_rows ts r) ≡ lines (terms_nodes ts) ++ rows_text r
  terms_text nil r = refl
  terms_text (cons t ts) r =
      term_text t (terms_rows ts r) ∙ rw (terms_text ts r, lines_append (term_nodes t) (terms_nodes ts))
      (sym (append_assoc (lines (term_nodes t)) (lines (terms_nodes ts)) (rows_text r)))

atom_text : (a : Atom) (r : List Row) → rows_text (atom_rows a r) ≡ written (atom_formula a) ++ rows_text r
unfolding atom_rows rows_text written nodes lines joined behind_each
atom_text (rel p ts) r =
    rw (terms_text ts r) (sym (append_assoc (line (pred_node p (count ts))) (LF ∷ lines (terms_nodes ts)) (rows_text r)))
atom_text (same_as t u) r =
    ap (λ s. line eq_node ++ (LF ∷ s)) (term_text t (term_rows u r) ∙ rw (term_text u r, lines_append (term_nodes t) (term_nodes u))
    (sym (append_assoc (lines (term_nodes t)) (lines (term_nodes u)) (rows_text r))))

clause_text : (c : Clause) (r : List Row) → rows_text (clause_rows c r) ≡ literals_text c ++ rows_text r
unfolding clause_rows literal_rows rows_text literals_text joined behind_each
clause_text [] r = refl
clause_text (pos a ∷ c) r =
    ap (λ s. literal_word (pos a) ++ (LF ∷ s)) (atom_text a (clause_rows c r) ∙ rw (clause_text c r)
    (sym (append_assoc (written (atom_formula a)) (literals_text c) (rows_text r))))
clause_text (opp a ∷ c) r =
    ap (λ s. literal_word (opp a) ++ (LF ∷ s)) (atom_text a (clause_rows c r) ∙ rw (clause_text c r)
    (sym (append_assoc (written (atom_formula a)) (literals_text c) (rows_text r))))

-- a line of a word and a number
counted_text : (w s : Bytes) (n : ℕ) → joined TAB (w ∷ decimal n ∷ []) ++ (LF ∷ s) ≡ counted_line w n ++ s
unfolding joined behind_each
counted_text w s n = simp (append_assoc, append-nil)

set_text : (cs : List Clause) → rows_text (clauses_rows cs) ≡ clauses_text cs
unfolding clauses_rows rows_text clauses_text
set_text [] = refl
set_text (c ∷ cs) =
    counted_text clause_word (rows_text (clause_rows c (clauses_rows cs))) (length c)
    ∙ ap (λ s. counted_line clause_word (length c) ++ s) (clause_text c (clauses_rows cs) ∙ rw (set_text cs))

listing_text : (cs : List Clause) → rows_text (listing_rows cs) ≡ listing cs
unfolding rows_text listing
listing_text cs = counted_text clauses_word (rows_text (clauses_rows cs)) (length cs) ∙ rw (set_text cs)

-- then the rows are plain
mutual
  unfolding term_rows terms_rows PlainTerm PlainTerms every

  term_plain : (t : Term) {r : List Row} → PlainTerm t → PlainRows r → PlainRows (term_rows t r)
  term_plain (var x) h k = plain_row (field (plain_word (keyword (var_node x)) refl) (field h no_field)) k
  term_plain (con c) h k = plain_row (field (plain_word (keyword (con_node c)) refl) (field h no_field)) k
  term_plain (app f ts) h k =
      plain_row (field (plain_word (keyword (fun_node f 0)) refl) (field h.0 (field (plain_number (count ts)) no_field))) (terms_plain ts h.1 k)

  terms_plain : (ts : Terms) {r : List Row} → PlainTerms ts → PlainRows r → PlainRows (terms_rows ts r)
  terms_plain nil h k = k
  terms_plain (cons t ts) h k = term_plain t h.0 (terms_plain ts h.1 k)

atom_plain : (a : Atom) {r : List Row} → PlainAtom a → PlainRows r → PlainRows (atom_rows a r)
unfolding atom_rows PlainAtom every
atom_plain (rel p ts) h k =
    plain_row (field (plain_word (keyword (pred_node p 0)) refl) (field h.0 (field (plain_number (count ts)) no_field))) (terms_plain ts h.1 k)
atom_plain (same_as t u) h k = plain_row (field (plain_word (keyword eq_node) refl) no_field) (term_plain t h.0 (term_plain u h.1 k))

clause_plain : (c : Clause) {r : List Row} → PlainClause c → PlainRows r → PlainRows (clause_rows c r)
unfolding clause_rows literal_rows PlainClause every
clause_plain [] h k = k
clause_plain (pos a ∷ c) h k = plain_row (field (plain_word (literal_word (pos a)) refl) no_field) (atom_plain a h.0 (clause_plain c h.1 k))
clause_plain (opp a ∷ c) h k = plain_row (field (plain_word (literal_word (opp a)) refl) no_field) (atom_plain a h.0 (clause_plain c h.1 k))

clauses_plain : (cs : List Clause) → PlainClauses cs → PlainRows (clauses_rows cs)
unfolding clauses_rows PlainClauses every
clauses_plain [] h = no_row
clauses_plain (c ∷ cs) h =
    plain_row (field (plain_word clause_word refl) (field (plain_number (length c)) no_field)) (clause_plain c h.0 (clauses_plain cs h.1))

-- the law
pub listing_tells : (cs ds : List Clause) → PlainClauses cs → PlainClauses ds → listing cs ≡ listing ds → cs ≡ ds
unfolding every
listing_tells cs ds h k e =
    let rows = rows_told (plain cs h) (plain ds k) (listing_text cs ∙ e ∙ sym (listing_text ds)) in
    let n : decimal (length cs) ≡ decimal (length ds) = cc rows in
    clauses_told cs ds (decimal_inj (length cs) (length ds) n) (tail-eq_of_cons-eq rows)
  where
    plain : (cs : List Clause) → PlainClauses cs → PlainRows (listing_rows cs)
    plain cs h = plain_row (field (plain_word clauses_word refl) (field (plain_number (length cs)) no_field)) (clauses_plain cs h)
