-- The ranks of a matrix's atoms. The parts that are found are the atoms of the formula; sorting parts sorts atoms; so the rank of an atom
-- among the parts is its place in the sorted list, and the raw clauses of a plan with ranks are those of the formula.
use mathlib.Core.Path.{◌≡◌, refl, sym, ap, ap₂, ◌∙◌}
use mathlib.Core.Bool.{true, ◌&&◌}
use mathlib.Core.List.{List, [], ◌∷◌, ◌++◌, map, append_assoc}
use Prim.Native.Nat.compare
use Prim.Native.Nat.{ℕ, suc, ◌+◌, ◌/◌, ◌%◌, ◌<◌, ◌≤◌, compare, Ordering}
use native.Mathlib.Omega.{arith}
use lib.Dec.{compare_is_eq}
use lib.ListN.{length, take, drop, length-append, take-append-drop}
use lib.Seq.{take_at}
use Rattle.definitions.specs.Bytes.{Bytes}
use Rattle.definitions.specs.Syntax.{Term, var, con, app, Terms, nil, cons, term_weight, terms_weight, Op, and, or, imp, iff, all, ex, Formula, top, bot, pred, eq, neg, bin, blk, weight}
use Rattle.definitions.specs.Truth.{every, any}
use Rattle.definitions.specs.Prenex.{no_block}
use Rattle.definitions.specs.Order.{Atom, rel, same_as, Literal, cmp_atom, cmp_literal}
use Rattle.definitions.specs.Clauses.{atom_formula}
use Rattle.definitions.proofs.Laws.Bools.{clash, by_cases, and_true_left, and_true_right}
use Rattle.definitions.specs.Laws.Shapes.{is_atom, and_or, negated}
use Rattle.definitions.specs.Laws.Order.{is_less, swap}
use Rattle.definitions.proofs.Laws.Order.{itself, atom_orders}
use Rattle.definitions.specs.Laws.Sorted.{above, sorted, has}
use Rattle.text.specs.Words.{Token, sign, token, tokens, term_code, terms_code, op_kind, code, kind}
use Rattle.text.specs.WordLaws.{map_take}
use Rattle.text.specs.Streams.{behind_part}
use Rattle.text.specs.Weights.{term_words, terms_words, words_weight}
use Rattle.clauses.specs.Each.{Each, none, more, At, first, later}
use Rattle.clauses.specs.Plans.{none}
use Rattle.clauses.specs.Ranks.{cmp_tokens, cmp_places, cmp_parts, part_word, start_of, lead, spots, seek, rank}
use Rattle.clauses.specs.Search.{at_place}
use Rattle.clauses.specs.Sets.{Numbered, positive, negative, Spelled}
use Rattle.clauses.proofs.Numbers.{compare_lt, compare_gt, compare_add}
use Rattle.clauses.proofs.Ordered.{atom_order}
use Rattle.clauses.proofs.Searching.{less_is}

-- the atoms of a formula, from left to right
unfoldable pub atoms : Formula → List Atom
atoms top = []
atoms bot = []
atoms (pred p ts) = rel p ts ∷ []
atoms (eq t u) = same_as t u ∷ []
atoms (neg f) = atoms f
atoms (bin o f g) = atoms f ++ atoms g
atoms (blk q vs f) = []

-- terms are no atoms, and all of their words lead
mutual
  unfolding term_code terms_code term_weight terms_weight spots lead

  spots_term : (at n : ℕ) (t : Term) (rest : List Token) → n ≡ at + term_weight t → spots at (map kind (term_code t ++ rest)) ≡ spots n (map kind rest)
  spots_term at n (var x) rest e = let z : suc at ≡ n = omega arith in rw z
  spots_term at n (con c) rest e = let z : suc at ≡ n = omega arith in rw z
  spots_term at n (app f ts) rest e = spots_terms (suc at) n ts rest (omega arith)

  spots_terms : (at n : ℕ) (ts : Terms) (rest : List Token) → n ≡ at + terms_weight ts → spots at (map kind (terms_code ts ++ rest)) ≡ spots n (map kind rest)
  spots_terms at n nil rest e = let z : at ≡ n = omega arith in rw z
  spots_terms at n (cons t ts) rest e =
      rw (append_assoc (term_code t) (terms_code ts) rest)
      (spots_term at (at + term_weight t) t (terms_code ts ++ rest) refl ∙ spots_terms (at + term_weight t) n ts rest (omega arith))

mutual
  unfolding term_code terms_code term_weight terms_weight lead

  lead_term : (t : Term) (rest : List Token) → lead (map kind (term_code t ++ rest)) ≡ term_weight t + lead (map kind rest)
  lead_term (var x) rest = omega arith
  lead_term (con c) rest = omega arith
  lead_term (app f ts) rest = omega (arith, lead_terms ts rest)

  lead_terms : (ts : Terms) (rest : List Token) → lead (map kind (terms_code ts ++ rest)) ≡ terms_weight ts + lead (map kind rest)
  lead_terms nil rest = omega arith
  lead_terms (cons t ts) rest = rw (append_assoc (term_code t) (terms_code ts) rest) (omega (arith, lead_term t (terms_code ts ++ rest), lead_terms ts rest))

-- a formula's first word does not lead
lead_none : (f : Formula) (rest : List Token) → lead (map kind (code f ++ rest)) ≡ 0
unfolding code lead
lead_none top rest = refl
lead_none bot rest = refl
lead_none (pred p ts) rest = refl
lead_none (eq t u) rest = refl
lead_none (neg f) rest = refl
lead_none (bin and f g) rest = refl
lead_none (bin or f g) rest = refl
lead_none (bin imp f g) rest = refl
lead_none (bin iff f g) rest = refl
lead_none (blk all vs f) rest = refl
lead_none (blk ex vs f) rest = refl

atom_negated : (f : Formula) → is_atom f ≡ true → negated f ≡ true
unfolding negated
atom_negated top h = refl
atom_negated bot h = refl
atom_negated (pred p ts) h = refl
atom_negated (eq t u) h = refl
atom_negated (neg f) h = clash h refl
atom_negated (bin o f g) h = clash h refl
atom_negated (blk q vs f) h = clash h refl

spots_bin : (at : ℕ) (o : Op) (l : List ℕ) → spots at (op_kind o ∷ l) ≡ spots (suc at) l
unfolding spots
spots_bin at and l = refl
spots_bin at or l = refl
spots_bin at imp l = refl
spots_bin at iff l = refl

module _ (T M : Bytes) (S : List ℕ) where
  -- a table's tokens behind some that are known
  pub tokens_drop : (at n : ℕ) (x y : List Token) → tokens T M (drop at S) ≡ x ++ y → n ≡ at + length x → tokens T M (drop n S) ≡ y
  tokens_drop at n x y e l =
      ap (λ (i : ℕ). tokens T M (drop i S)) l ∙ behind_part T M S at x e

  part_spelled : (at : ℕ) (a : Atom) (rest : List Token) (n : ℕ) → tokens T M (drop at S) ≡ code (atom_formula a) ++ rest → at < 1024 → n ≡ length (code (atom_formula a))
      → Spelled T M S (part_word at n) a
  part_spelled at a rest n e h l =
      let z : part_word at n / 4096 ≡ n = omega arith in
      let y : part_word at n % 4096 ≡ at = omega arith in
      rw (z, y) (map_take (token T M) n (drop at S) ∙ ap (take n) e ∙ take_at (code (atom_formula a)) rest n (sym l))

  -- the parts that are found are the atoms
  pub spots_each : (at n : ℕ) (f : Formula) (rest g : List Token) (m : List Atom) → negated f ≡ true → no_block f ≡ true → n ≡ at + weight f → n ≤ 1024
      → tokens T M (drop at S) ≡ code f ++ (rest ++ g) → lead (map kind rest) ≡ 0 → Each (Spelled T M S) (spots n (map kind rest)) m
      → Each (Spelled T M S) (spots at (map kind (code f ++ rest))) (atoms f ++ m)
  unfolding spots code atoms negated no_block weight
  spots_each at n top rest g m h k e u w z r = let y : suc at ≡ n = omega arith in rw y r
  spots_each at n bot rest g m h k e u w z r = let y : suc at ≡ n = omega arith in rw y r
  spots_each at n (pred p ts) rest g m h k e u w z r =
      let more_spots : Each (Spelled T M S) (spots (suc at) (map kind (terms_code ts ++ rest))) m = rw (spots_terms (suc at) n ts rest (omega arith)) r in
      more (part_spelled at (rel p ts) (rest ++ g) (suc (lead (map kind (terms_code ts ++ rest)))) w (omega arith) (omega (arith, lead_terms ts rest, terms_words ts)))
      more_spots
  spots_each at n (eq t v) rest g m h k e u w z r =
      let leads : lead (map kind ((term_code t ++ term_code v) ++ rest)) ≡ term_weight t + term_weight v =
      rw (append_assoc (term_code t) (term_code v) rest) (omega (arith, lead_term t (term_code v ++ rest), lead_term v rest)) in
      let more_spots : Each (Spelled T M S) (spots (suc at) (map kind ((term_code t ++ term_code v) ++ rest))) m =
      rw (
        append_assoc (term_code t) (term_code v) rest,
        spots_term (suc at) (suc at + term_weight t) t (term_code v ++ rest) refl,
        spots_term (suc at + term_weight t) n v rest (omega arith),
      ) r in
      more (part_spelled at (same_as t v) (rest ++ g) (suc (lead (map kind ((term_code t ++ term_code v) ++ rest)))) w (omega arith)
      (omega (arith, leads, length-append (term_code t) (term_code v), term_words t, term_words v)))
      more_spots
  spots_each at n (neg f) rest g m h k e u w z r =
      spots_each (suc at) n f rest g m (atom_negated f h) k (omega arith) u (tokens_drop at (suc at) (sign 2 0 [] ∷ []) (code f ++ (rest ++ g)) w (omega arith)) z r
  spots_each at n (bin o f f') rest g m h k e u w z r =
      let parts = and_true_right (and_or o) (negated f && negated f') h in
      let below : tokens T M (drop (suc at) S) ≡ code f ++ ((code f' ++ rest) ++ g) =
      tokens_drop at (suc at) (sign (op_kind o) 0 [] ∷ []) ((code f ++ code f') ++ (rest ++ g)) w (omega arith)
      ∙ simp append_assoc in
      let beside : tokens T M (drop (suc at + weight f) S) ≡ code f' ++ (rest ++ g) =
      tokens_drop (suc at) (suc at + weight f) (code f) ((code f' ++ rest) ++ g) below (omega (arith, words_weight f)) ∙ append_assoc (code f') rest g in
      rw (spots_bin at o (map kind ((code f ++ code f') ++ rest)), append_assoc (code f) (code f') rest, append_assoc (atoms f) (atoms f') m)
      (spots_each (suc at) (suc at + weight f) f (code f' ++ rest) g (atoms f' ++ m) (and_true_left (negated f) (negated f') parts)
      (and_true_left (no_block f) (no_block f') k) refl (omega arith) below (lead_none f' rest)
      (spots_each (suc at + weight f) n f' rest g m (and_true_right (negated f) (negated f') parts) (and_true_right (no_block f) (no_block f') k) (omega arith) u beside z r))
  spots_each at n (blk q vs f) rest g m h k e u w z r = clash k refl

  -- atoms are compared by their places as they are themselves
  pub places_agree : (i j : ℕ) (a b : Atom) (x y : List Token) → tokens T M (drop i S) ≡ code (atom_formula a) ++ x → tokens T M (drop j S) ≡ code (atom_formula b) ++ y
      → cmp_places T M S i j ≡ cmp_atom a b
  places_agree i j a b x y e d = ap₂ (λ (s t : List Token). cmp_tokens s t 1 Ordering.eq) e d ∙ atom_order a b x y

  abbrev after_part : ℕ → List Token
  after_part w = drop (w / 4096) (tokens T M (drop (start_of w) S))

  part_first : (w : ℕ) (a : Atom) → Spelled T M S w a → tokens T M (drop (start_of w) S) ≡ code (atom_formula a) ++ after_part w
  part_first w a e =
      let D = tokens T M (drop (start_of w) S) in
      sym (take-append-drop (w / 4096) D) ∙ ap (λ (l : List Token). l ++ after_part w) (sym (map_take (token T M) (w / 4096) (drop (start_of w) S)) ∙ e)

  pub place_agrees : (i w : ℕ) (a b : Atom) (x : List Token) → tokens T M (drop i S) ≡ code (atom_formula a) ++ x
      → Spelled T M S w b → at_place T M S i w ≡ cmp_atom a b
  place_agrees i w a b x e s = places_agree i (start_of w) a b x (after_part w) e (part_first w b s)

  pub parts_agree : (v w : ℕ) (a b : Atom) → Spelled T M S v a → Spelled T M S w b → cmp_parts T M S v w ≡ cmp_atom a b
  parts_agree v w a b x y = place_agrees (start_of v) w a b (after_part v) (part_first v a x) y

  -- the rank of an atom is its place among the sorted atoms
  pub ranked : {ws : List ℕ} {found : List Atom} (i : ℕ) (a : Atom) (x : List Token) → Each (Spelled T M S) ws found → tokens T M (drop i S) ≡ code (atom_formula a) ++ x
      → has cmp_atom a found ≡ true → At found (rank T M S ws i) a
  unfolding seek any
  ranked i a x none e h = clash h refl
  ranked i a x (more {x = w} {a = b} {l = ws} {m = found} s r) e h =
      let agrees = place_agrees i w a b x e s in
      by_cases (compare_is_eq (cmp_atom a b))
      (λ t. rw (ap compare_is_eq agrees ∙ t) (rw (← atom_orders.equal a b t) first))
      (λ t. rw (ap compare_is_eq agrees ∙ t) (later (ranked i a x r e (rw t at h))))

-- places in a sorted list are ordered as the elements
at_below : {A : Type 0} {l : List A} {n : ℕ} {a : A} → At l n a → n < length l
at_below first = omega arith
at_below (later p) = omega (arith, at_below p)

above_at : {l : List Atom} {n : ℕ} {a : Atom} (x : Atom) → above cmp_atom x l ≡ true → At l n a → cmp_atom x a ≡ Ordering.lt
unfolding every
above_at x h (first {a = a} {l = l}) = less_is (cmp_atom x a) (and_true_left (is_less (cmp_atom x a)) (above cmp_atom x l) h)
above_at x h (later {b = b} {l = l} p) = above_at x (and_true_right (is_less (cmp_atom x b)) (above cmp_atom x l) h) p

at_compare : {l : List Atom} {m n : ℕ} {a b : Atom} → sorted cmp_atom l ≡ true → At l m a → At l n b → compare m n ≡ cmp_atom a b
unfolding sorted
at_compare h (first {a = a}) first = compare.zero-zero ∙ sym (itself atom_orders a)
at_compare h (first {a = a} {l = l}) (later {n = n} p) =
    compare.zero-suc n ∙ sym (above_at a (and_true_left (above cmp_atom a l) (sorted cmp_atom l) h) p)
at_compare h (later {a = a} {b = b} {l = l} {n = m} p) first =
    compare.suc-zero m ∙ sym (atom_orders.back b a ∙ ap swap (above_at b (and_true_left (above cmp_atom b l) (sorted cmp_atom l) h) p))
at_compare h (later {b = b} {l = l} {n = m} p) (later {n = n} r) =
    compare.suc-suc m n ∙ at_compare (and_true_right (above cmp_atom b l) (sorted cmp_atom l) h) p r

pub numbers_agree : (found : List Atom) → sorted cmp_atom found ≡ true → length found ≤ 1024 → (x y : ℕ) (l k : Literal) → Numbered found x l → Numbered found y k
    → compare x y ≡ cmp_literal l k
unfolding cmp_literal
numbers_agree found h s x y l k (positive p) (positive r) = at_compare h p r
numbers_agree found h s x y l k (positive p) (negative r) = compare_lt _ _ (omega (arith, at_below p))
numbers_agree found h s x y l k (negative p) (positive r) = compare_gt _ _ (omega (arith, at_below r))
numbers_agree found h s x y l k (negative {n = m} p) (negative {n = n} r) = compare_add 1024 m n ∙ at_compare h p r
