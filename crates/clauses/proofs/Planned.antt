-- The words that are laid out for a formula are those of its plan: what stands behind a node is laid out when the node is reached, and the
-- first words of its two parts tell where they stand and what they count.
use mathlib.Core.Path.{◌≡◌, refl, sym, ap, ap₂, ◌∙◌}
use mathlib.Core.Bool.{Bool, true, false, ◌&&◌}
use mathlib.Core.List.{List, [], ◌∷◌, ◌++◌, map, append_assoc}
use Prim.Native.Nat.{ℕ, suc, ◌+◌, ◌<◌, ◌≤◌}
use native.Mathlib.Omega.{arith}
use lib.ListN.{length, get_or, length-append}
use lib.Seq.{get_or-append_seam}
use Rattle.definitions.specs.Syntax.{Term, var, con, app, Terms, nil, cons, term_weight, terms_weight, Op, and, or, imp, iff, Quant, all, ex, Formula, top, bot, pred, eq, neg, bin, blk, weight}
use Rattle.definitions.proofs.Laws.Bools.{clash, and_true_left, and_true_right}
use Rattle.definitions.specs.Laws.Shapes.{is_atom, and_or, negated}
use Rattle.definitions.specs.Prenex.{no_block}
use Rattle.text.specs.Words.{Token, term_code, terms_code, op_kind, code, kind}
use Rattle.clauses.specs.Plans.{Plan, none, empty, leaf, sum, product, counts, clamped, plan_word, form_of, size_of, clauses_of, literals_of, number_of, size, form, number, head, words}
use Rattle.clauses.specs.Laying.{constant_plan, both, plan, joined_word, leaf_word, laid_before, laid}
use Rattle.clauses.proofs.Numbers.{clamp_add, clamp_mul, clamp_sums}

-- the fields of a word
module _ (f s c l n : ℕ) (f< : f < 4) (s< : s < 2048) (c< : c < 4096) (l< : l < 4096) where
  pub form_is : form_of (plan_word f s c l n) ≡ f
  form_is = omega arith

  pub size_is : size_of (plan_word f s c l n) ≡ s
  size_is = omega arith

  pub clauses_is : clauses_of (plan_word f s c l n) ≡ c
  clauses_is = omega arith

  pub literals_is : literals_of (plan_word f s c l n) ≡ l
  literals_is = omega arith

  pub number_is : number_of (plan_word f s c l n) ≡ n
  number_is = omega arith

form_small : (p : Plan) → form p < 4
form_small none = omega arith
form_small empty = omega arith
form_small (leaf n) = omega arith
form_small (sum a b) = omega arith
form_small (product a b) = omega arith

-- the fields of a plan's first word
module _ (p : Plan) (s< : size p < 2048) where
  pub head_form : form_of (head p) ≡ form p
  head_form = form_is (form p) (size p) _ _ (number p) (form_small p) s< (omega arith) (omega arith)

  pub head_size : size_of (head p) ≡ size p
  head_size = size_is (form p) (size p) _ _ (number p) (form_small p) s< (omega arith) (omega arith)

  pub head_clauses : clauses_of (head p) ≡ clamped (counts p).clauses
  head_clauses = clauses_is (form p) (size p) _ _ (number p) (form_small p) s< (omega arith) (omega arith)

  pub head_literals : literals_of (head p) ≡ clamped (counts p).literals
  head_literals = literals_is (form p) (size p) _ _ (number p) (form_small p) s< (omega arith) (omega arith)

  pub head_number : number_of (head p) ≡ number p
  head_number = number_is (form p) (size p) _ _ (number p) (form_small p) s< (omega arith) (omega arith)

abbrev pub below : Plan → List ℕ
below none = []
below empty = []
below (leaf n) = []
below (sum a b) = words a ++ words b
below (product a b) = words a ++ words b

pub words_split : (p : Plan) → words p ≡ head p ∷ below p
unfolding words
words_split none = refl
words_split empty = refl
words_split (leaf n) = refl
words_split (sum a b) = refl
words_split (product a b) = refl

pub words_length : (p : Plan) → length (words p) ≡ size p
unfolding words size
words_length none = refl
words_length empty = refl
words_length (leaf n) = refl
words_length (sum a b) = omega (arith, length-append (words a) (words b), words_length a, words_length b)
words_length (product a b) = omega (arith, length-append (words a) (words b), words_length a, words_length b)

-- the word of a node, made of the first words of its parts
module _ (a b : Plan) (sa : size a < 2048) (sb : size b < 2048) where
  pub sum_head : joined_word 2 (head a) (head b) ≡ head (sum a b)
  unfolding size counts
  sum_head =
      rw (
        head_size a sa,
        head_size b sb,
        head_clauses a sa,
        head_clauses b sb,
        head_literals a sa,
        head_literals b sb,
        clamp_add (counts a).clauses (counts b).clauses,
        clamp_add (counts a).literals (counts b).literals,
      )

  pub product_head : joined_word 3 (head a) (head b) ≡ head (product a b)
  unfolding size counts
  product_head =
      rw (
        head_size a sa,
        head_size b sb,
        head_clauses a sa,
        head_clauses b sb,
        head_literals a sa,
        head_literals b sb,
        clamp_mul (counts a).clauses (counts b).clauses,
        clamp_sums (counts a).literals (counts b).clauses (counts b).literals (counts a).clauses,
      )

  -- where the parts stand
  pub first_part : (l : List ℕ) → get_or (words a ++ (words b ++ l)) 0 0 ≡ head a
  first_part l = rw (words_split a)

  pub second_part : (l : List ℕ) → get_or (words a ++ (words b ++ l)) (size_of (head a)) 0 ≡ head b
  second_part l = rw (head_size a sa, ← words_length a, words_split b) (get_or-append_seam (words a) (head b) (below b ++ l) 0)

-- terms are passed over
mutual
  unfolding term_code terms_code term_weight terms_weight laid laid_before

  pub laid_term : (q : Quant) (at n : ℕ) (t : Term) (rest : List Token) → n ≡ at + term_weight t → laid q at (map kind (term_code t ++ rest)) ≡ laid q n (map kind rest)
  laid_term q at n (var x) rest e = let z : suc at ≡ n = omega arith in rw z
  laid_term q at n (con c) rest e = let z : suc at ≡ n = omega arith in rw z
  laid_term q at n (app f ts) rest e = laid_terms q (suc at) n ts rest (omega arith)

  pub laid_terms : (q : Quant) (at n : ℕ) (ts : Terms) (rest : List Token) → n ≡ at + terms_weight ts → laid q at (map kind (terms_code ts ++ rest)) ≡ laid q n (map kind rest)
  laid_terms q at n nil rest e = let z : at ≡ n = omega arith in rw z
  laid_terms q at n (cons t ts) rest e =
      rw (append_assoc (term_code t) (terms_code ts) rest)
      (laid_term q at (at + term_weight t) t (terms_code ts ++ rest) refl ∙ laid_terms q (at + term_weight t) n ts rest (omega arith))

-- the plan of a formula is no larger than it
both_small : (q : Quant) (o : Op) (a b : Plan) (v w : ℕ) → size a ≤ v → size b ≤ w → size (both q o a b) ≤ 1 + (v + w)
unfolding size
both_small all and a b v w h k = omega arith
both_small all or a b v w h k = omega arith
both_small all imp a b v w h k = omega arith
both_small all iff a b v w h k = omega arith
both_small ex and a b v w h k = omega arith
both_small ex or a b v w h k = omega arith
both_small ex imp a b v w h k = omega arith
both_small ex iff a b v w h k = omega arith

constant_small : (q : Quant) (b : Bool) → size (constant_plan q b) ≤ 1
unfolding size
constant_small all true = omega arith
constant_small all false = omega arith
constant_small ex true = omega arith
constant_small ex false = omega arith

pub some_weight : (f : Formula) → 0 < weight f
unfolding weight
some_weight top = omega arith
some_weight bot = omega arith
some_weight (pred p ts) = omega arith
some_weight (eq t u) = omega arith
some_weight (neg f) = omega arith
some_weight (bin o f g) = omega arith
some_weight (blk q vs f) = omega arith

pub plan_small : (q : Quant) (at : ℕ) (f : Formula) → size (plan q at f) ≤ weight f
unfolding plan size weight
plan_small q at top = constant_small q true
plan_small q at bot = constant_small q false
plan_small q at (pred p ts) = omega arith
plan_small q at (eq t u) = omega arith
plan_small q at (neg f) = omega arith
plan_small q at (bin o f g) =
    both_small q o (plan q (suc at) f) (plan q (suc at + weight f) g) (weight f) (weight g) (plan_small q (suc at) f) (plan_small q (suc at + weight f) g)
plan_small q at (blk r vs f) = omega arith

-- Each node is laid out before its parts.
constant_laid : (q : Quant) (at : ℕ) (l : List ℕ) → (laid_before q at 0 l ≡ words (constant_plan q true) ++ l) × (laid_before q at 1 l ≡ words (constant_plan q false) ++ l)
unfolding laid_before words size counts
constant_laid all at l = (refl, refl)
constant_laid ex at l = (refl, refl)

atom_laid : (q : Quant) (at n : ℕ) (f : Formula) (rest : List Token) → is_atom f ≡ true → n ≡ at + weight f
    → laid q at (map kind (code f ++ rest)) ≡ words (leaf at) ++ laid q n (map kind rest)
unfolding laid laid_before code weight words size counts
atom_laid q at n top rest h e = clash h refl
atom_laid q at n bot rest h e = clash h refl
atom_laid q at n (pred p ts) rest h e = ap (λ (l : List ℕ). leaf_word at ∷ l) (laid_terms q (suc at) n ts rest (omega arith))
atom_laid q at n (eq t u) rest h e =
    rw (append_assoc (term_code t) (term_code u) rest)
    (ap (λ (l : List ℕ). leaf_word at ∷ l)
    (laid_term q (suc at) (suc at + term_weight t) t (term_code u ++ rest) refl ∙ laid_term q (suc at + term_weight t) n u rest (omega arith)))
atom_laid q at n (neg f) rest h e = clash h refl
atom_laid q at n (bin o f g) rest h e = clash h refl
atom_laid q at n (blk r vs f) rest h e = clash h refl

module _ (a b : Plan) (s : size a ≤ 1024) (t : size b ≤ 1024) (l : List ℕ) where
  abbrev laid_parts : List ℕ
  laid_parts = words a ++ (words b ++ l)

  first_is : get_or laid_parts 0 0 ≡ head a
  first_is = first_part a b (omega (arith, s)) (omega (arith, t)) l

  second_is : get_or laid_parts (size_of (get_or laid_parts 0 0)) 0 ≡ head b
  second_is =
      ap (λ (h : ℕ). get_or laid_parts (size_of h) 0) first_is
      ∙ second_part a b (omega (arith, s)) (omega (arith, t)) l

  sum_laid : joined_word 2 (get_or laid_parts 0 0) (get_or laid_parts (size_of (get_or laid_parts 0 0)) 0) ∷ laid_parts ≡ words (sum a b) ++ l
  unfolding words
  sum_laid =
      ap₂ (◌∷◌)
      (ap₂ (joined_word 2) first_is second_is ∙ sum_head a b (omega (arith, s)) (omega (arith, t)))
      (sym (append_assoc (words a) (words b) l))

  product_laid : joined_word 3 (get_or laid_parts 0 0) (get_or laid_parts (size_of (get_or laid_parts 0 0)) 0) ∷ laid_parts ≡ words (product a b) ++ l
  unfolding words
  product_laid =
      ap₂ (◌∷◌)
      (ap₂ (joined_word 3) first_is second_is ∙ product_head a b (omega (arith, s)) (omega (arith, t)))
      (sym (append_assoc (words a) (words b) l))

both_laid : (q : Quant) (o : Op) (at : ℕ) (a b : Plan) (l : List ℕ) → and_or o ≡ true → size a ≤ 1024 → size b ≤ 1024
    → laid_before q at (op_kind o) (words a ++ (words b ++ l)) ≡ words (both q o a b) ++ l
unfolding laid_before
both_laid all and at a b l h s t = sum_laid a b s t l
both_laid all or at a b l h s t = product_laid a b s t l
both_laid all imp at a b l h s t = clash h refl
both_laid all iff at a b l h s t = clash h refl
both_laid ex and at a b l h s t = product_laid a b s t l
both_laid ex or at a b l h s t = sum_laid a b s t l
both_laid ex imp at a b l h s t = clash h refl
both_laid ex iff at a b l h s t = clash h refl

negated_leaf : (q : Quant) (at : ℕ) (l : List ℕ) → laid_before q at 2 (words (leaf (suc at)) ++ l) ≡ words (leaf (1024 + suc at)) ++ l
unfolding laid_before words size counts
negated_leaf q at l = refl

pub laid_plan : (q : Quant) (at n : ℕ) (f : Formula) (rest : List Token) → negated f ≡ true → no_block f ≡ true → n ≡ at + weight f → n ≤ 1024
    → laid q at (map kind (code f ++ rest)) ≡ words (plan q at f) ++ laid q n (map kind rest)
unfolding laid code plan negated no_block weight
laid_plan q at n top rest h k e u = let z : suc at ≡ n = omega arith in rw z (constant_laid q at (laid q n (map kind rest))).0
laid_plan q at n bot rest h k e u = let z : suc at ≡ n = omega arith in rw z (constant_laid q at (laid q n (map kind rest))).1
laid_plan q at n (pred p ts) rest h k e u = atom_laid q at n (pred p ts) rest refl e
laid_plan q at n (eq t u) rest h k e s = atom_laid q at n (eq t u) rest refl e
laid_plan q at n (neg f) rest h k e u =
    ap (laid_before q at 2) (atom_laid q (suc at) n f rest h (omega arith)) ∙ negated_leaf q at (laid q n (map kind rest))
laid_plan q at n (bin o f g) rest h k e u =
    let parts = and_true_right (and_or o) (negated f && negated g) h in
    let l = laid q n (map kind rest) in
    rw (append_assoc (code f) (code g) rest)
    (ap (laid_before q at (op_kind o))
    (laid_plan q (suc at) (suc at + weight f) f (code g ++ rest) (and_true_left (negated f) (negated g) parts) (and_true_left (no_block f) (no_block g) k) refl (omega arith)
    ∙ ap (λ (r : List ℕ). words (plan q (suc at) f) ++ r)
    (laid_plan q (suc at + weight f) n g rest (and_true_right (negated f) (negated g) parts) (and_true_right (no_block f) (no_block g) k) (omega arith) u))
    ∙ both_laid q o at (plan q (suc at) f) (plan q (suc at + weight f) g) l (and_true_left (and_or o) (negated f && negated g) h)
    (omega (arith, plan_small q (suc at) f)) (omega (arith, plan_small q (suc at + weight f) g)))
laid_plan q at n (blk r vs f) rest h k e u = clash k refl
