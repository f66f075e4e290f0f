-- A plan with ranks in place of places: its words are the plan's with new numbers, and its raw clauses are those of the formula.
use mathlib.Core.Path.{◌≡◌, refl, sym, ap, ap₂, ◌∙◌}
use mathlib.Core.Bool.{Bool, true, false, ◌&&◌}
use mathlib.Core.List.{List, [], ◌∷◌, ◌++◌, map, append_assoc}
use Prim.Native.Nat.{ℕ, suc, ◌+◌, ◌/◌, ◌%◌, ◌<◌, ◌≤◌}
use native.Mathlib.Omega.{arith}
use lib.Dec.{compare_is_eq}
use lib.ListN.{drop}
use borrow.Author.Tests.{ne_eqb}
use Rattle.definitions.specs.Bytes.{Bytes}
use Rattle.definitions.specs.Syntax.{Op, and, or, imp, iff, Quant, all, ex, Formula, top, bot, pred, eq, neg, bin, blk, weight}
use Rattle.definitions.specs.Truth.{any}
use Rattle.definitions.specs.Prenex.{no_block}
use Rattle.definitions.specs.Order.{Atom, rel, same_as, Literal, pos, opp, Clause, cmp_atom}
use Rattle.definitions.specs.Clauses.{constant, combine, opposite, distribute, raw_combine, raw_opposite, raw, atom_formula}
use Rattle.definitions.proofs.Laws.Bools.{clash, or_left, or_right, and_true_left, and_true_right}
use Rattle.definitions.proofs.Laws.Order.{itself, atom_orders}
use Rattle.definitions.specs.Laws.Sorted.{has}
use Rattle.definitions.proofs.Laws.Sorted.{over_append}
use Rattle.definitions.specs.Laws.Shapes.{is_atom, and_or, negated}
use Rattle.text.specs.Words.{Token, sign, tokens, op_kind, code}
use Rattle.text.specs.Weights.{words_weight}
use Rattle.clauses.specs.Each.{Each, none, more, At}
use Rattle.clauses.specs.Plans.{Plan, none as no_clause, empty, leaf, sum, product, made, counts, size, form_of, number_of, head, words}
use Rattle.clauses.specs.Laying.{constant_plan, both, plan}
use Rattle.clauses.specs.Ranks.{renumbered, relabelled}
use Rattle.clauses.specs.Sets.{Numbered, positive, negative}
use Rattle.clauses.proofs.Related.{map_append, each_append, each_product}
use Rattle.clauses.proofs.Planned.{head_form, head_number, some_weight}
use Rattle.clauses.proofs.Ranked.{atoms, tokens_drop}

-- a plan with ranks in place of places
unfoldable pub label : (ℕ → ℕ) → Plan → Plan
label r no_clause = no_clause
label r empty = empty
label r (leaf n) = leaf (renumbered r n)
label r (sum a b) = sum (label r a) (label r b)
label r (product a b) = product (label r a) (label r b)

pub label_counts : (r : ℕ → ℕ) (p : Plan) → counts (label r p) ≡ counts p
unfolding label counts
label_counts r no_clause = refl
label_counts r empty = refl
label_counts r (leaf n) = refl
label_counts r (sum a b) = rw (label_counts r a, label_counts r b)
label_counts r (product a b) = rw (label_counts r a, label_counts r b)

pub label_size : (r : ℕ → ℕ) (p : Plan) → size (label r p) ≡ size p
unfolding label size
label_size r no_clause = refl
label_size r empty = refl
label_size r (leaf n) = refl
label_size r (sum a b) = rw (label_size r a, label_size r b)
label_size r (product a b) = rw (label_size r a, label_size r b)

-- all numbers of literals are below 2,048
unfoldable pub Fits : Plan → Type 0
Fits no_clause = Unit {0}
Fits empty = Unit {0}
Fits (leaf n) = n < 2048
Fits (sum a b) = Fits a × Fits b
Fits (product a b) = Fits a × Fits b

constant_fits : (q : Quant) (b : Bool) → Fits (constant_plan q b)
unfolding Fits
constant_fits all true = tt
constant_fits all false = tt
constant_fits ex true = tt
constant_fits ex false = tt

both_fits : (q : Quant) (o : Op) (a b : Plan) → Fits a → Fits b → Fits (both q o a b)
unfolding Fits
both_fits all and a b h k = (h, k)
both_fits all or a b h k = (h, k)
both_fits all imp a b h k = tt
both_fits all iff a b h k = tt
both_fits ex and a b h k = (h, k)
both_fits ex or a b h k = (h, k)
both_fits ex imp a b h k = tt
both_fits ex iff a b h k = tt

pub plan_fits : (q : Quant) (at : ℕ) (f : Formula) → at + weight f ≤ 1024 → Fits (plan q at f)
unfolding plan weight Fits
plan_fits q at top h = constant_fits q true
plan_fits q at bot h = constant_fits q false
plan_fits q at (pred p ts) h = omega arith
plan_fits q at (eq t u) h = omega arith
plan_fits q at (neg f) h = omega (arith, some_weight f)
plan_fits q at (bin o f g) h =
    both_fits q o (plan q (suc at) f) (plan q (suc at + weight f) g) (plan_fits q (suc at) f (omega arith)) (plan_fits q (suc at + weight f) g (omega arith))
plan_fits q at (blk r vs f) h = tt

-- only a literal's word has a new number
module _ (r : ℕ → ℕ) where
  other_word : (w : ℕ) → (form_of w ≡ 1 → ⊥) → relabelled r w ≡ w
  other_word w h = rw (ne_eqb (form_of w) 1 h)

  leaf_label : (n : ℕ) → n < 2048 → relabelled r (head (leaf n)) ≡ head (leaf (renumbered r n))
  unfolding size counts
  leaf_label n h =
      let z : number_of (head (leaf n)) % 2048 ≡ n = omega (arith, head_number (leaf n) (omega arith)) in
      rw (head_form (leaf n) (omega arith), z)

  sum_label : (a b : Plan) → size (sum a b) < 2048 → head (sum (label r a) (label r b)) ≡ relabelled r (head (sum a b))
  unfolding size counts
  sum_label a b s =
      sym (other_word (head (sum a b)) (λ e. omega (arith, head_form (sum a b) s))
      ∙ rw (label_size r a, label_size r b, label_counts r a, label_counts r b))

  product_label : (a b : Plan) → size (product a b) < 2048 → head (product (label r a) (label r b)) ≡ relabelled r (head (product a b))
  unfolding size counts
  product_label a b s =
      sym (other_word (head (product a b)) (λ e. omega (arith, head_form (product a b) s))
      ∙ rw (label_size r a, label_size r b, label_counts r a, label_counts r b))

  pub words_label : (p : Plan) → Fits p → size p < 2048 → words (label r p) ≡ map (relabelled r) (words p)
  unfolding words label Fits size counts
  words_label no_clause f s = refl
  words_label empty f s = refl
  words_label (leaf n) f s = ap (λ (w : ℕ). w ∷ []) (sym (leaf_label n f))
  words_label (sum a b) f s =
      ap₂ (◌∷◌) (sum_label a b s)
      (ap₂ (◌++◌) (words_label a f.0 (omega arith)) (words_label b f.1 (omega arith)) ∙ sym (map_append (relabelled r) (words a) (words b)))
  words_label (product a b) f s =
      ap₂ (◌∷◌) (product_label a b s)
      (ap₂ (◌++◌) (words_label a f.0 (omega arith)) (words_label b f.1 (omega arith)) ∙ sym (map_append (relabelled r) (words a) (words b)))

-- The raw clauses of the formula at `at`, where its atoms have ranks.
module _ (T M : Bytes) (S : List ℕ) (r : ℕ → ℕ) (found : List Atom)
    (ranks : (i : ℕ) (a : Atom) (x : List Token) → tokens T M (drop i S) ≡ code (atom_formula a) ++ x → has cmp_atom a found ≡ true → At found (r i) a) where
  abbrev pub Made : Quant → ℕ → Formula → Type 0
  Made q at f = Each (Each (Numbered found)) (made (label r (plan q at f))) (distribute q f)

  constant_made : (q : Quant) (b : Bool) → Each (Each (Numbered found)) (made (label r (constant_plan q b))) (constant q b)
  unfolding made label
  constant_made all true = none
  constant_made all false = more none none
  constant_made ex true = more none none
  constant_made ex false = none

  place_is : (at : ℕ) → at < 1024 → renumbered r at ≡ r at
  place_is at h =
      let a : at / 1024 ≡ 0 = omega arith in
      let b : at % 1024 ≡ at = omega arith in
      rw (a, b) (omega arith)

  negative_is : (at : ℕ) → at < 1024 → renumbered r (1024 + at) ≡ 1024 + r at
  negative_is at h =
      let a : (1024 + at) / 1024 ≡ 1 = omega arith in
      let b : (1024 + at) % 1024 ≡ at = omega arith in
      rw (a, b) (omega arith)

  single : (n m : ℕ) (l : Literal) → n ≡ m → Numbered found m l → Each (Each (Numbered found)) ((n ∷ []) ∷ []) ((l ∷ []) ∷ [])
  single n m l e h = rw e (more (more h none) none)

  both_made : (q : Quant) (o : Op) (a b : Plan) (c d : List Clause) → Each (Each (Numbered found)) (made (label r a)) c → Each (Each (Numbered found)) (made (label r b)) d
      → Each (Each (Numbered found)) (made (label r (both q o a b))) (combine q o c d)
  unfolding made label
  both_made all and a b c d h k = each_append h k
  both_made all or a b c d h k = each_product h k
  both_made all imp a b c d h k = none
  both_made all iff a b c d h k = none
  both_made ex and a b c d h k = each_product h k
  both_made ex or a b c d h k = each_append h k
  both_made ex imp a b c d h k = none
  both_made ex iff a b c d h k = none

  one_of : (a : Atom) (m : List Atom) → has cmp_atom a (a ∷ m) ≡ true
  unfolding any
  one_of a m = rw (itself atom_orders a)

  opposite_made : (q : Quant) (at : ℕ) (f : Formula) (rest : List Token) → is_atom f ≡ true → suc at < 1024 → tokens T M (drop (suc at) S) ≡ code f ++ rest
      → ((a : Atom) → has cmp_atom a (atoms f) ≡ true → has cmp_atom a found ≡ true) → Each (Each (Numbered found)) ((renumbered r (1024 + suc at) ∷ []) ∷ []) (opposite f)
  unfolding atoms any
  opposite_made q at top rest h u e i = clash h refl
  opposite_made q at bot rest h u e i = clash h refl
  opposite_made q at (pred p ts) rest h u e i =
      single (renumbered r (1024 + suc at)) _ (opp (rel p ts)) (negative_is (suc at) u) (negative (ranks (suc at) (rel p ts) rest e (i (rel p ts) (one_of (rel p ts) []))))
  opposite_made q at (eq t v) rest h u e i =
      single (renumbered r (1024 + suc at)) _ (opp (same_as t v)) (negative_is (suc at) u) (negative (ranks (suc at) (same_as t v) rest e (i (same_as t v) (one_of (same_as t v) []))))
  opposite_made q at (neg f) rest h u e i = clash h refl
  opposite_made q at (bin o f g) rest h u e i = clash h refl
  opposite_made q at (blk s vs f) rest h u e i = clash h refl

  pub made_numbered : (q : Quant) (at n : ℕ) (f : Formula) (rest : List Token) → negated f ≡ true → no_block f ≡ true → n ≡ at + weight f → n ≤ 1024
      → tokens T M (drop at S) ≡ code f ++ rest → ((a : Atom) → has cmp_atom a (atoms f) ≡ true → has cmp_atom a found ≡ true) → Made q at f
  unfolding plan made label distribute code atoms weight negated no_block
  made_numbered q at n top rest h k e u w i = constant_made q true
  made_numbered q at n bot rest h k e u w i = constant_made q false
  made_numbered q at n (pred p ts) rest h k e u w i =
      single (renumbered r at) _ (pos (rel p ts)) (place_is at (omega arith)) (positive (ranks at (rel p ts) rest w (i (rel p ts) (one_of (rel p ts) []))))
  made_numbered q at n (eq t v) rest h k e u w i =
      single (renumbered r at) _ (pos (same_as t v)) (place_is at (omega arith)) (positive (ranks at (same_as t v) rest w (i (same_as t v) (one_of (same_as t v) []))))
  made_numbered q at n (neg f) rest h k e u w i =
      opposite_made q at f rest h (omega (arith, some_weight f)) (tokens_drop T M S at (suc at) (sign 2 0 [] ∷ []) (code f ++ rest) w (omega arith)) i
  made_numbered q at n (bin o f g) rest h k e u w i =
      let parts = and_true_right (and_or o) (negated f && negated g) h in
      let below : tokens T M (drop (suc at) S) ≡ code f ++ (code g ++ rest) =
      tokens_drop T M S at (suc at) (sign (op_kind o) 0 [] ∷ []) ((code f ++ code g) ++ rest) w (omega arith) ∙ append_assoc (code f) (code g) rest in
      let beside : tokens T M (drop (suc at + weight f) S) ≡ code g ++ rest =
      tokens_drop T M S (suc at) (suc at + weight f) (code f) (code g ++ rest) below (omega (arith, words_weight f)) in
      both_made q o (plan q (suc at) f) (plan q (suc at + weight f) g) (distribute q f) (distribute q g)
      (made_numbered q (suc at) (suc at + weight f) f (code g ++ rest) (and_true_left (negated f) (negated g) parts) (and_true_left (no_block f) (no_block g) k) refl (omega arith) below
      (λ a x. i a (over_append ex (λ y. compare_is_eq (cmp_atom a y)) (atoms f) (atoms g) ∙ or_left (has cmp_atom a (atoms f)) (has cmp_atom a (atoms g)) x)))
      (made_numbered q (suc at + weight f) n g rest (and_true_right (negated f) (negated g) parts) (and_true_right (no_block f) (no_block g) k) (omega arith) u beside
      (λ a x. i a (over_append ex (λ y. compare_is_eq (cmp_atom a y)) (atoms f) (atoms g) ∙ or_right (has cmp_atom a (atoms f)) (has cmp_atom a (atoms g)) x)))
  made_numbered q at n (blk s vs f) rest h k e u w i = clash k refl

-- The raw counts of the plan are those of the formula.
both_counts : (q : Quant) (o : Op) (a b : Plan) → counts (both q o a b) ≡ raw_combine q o (counts a) (counts b)
unfolding counts
both_counts all and a b = refl
both_counts all or a b = refl
both_counts all imp a b = refl
both_counts all iff a b = refl
both_counts ex and a b = refl
both_counts ex or a b = refl
both_counts ex imp a b = refl
both_counts ex iff a b = refl

pub plan_counts : (q : Quant) (at : ℕ) (f : Formula) → negated f ≡ true → counts (plan q at f) ≡ raw q f
unfolding plan counts raw negated
plan_counts q at top h = constant_counts q
  where
    constant_counts : (q : Quant) → counts (constant_plan q true) ≡ raw q top
    constant_counts all = refl
    constant_counts ex = refl
plan_counts q at bot h = constant_counts q
  where
    constant_counts : (q : Quant) → counts (constant_plan q false) ≡ raw q bot
    constant_counts all = refl
    constant_counts ex = refl
plan_counts q at (pred p ts) h = refl
plan_counts q at (eq t u) h = refl
plan_counts q at (neg f) h = opposite_counts f h
  where
    opposite_counts : (f : Formula) → is_atom f ≡ true → counts (leaf 0) ≡ raw_opposite f
    opposite_counts top h = clash h refl
    opposite_counts bot h = clash h refl
    opposite_counts (pred p ts) h = refl
    opposite_counts (eq t u) h = refl
    opposite_counts (neg f) h = clash h refl
    opposite_counts (bin o f g) h = clash h refl
    opposite_counts (blk r vs f) h = clash h refl
plan_counts q at (bin o f g) h =
    let parts = and_true_right (and_or o) (negated f && negated g) h in
    both_counts q o (plan q (suc at) f) (plan q (suc at + weight f) g)
    ∙ ap₂ (raw_combine q o) (plan_counts q (suc at) f (and_true_left (negated f) (negated g) parts)) (plan_counts q (suc at + weight f) g (and_true_right (negated f) (negated g) parts))
plan_counts q at (blk r vs f) h = refl
