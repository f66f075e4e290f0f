-- The weight of a prenex form is known before any name is made; and which names it has is what its tables hold.
use mathlib.Core.Path.{◌≡◌, refl, sym, ap, ap₂, ◌∙◌}
use mathlib.Core.Bool.{Bool, true, false, not, ◌&&◌, ◌||◌}
use mathlib.Core.List.{List, [], ◌∷◌, ◌++◌, map, append_assoc}
use Prim.Native.Nat.{ℕ, ◌+◌, ◌≤◌, ◌<◌, max}
use native.Mathlib.Omega.{arith}
use lib.Dec.{leb}
use lib.ListN.{length, length-append, length-map}
use borrow.Author.Tests.{le-leb, lt-leb, leb-true, leb-false}
use Rattle.definitions.specs.Syntax.{Name, Op, and, or, imp, iff, Formula, top, bot, pred, eq, neg, bin, blk, weight}
use Rattle.definitions.specs.Bytes.{same}
use Rattle.definitions.specs.Limits.{house}
use Rattle.definitions.specs.Names.{mem, free, bound}
use Rattle.definitions.specs.Truth.{every}
use Rattle.definitions.specs.Prenex.{longest, Prefix, plain, more, Prenex, close, formula, merge, outward, no_block}
use Rattle.definitions.specs.Convert.{too_long}
use Rattle.definitions.proofs.Laws.Bools.{or_right}
use Rattle.definitions.proofs.Laws.Sets.{mem_append, mem_head}
use Rattle.definitions.proofs.Laws.Prenex.{outward_no_block}
use Rattle.text.specs.Words.{Token, var_token, sign, block_kind, op_kind, term_code, code}
use Rattle.text.specs.Weights.{term_words, terms_words, words_weight}
use Rattle.text.specs.Prefixes.{names, prefix_code}
use Rattle.prenex.specs.Walk.{Side, turning, left_sign, each, coded}
use Rattle.prenex.specs.Weights.{outward_weight}
use Rattle.prenex.specs.Writing.{widest_name}
use Rattle.prenex.proofs.Codes.{close_bound, close_free}
use Rattle.prenex.proofs.Fresh.{mem_longest}
use Rattle.prenex.proofs.Merged.{merge_prefix, merge_matrix, turned_flips}
use Rattle.prenex.proofs.Composing.{node_prefix_length, node_matrix_length}

abbrev size : Side → ℕ
size s = length s.prefix + length s.matrix

-- a node over two forms weighs one more than they do
merged_size : (o : Op) (b : Bool) (x y : Prenex) → no_block x.matrix ≡ true → no_block y.matrix ≡ true → size (coded b (merge o x y)) ≡ 1 + (size (coded (left_sign o b) x) + size (coded b y))
merged_size o b x y hx hy =
    omega (
      arith,
      ap length (merge_prefix o b x y hx hy),
      ap length (merge_matrix o b x y hx hy),
      node_prefix_length (sign (op_kind o) 0 []) (coded (left_sign o b) x) (coded b y),
      node_matrix_length (sign (op_kind o) 0 []) (coded (left_sign o b) x) (coded b y),
    )

pub coded_size : (f : Formula) (b : Bool) → size (coded b (outward f)) ≡ outward_weight f
unfolding outward outward_weight each prefix_code code
coded_size top b = refl
coded_size bot b = refl
coded_size (pred p ts) b = omega (arith, terms_words ts)
coded_size (eq t u) b = omega (arith, term_words t, term_words u, length-append (term_code t) (term_code u))
coded_size (neg f) b = omega (arith, coded_size f (not b), ap (λ (p : Prefix). length (prefix_code p)) (turned_flips b (outward f).prefix))
coded_size (bin and f g) b = omega (arith, merged_size and b (outward f) (outward g) (outward_no_block f) (outward_no_block g), coded_size f b, coded_size g b)
coded_size (bin or f g) b = omega (arith, merged_size or b (outward f) (outward g) (outward_no_block f) (outward_no_block g), coded_size f b, coded_size g b)
coded_size (bin imp f g) b = omega (arith, merged_size imp b (outward f) (outward g) (outward_no_block f) (outward_no_block g), coded_size f (not b), coded_size g b)
coded_size (bin iff f g) b =
    omega (
      arith,
      merged_size and b (merge imp (outward f) (outward g)) (merge imp (outward g) (outward f)) (outward_no_block (bin imp f g)) (outward_no_block (bin imp g f)),
      merged_size imp b (outward f) (outward g) (outward_no_block f) (outward_no_block g),
      merged_size imp b (outward g) (outward f) (outward_no_block g) (outward_no_block f),
      coded_size f (not b),
      coded_size g b,
      coded_size g (not b),
      coded_size f b,
    )
coded_size (blk q vs f) b =
    omega (arith, coded_size f b, length-append (map var_token vs) (prefix_code (each (turning b) (outward f).prefix)), length-map vs var_token)

each_none : (p : Prefix) → each (turning false) p ≡ p
unfolding each
each_none plain = refl
each_none (more q vs p) = ap (more q vs) (each_none p)

-- with the sign that flips nothing, the tables hold the form itself
pub held_prefix : (p : Prenex) → (coded false p).prefix ≡ prefix_code p.prefix
held_prefix p = ap prefix_code (each_none p.prefix)

close_code : (p : Prefix) (m : Formula) → code (close p m) ≡ prefix_code p ++ code m
unfolding close code prefix_code
close_code plain m = refl
close_code (more q vs p) m = ap (sign (block_kind q) (length vs) [] ∷◌) (ap (λ (l : List Token). map var_token vs ++ l) (close_code p m) ∙ sym (append_assoc (map var_token vs) (prefix_code p) (code m)))

pub form_weight : (f : Formula) → weight (formula (outward f)) ≡ outward_weight f
form_weight f =
    let p = outward f in
    omega (arith, words_weight (formula p), ap length (close_code p.prefix p.matrix), length-append (prefix_code p.prefix) (code p.matrix), ap length (held_prefix p), coded_size f false)

-- names over the limit
longest_within : (u v : List Name) → ((y : Name) → mem y u ≡ true → mem y v ≡ true) → longest u ≤ longest v
unfolding longest mem
longest_within [] v h = omega arith
longest_within (x ∷ u) v h = omega (arith, mem_longest x v (h x (mem_head x u)), longest_within u v (λ y m. h y (or_right (same y x) (mem y u) m)))

every_longest : (n : ℕ) (l : List Name) → every (λ (x : Name). leb (length x) n) l ≡ leb (longest l) n
unfolding every longest
every_longest n [] = sym (le-leb 0 n (omega arith))
every_longest n (x ∷ l) = rw (every_longest n l) (go (leb (length x) n) (leb (longest l) n) refl refl)
  where
    go : (a b : Bool) → leb (length x) n ≡ a → leb (longest l) n ≡ b → (a && b) ≡ leb (max (length x) (longest l)) n
    go true true e f = sym (le-leb (max (length x) (longest l)) n (omega (arith, leb-true (length x) n e, leb-true (longest l) n f)))
    go true false e f = sym (lt-leb (max (length x) (longest l)) n (omega (arith, leb-false (longest l) n f)))
    go false b e f = sym (lt-leb (max (length x) (longest l)) n (omega (arith, leb-false (length x) n e)))

longest_append : (a b : List Name) → longest (a ++ b) ≡ max (longest a) (longest b)
unfolding longest
longest_append [] b = omega arith
longest_append (x ∷ a) b = omega (arith, longest_append a b)

-- the variables of a form, bound or free, are those that its tables hold
form_names : (p : Prenex) → no_block p.matrix ≡ true → longest (bound (formula p) ++ free (formula p)) ≡ widest_name (coded false p)
form_names p h =
    let u = bound (formula p) ++ free (formula p) in
    let v = names (prefix_code p.prefix) ++ names (code p.matrix) in
    omega (
      arith,
      longest_within u v (λ y m. sym (same_members y) ∙ m),
      longest_within v u (λ y m. same_members y ∙ m),
      longest_append (names (prefix_code p.prefix)) (names (code p.matrix)),
      ap (λ (l : List Token). longest (names l)) (held_prefix p),
    )
  where
    one_of : (a b : Bool) → (a || (b && not a)) ≡ (a || b)
    one_of true b = refl
    one_of false true = refl
    one_of false false = refl

    same_members : (y : Name) → mem y (bound (formula p) ++ free (formula p)) ≡ mem y (names (prefix_code p.prefix) ++ names (code p.matrix))
    same_members y =
        mem_append y (bound (formula p)) (free (formula p)) ∙ ap₂ (◌||◌) (close_bound y p.prefix p.matrix h) (close_free y p.prefix p.matrix h)
        ∙ one_of (mem y (names (prefix_code p.prefix))) (mem y (names (code p.matrix))) ∙ sym (mem_append y (names (prefix_code p.prefix)) (names (code p.matrix)))

module _ (f : Formula) where
  names_told : too_long house (formula (outward f)) ≡ not (leb (widest_name (coded false (outward f))) 24)
  unfolding too_long
  names_told =
      let p = outward f in
      ap not (every_longest 24 (bound (formula p) ++ free (formula p)) ∙ ap (λ (n : ℕ). leb n 24) (form_names p (outward_no_block f)))

  pub form_long : 24 < widest_name (coded false (outward f)) → too_long house (formula (outward f)) ≡ true
  form_long h = names_told ∙ ap not (lt-leb (widest_name (coded false (outward f))) 24 h)

  pub form_short : widest_name (coded false (outward f)) ≤ 24 → too_long house (formula (outward f)) ≡ false
  form_short h = names_told ∙ ap not (le-leb (widest_name (coded false (outward f))) 24 h)
