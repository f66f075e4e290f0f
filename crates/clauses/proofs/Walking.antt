-- The raw clause k, found at each kind of node: the first of two plans has as many clauses as its first word says, clamped, and a number
-- below the clamp is compared and divided by the clamped count as by the count.
use mathlib.Core.Path.{◌≡◌, refl, sym, ap, ◌∙◌}
use mathlib.Core.List.{List, [], ◌∷◌, ◌++◌, append_assoc, append-nil}
use Prim.Native.Nat.{ℕ, zero, suc, ◌+◌, ◌*◌, ◌/◌, ◌%◌, ◌-◌, ◌<◌, ◌≤◌, compare}
use native.Mathlib.Omega.{arith}
use native.Mathlib.Nat.{div-eq_of_lt, mod-eq_of_lt, div-lt_iff_lt-mul, mod-lt, min-eq_left, mul-zero, div-le_self, mod-le}
use lib.ListN.{length, take, drop, get_or, length-append, get_or-append}
use lib.Seq.{drop_at, length-take-le}
use Rattle.definitions.specs.Order.{insert, set_of}
use Rattle.definitions.proofs.Laws.Order.{compare_orders}
use Rattle.definitions.proofs.Laws.Sorted.{set_of_sorted, set_of_last, set_of_length}
use Rattle.clauses.specs.Plans.{Plan, none, empty, leaf, sum, product, made, counts, clamped, size, form, form_of, size_of, clauses_of, number_of, head, words}
use Rattle.clauses.specs.Search.{Falls}
use Rattle.clauses.specs.Steps.{Walked}
use Rattle.clauses.proofs.Numbers.{either_way}
use Rattle.clauses.proofs.Planned.{head_form, head_size, head_clauses, head_number, below, words_split, words_length}
use Rattle.clauses.proofs.Searching.{numbers_fall}
use Rattle.clauses.proofs.Raw.{nth, nth_right, nth_joined, made_length, joined_length}

-- no literal, one, and those of one list behind those of another
pub walked_none : (O : List ℕ) (u : ℕ) → Walked O u O u []
walked_none O u = record { sorts = λ C h e. e ∙ ap (set_of compare) (sym (append-nil C)) }

pub walked_one : (O O' : List ℕ) (u r x : ℕ) → length O ≡ 1024 → u ≤ 1024
    → (u < 1024 → Falls (compare x) (take u O) → take r O' ≡ insert compare x (take u O)) → Walked O u O' r (x ∷ [])
walked_one O O' u r x len fit go = record {
  sorts = λ C h e.
      let l : u ≡ length (set_of compare C) = sym (length-take-le u O (omega arith)) ∙ ap length e in
      let f : Falls (compare x) (take u O) = rw e (numbers_fall x (set_of compare C) (set_of_sorted compare_orders C)) in
      go (omega (arith, set_of_length compare C)) f ∙ ap (insert compare x) e ∙ sym (set_of_last compare_orders x C);
}

pub walked_both : {O O₁ O₂ : List ℕ} {u r₁ r₂ : ℕ} {c d : List ℕ} → Walked O u O₁ r₁ c → Walked O₁ r₁ O₂ r₂ d → Walked O u O₂ r₂ (c ++ d)
walked_both {c = c} {d = d} s t = record {
  sorts = λ C h e.
      let k : length c + length d ≡ length (c ++ d) = sym (length-append c d) in
      t.sorts (C ++ c) (omega (arith, length-append C c)) (s.sorts C (omega arith) e) ∙ ap (set_of compare) (append_assoc C c d);
}

walked_as : {O O' : List ℕ} {u r : ℕ} {c d : List ℕ} → c ≡ d → Walked O u O' r d → Walked O u O' r c
walked_as e s = rw e s

-- clamped counts divide the small numbers as the counts do
clamp_div : (i n : ℕ) → i < 2049 → (i / clamped n ≡ i / n) × (i % clamped n ≡ i % n)
clamp_div i n h = either_way n 2049
    (λ g. (rw (min-eq_left g), rw (min-eq_left g)))
    (λ g.
    let e : clamped n ≡ 2049 = omega arith in
    let a : i < n = omega arith in
    let b : i < clamped n = omega arith in
    (div-eq_of_lt b ∙ sym (div-eq_of_lt a), mod-eq_of_lt b ∙ sym (mod-eq_of_lt a)))

pos_right : (i x y : ℕ) → i < x * y → 0 < y
pos_right i x zero h = absurd (omega (arith, mul-zero x))
pos_right i x (suc y) h = omega arith

-- which clause of a sum, or of a product, it is
module _ (l n : Plan) (i c : ℕ) where
  sum_left : c ≡ clamped (counts l).clauses → i < c → (i < length (made l)) × (nth (made (sum l n)) i ≡ nth (made l) i)
  unfolding made
  sum_left e h =
      let g : i < length (made l) = omega (arith, made_length l) in
      (g, get_or-append (made l) (made n) [] i g)

  sum_right : c ≡ clamped (counts l).clauses → c ≤ i → i < 2049 → i < length (made (sum l n))
      → (i - c < length (made n)) × (nth (made (sum l n)) i ≡ nth (made n) (i - c))
  unfolding made
  sum_right e h s k =
      let g : c ≡ length (made l) = omega (arith, made_length l) in
      let f : i < length (made l) + length (made n) = rw length-append at k in
      (omega arith, rw g (nth_right (made l) (made n) i (omega arith)))

  product_pair : c ≡ clamped (counts n).clauses → i < 2049 → i < length (made (product l n))
      → (0 < c) × (i / c < length (made l)) × (i % c < length (made n)) × (nth (made (product l n)) i ≡ nth (made l) (i / c) ++ nth (made n) (i % c))
  unfolding made
  product_pair e s k =
      let f : i < length (made l) * length (made n) = rw (joined_length (made l) (made n)) at k in
      let p : 0 < length (made n) = pos_right i (length (made l)) (length (made n)) f in
      let g : c ≡ clamped (length (made n)) = rw (made_length n) e in
      let d = clamp_div i (length (made n)) s in (
        omega arith,
        rw (g, d.0) ((div-lt_iff_lt-mul p).1 f),
        rw (g, d.1) (mod-lt i p),
        nth_joined (made l) (made n) i p f ∙ rw (g, d.0, d.1),
      )

-- which plan it is, by its form
is_leaf : (p : Plan) → form p ≡ 1 → (n : ℕ) × (p ≡ leaf n)
is_leaf none h = absurd (omega arith)
is_leaf empty h = absurd (omega arith)
is_leaf (leaf n) h = (n, refl)
is_leaf (sum a b) h = absurd (omega arith)
is_leaf (product a b) h = absurd (omega arith)

is_sum : (p : Plan) → form p ≡ 2 → (a : Plan) × (b : Plan) × (p ≡ sum a b)
is_sum none h = absurd (omega arith)
is_sum empty h = absurd (omega arith)
is_sum (leaf n) h = absurd (omega arith)
is_sum (sum a b) h = (a, b, refl)
is_sum (product a b) h = absurd (omega arith)

is_product : (p : Plan) → form p ≡ 3 → (a : Plan) × (b : Plan) × (p ≡ product a b)
is_product none h = absurd (omega arith)
is_product empty h = absurd (omega arith)
is_product (leaf n) h = absurd (omega arith)
is_product (sum a b) h = absurd (omega arith)
is_product (product a b) h = (a, b, refl)

constant_nth : (p : Plan) (k : ℕ) → form p ≡ 0 → nth (made p) k ≡ []
unfolding made
constant_nth none k h = refl
constant_nth empty zero h = refl
constant_nth empty (suc k) h = refl
constant_nth (leaf n) k h = absurd (omega arith)
constant_nth (sum a b) k h = absurd (omega arith)
constant_nth (product a b) k h = absurd (omega arith)

-- the two parts of a node, what their first words say, and where the second begins
record Parts (W : List ℕ) (a b : Plan) (rest : List ℕ) : Type 0 where
  pub left_at : W ≡ words a ++ (words b ++ rest)
  pub right_at : drop (size_of (get_or W 0 0)) W ≡ words b ++ rest
  pub left_count : clauses_of (get_or W 0 0) ≡ clamped (counts a).clauses
  pub right_count : clauses_of (get_or (drop (size_of (get_or W 0 0)) W) 0 0) ≡ clamped (counts b).clauses

first_of : (W : List ℕ) (p : Plan) (rest : List ℕ) → W ≡ words p ++ rest → get_or W 0 0 ≡ head p
first_of W p rest x = ap (λ (l : List ℕ). get_or l 0 0) (x ∙ ap (λ (l : List ℕ). l ++ rest) (words_split p))

parts : (W : List ℕ) (a b : Plan) (rest : List ℕ) → size a + size b ≤ 1024 → W ≡ (words a ++ words b) ++ rest → Parts W a b rest
parts W a b rest room x = record {
  left_at = here;
  right_at = there;
  left_count = ap clauses_of (first_of W a (words b ++ rest) here) ∙ head_clauses a (omega arith);
  right_count = ap clauses_of (first_of (drop (size_of (get_or W 0 0)) W) b rest there) ∙ head_clauses b (omega arith);
}
  where
    here : W ≡ words a ++ (words b ++ rest)
    here = x ∙ append_assoc (words a) (words b) rest

    long : size_of (get_or W 0 0) ≡ size a
    long = ap size_of (first_of W a (words b ++ rest) here) ∙ head_size a (omega arith)

    there : drop (size_of (get_or W 0 0)) W ≡ words b ++ rest
    there = rw long (ap (drop (size a)) here ∙ drop_at (words a) (words b ++ rest) (size a) (words_length a))

-- a plan has words
pub no_words : (W : List ℕ) (p : Plan) (rest : List ℕ) → W ≡ words p ++ rest → length W ≡ 0 → ⊥
no_words W p rest x e = omega (arith, ap length x, length-append (words p) rest, ap length (words_split p))

-- the words of a plan, and others behind them
module _ (W : List ℕ) (len : length W ≤ 1024) (word : ℕ) (left : List ℕ) (split : W ≡ word ∷ left) (p : Plan) (rest : List ℕ) (x : W ≡ words p ++ rest)
    (i : ℕ) (i< : i < length (made p)) (small : i < 2049) where
  whole : word ∷ left ≡ head p ∷ (below p ++ rest)
  whole = sym split ∙ x ∙ ap (λ (l : List ℕ). l ++ rest) (words_split p)

  fits : size p ≤ 1024
  fits = omega (arith, ap length x, length-append (words p) rest, words_length p)

  first_word : word ≡ head p
  first_word = ap (λ (l : List ℕ). get_or l 0 0) whole

  behind_it : left ≡ below p ++ rest
  behind_it = ap (drop 1) whole

  form_at : form_of word ≡ form p
  form_at = ap form_of first_word ∙ head_form p (omega (arith, fits))

  pub walk_constant : (O : List ℕ) (u : ℕ) → form_of word ≡ 0 → Walked O u O u (nth (made p) i)
  walk_constant O u h = walked_as (constant_nth p i (sym form_at ∙ h)) (walked_none O u)

  pub walk_leaf : {O O' : List ℕ} {u r v : ℕ} → form_of word ≡ 1 → v ≡ number_of word → Walked O u O' r (v ∷ []) → Walked O u O' r (nth (made p) i)
  unfolding made size
  walk_leaf {v = v} h e t =
      let b = is_leaf p (sym form_at ∙ h) in
      let n : v ≡ b.0 = e ∙ ap number_of (first_word ∙ ap head b.1) ∙ head_number (leaf b.0) (omega arith) in
      let l : i < length (made (leaf b.0)) = rw b.1 at i< in
      let z : i ≡ 0 = omega arith in
      walked_as (ap (λ (q : Plan). nth (made q) i) b.1 ∙ rw z (ap (λ (m : ℕ). m ∷ []) (sym n))) t

  module _ (h : form_of word ≡ 2) where
    node : (l : Plan) × (n : Plan) × (p ≡ sum l n)
    node = is_sum p (sym form_at ∙ h)

    two : Parts left node.0 node.1 rest
    unfolding size
    two = let f : size (sum node.0 node.1) ≤ 1024 = rw node.2 at fits in parts left node.0 node.1 rest (omega arith) (rw node.2 at behind_it)

    as_sum : nth (made p) i ≡ nth (made (sum node.0 node.1)) i
    as_sum = ap (λ (q : Plan). nth (made q) i) node.2

    module _ (c : ℕ) (c-is : c ≡ clauses_of (get_or left 0 0)) where
      pub walk_left : {O O' : List ℕ} {u r : ℕ} → i < c
          → ((p : Plan) (rest : List ℕ) → left ≡ words p ++ rest → i < length (made p) → i < 2049 → Walked O u O' r (nth (made p) i))
          → Walked O u O' r (nth (made p) i)
      walk_left l go =
          let b = sum_left node.0 node.1 i c (c-is ∙ two.left_count) l in
          walked_as (as_sum ∙ b.1) (go node.0 (words node.1 ++ rest) two.left_at b.0 small)

      pub walk_right : (right : List ℕ) → right ≡ drop (size_of (get_or left 0 0)) left → {O O' : List ℕ} {u r : ℕ} → c ≤ i
          → ((p : Plan) (rest : List ℕ) → right ≡ words p ++ rest → i - c < length (made p) → i - c < 2049 → Walked O u O' r (nth (made p) (i - c)))
          → Walked O u O' r (nth (made p) i)
      walk_right right e l go =
          let b = sum_right node.0 node.1 i c (c-is ∙ two.left_count) l small (rw node.2 at i<) in
          walked_as (as_sum ∙ b.1) (go node.1 rest (e ∙ two.right_at) b.0 (omega arith))

  module _ (h : form_of word ≡ 3) (right : List ℕ) (e : right ≡ drop (size_of (get_or left 0 0)) left) (c : ℕ) (c-is : c ≡ clauses_of (get_or right 0 0)) where
    pair_node : (l : Plan) × (n : Plan) × (p ≡ product l n)
    pair_node = is_product p (sym form_at ∙ h)

    two_parts : Parts left pair_node.0 pair_node.1 rest
    unfolding size
    two_parts =
        let f : size (product pair_node.0 pair_node.1) ≤ 1024 = rw pair_node.2 at fits in
        parts left pair_node.0 pair_node.1 rest (omega arith) (rw pair_node.2 at behind_it)

    pair : (0 < c) × (i / c < length (made pair_node.0)) × (i % c < length (made pair_node.1))
        × (nth (made (product pair_node.0 pair_node.1)) i ≡ nth (made pair_node.0) (i / c) ++ nth (made pair_node.1) (i % c))
    pair = product_pair pair_node.0 pair_node.1 i c (c-is ∙ ap (λ (l : List ℕ). clauses_of (get_or l 0 0)) e ∙ two_parts.right_count) small (rw pair_node.2 at i<)

    pub walk_empty : c ≡ 0 → ⊥
    walk_empty z = omega (arith, pair.0)

    pub walk_both : {O O₁ O₂ : List ℕ} {u r₁ r₂ : ℕ}
        → ((p : Plan) (rest : List ℕ) → left ≡ words p ++ rest → i / c < length (made p) → i / c < 2049 → Walked O u O₁ r₁ (nth (made p) (i / c)))
        → ((p : Plan) (rest : List ℕ) → right ≡ words p ++ rest → i % c < length (made p) → i % c < 2049 → Walked O₁ r₁ O₂ r₂ (nth (made p) (i % c)))
        → Walked O u O₂ r₂ (nth (made p) i)
    walk_both go go_on =
        walked_as (ap (λ (q : Plan). nth (made q) i) pair_node.2 ∙ pair.3)
        (walked_both
        (go pair_node.0 (words pair_node.1 ++ rest) two_parts.left_at pair.1 (omega (arith, div-le_self i c)))
        (go_on pair_node.1 rest (e ∙ two_parts.right_at) pair.2 (omega (arith, mod-le i c))))
