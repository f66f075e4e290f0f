-- A node's word has the node again, if its fields are small enough for their places; and a word's node has the word again, up to what
-- lies above start's place.
use Rattle.std.specs.Prelude.{◌≡◌, refl, Bool, true, false, ◌&&◌, List, [], ◌∷◌, map, ℕ, zero, suc, ◌+◌, ◌*◌, ◌/◌, ◌%◌, ◌≤◌, ◌<◌, length, get_or, eqb, ltb, Some}
use Rattle.std.proofs.Common.{sym, ap, ◌∙◌, arith, le-leb, eqb-true, ltb-true, ltb-false}
use Rattle.std.proofs.lemmas.Bool.{eqb-false}
use Rattle.std.proofs.Math.ListN.{get_or-map, get_or-eq_default}
use Rattle.text.specs.declared.kind.Kind.{Kind}
use Rattle.text.specs.declared.kind.Kind.TheVariants.{Top, Bottom, Not, And, Or, Implies, Iff, Equals, All, Exists, Predicate, Function, Variable, Constant}
use Rattle.text.specs.declared.node.Node.{Node}
use Rattle.definitions.proofs.Laws.Bools.{by_cases, and_true_left, and_true_right}
use Rattle.text.specs.Words.{word_of, kind_of_word}
use Rattle.text.specs.Kinds.{number}
use Rattle.text.specs.Nodes.{kinds, kind_at, origin, packed, node_of, unpacked}

-- Kinds and their numbers.
pub kind_at_number : (k : Kind) → kind_at (number k) ≡ k
unfolding kind_at
kind_at_number Top = refl
kind_at_number Bottom = refl
kind_at_number Not = refl
kind_at_number And = refl
kind_at_number Or = refl
kind_at_number Implies = refl
kind_at_number Iff = refl
kind_at_number Equals = refl
kind_at_number All = refl
kind_at_number Exists = refl
kind_at_number Predicate = refl
kind_at_number Function = refl
kind_at_number Variable = refl
kind_at_number Constant = refl

pub number_small : (k : Kind) → number k ≤ 13
number_small Top = omega arith
number_small Bottom = omega arith
number_small Not = omega arith
number_small And = omega arith
number_small Or = omega arith
number_small Implies = omega arith
number_small Iff = omega arith
number_small Equals = omega arith
number_small All = omega arith
number_small Exists = omega arith
number_small Predicate = omega arith
number_small Function = omega arith
number_small Variable = omega arith
number_small Constant = omega arith

-- a kind's number is the one at whose place it stands: up to 13 there is one, and from 13 on the last
pub kind_known : {n : ℕ} (k : Kind) → n ≡ number k → k ≡ kind_at n
kind_known k e = sym (ap kind_at e ∙ kind_at_number k)

pub kind_last : {n : ℕ} → 13 ≤ n → Constant ≡ kind_at n
unfolding kind_at
kind_last h = sym (get_or-eq_default kinds Constant h)

-- the fields of a word
pub record Parts (w k c o z s : ℕ) : Type 0 where
  pub kind : w % 16 ≡ k
  pub count : w / 16 % 64 ≡ c
  pub origin : w / 1024 % 2 ≡ o
  pub size : w / 2048 % 64 ≡ z
  pub start : w / 131072 % 4294967296 ≡ s

pub word_parts : (k c o z s : ℕ) → k < 16 → c < 64 → o < 2 → z < 64 → s < 4294967296 → Parts (word_of k c o z s) k c o z s
word_parts k c o z s hk hc ho hz hs = record { kind = omega arith; count = omega arith; origin = omega arith; size = omega arith; start = omega arith }

-- a node whose fields are small enough for their places
pub record Small (n : Node) : Type 0 where
  pub count : n.count < 64
  pub size : n.size < 64
  pub start : n.start < 4294967296

origin_small : (b : Bool) → origin b < 2
origin_small true = omega arith
origin_small false = omega arith

made_again : (b : Bool) → eqb (origin b) 1 ≡ b
made_again true = refl
made_again false = refl

same_node : {m n : Node} → m.kind ≡ n.kind → m.count ≡ n.count → m.made ≡ n.made → m.start ≡ n.start → m.size ≡ n.size → m ≡ n
same_node a b c d e = λ i. record { kind = a i; count = b i; made = c i; start = d i; size = e i }

pub unpacked_packed : (n : Node) → Small n → unpacked (packed n) ≡ Some n
unpacked_packed n h =
    let p = word_parts (number n.kind) (n.count % 64) (origin n.made) (n.size % 64) (n.start % 4294967296)
    (omega (arith, number_small n.kind)) (omega arith) (origin_small n.made) (omega arith) (omega arith) in
    rw (le-leb (kind_of_word (packed n)) 13 (omega (arith, p.kind, number_small n.kind)))
    (ap Some (same_node {m = node_of (packed n)} {n = n}
    (ap kind_at p.kind ∙ kind_at_number n.kind)
    (p.count ∙ omega (arith, h.count))
    (ap (λ (o : ℕ). eqb o 1) p.origin ∙ made_again n.made)
    (p.start ∙ omega (arith, h.start))
    (p.size ∙ omega (arith, h.size))))

-- numbers that count up from n
abbrev counts : ℕ → List ℕ → Bool
counts n [] = true
counts n (x ∷ l) = eqb x n && counts (n + 1) l

counts_at : (n : ℕ) (l : List ℕ) (k d : ℕ) → counts n l ≡ true → k < length l → get_or l k d ≡ n + k
counts_at n [] k d c h = absurd (omega arith)
counts_at n (x ∷ l) zero d c h = eqb-true x n (and_true_left (eqb x n) (counts (n + 1) l) c) ∙ omega arith
counts_at n (x ∷ l) (suc k) d c h = counts_at (n + 1) l k d (and_true_right (eqb x n) (counts (n + 1) l) c) (omega arith) ∙ omega arith

number_at : (k : ℕ) → k ≤ 13 → number (kind_at k) ≡ k
unfolding kind_at
number_at k h =
    by_cases (ltb k 13)
    (λ t. sym (get_or-map number kinds k Constant) ∙ counts_at 0 (map number kinds) k 13 refl (ltb-true k 13 t) ∙ omega arith)
    (λ f. ap number (get_or-eq_default kinds Constant (ltb-false k 13 f)) ∙ omega (arith, ltb-false k 13 f))

origin_again : (o : ℕ) → o < 2 → origin (eqb o 1) ≡ o
origin_again o h = by_cases (eqb o 1) (λ t. rw t (sym (eqb-true o 1 t))) (λ f. rw f (zero_left (eqb-false o 1 f)))
  where
    zero_left : (o ≡ 1 → ⊥) → 0 ≡ o
    zero_left n = omega arith

-- a word put together from its parts, up to bit 49, where start ends
low_part : (w : ℕ) → w ≡ w % 16 + 16 * (w / 16)
low_part w = omega arith

count_part : (w : ℕ) → w / 16 ≡ w / 16 % 64 + 64 * (w / 1024)
count_part w = omega arith

origin_part : (w : ℕ) → w / 1024 ≡ w / 1024 % 2 + 2 * (w / 2048)
origin_part w = omega arith

size_part : (w : ℕ) → w / 2048 ≡ w / 2048 % 64 + 64 * (w / 131072)
size_part w = omega arith

start_part : (w : ℕ) → w / 131072 ≡ w / 131072 % 4294967296 + 4294967296 * (w / 131072 / 4294967296)
start_part w = omega arith

together : (w k c o z s e : ℕ) → k < 16 → c < 64 → o < 2 → z < 64 → s < 4294967296
    → w ≡ word_of k c o z s + 562949953421312 * e → word_of k c o z s ≡ w % 562949953421312
together w k c o z s e hk hc ho hz hs p = omega arith

pub word_again : (w : ℕ) → word_of (w % 16) (w / 16 % 64) (w / 1024 % 2) (w / 2048 % 64) (w / 131072 % 4294967296) ≡ w % 562949953421312
word_again w =
    together w (w % 16) (w / 16 % 64) (w / 1024 % 2) (w / 2048 % 64) (w / 131072 % 4294967296) (w / 131072 / 4294967296)
    (omega arith) (omega arith) (omega arith) (omega arith) (omega arith)
    (sum w (w % 16) (w / 16) (w / 16 % 64) (w / 1024) (w / 1024 % 2) (w / 2048) (w / 2048 % 64) (w / 131072) (w / 131072 % 4294967296) (w / 131072 / 4294967296)
    (low_part w) (count_part w) (origin_part w) (size_part w) (start_part w))
  where
    sum : (w k a c b o d z f s e : ℕ) → w ≡ k + 16 * a → a ≡ c + 64 * b → b ≡ o + 2 * d → d ≡ z + 64 * f → f ≡ s + 4294967296 * e
        → w ≡ word_of k c o z s + 562949953421312 * e
    sum w k a c b o d z f s e p q r t u = omega arith

pub packed_unpacked : (w : ℕ) → kind_of_word w ≤ 13 → packed (node_of w) ≡ w % 562949953421312
packed_unpacked w h =
    again (w / 16) (w / 2048) (w / 131072) (number_at (kind_of_word w) h) (origin_again (w / 1024 % 2) (omega arith)) ∙ word_again w
  where
    again : (c z s : ℕ) {k k' o o' : ℕ} → k ≡ k' → o ≡ o'
        → word_of k (c % 64 % 64) o (z % 64 % 64) (s % 4294967296 % 4294967296) ≡ word_of k' (c % 64) o' (z % 64) (s % 4294967296)
    again c z s p q = omega arith
