-- Insertion: the place is sought from the front, and what stands from there on is carried up by one.
use mathlib.Core.Path.{◌≡◌, refl, sym, ap, subst, ◌∙◌}
use mathlib.Core.List.{List, [], ◌∷◌, ◌++◌, append_assoc, map}
use Prim.Native.Nat.{ℕ, ◌+◌, ◌-◌, ◌<◌, ◌≤◌, Ordering}
use native.Mathlib.Omega.{arith}
use native.Mathlib.Numerals.{add-one}
use lib.ListN.{length, take, drop, get_or, set, length-drop, drop_of_length-le, take-append-drop}
use Rattle.std.proofs.lemmas.List.{drop-take}
use lib.Seq.{paste, take-paste, set_at, drop-cons, take-suc, take-set-lt, get_or-take, length-take-le, take-take}
use Rattle.definitions.specs.Order.{insert}
use Rattle.clauses.proofs.Related.{map_append}

-- the places i to n of an array
abbrev pub mid : ℕ → ℕ → List ℕ → List ℕ
mid i n X = drop i (take n X)

module _ (X : List ℕ) (i n : ℕ) (here : i < n) (room : n ≤ length X) where
  pub mid_cons : mid i n X ≡ get_or X i 0 ∷ mid (i + 1) n X
  mid_cons = drop-cons (take n X) i 0 (rw (length-take-le n X room) here) ∙ rw (get_or-take n X i 0 here, add-one)

  front_kept : take (i + 1) X ≡ take i X ++ (get_or X i 0 ∷ [])
  front_kept = rw (add-one, take-suc X i 0 (omega arith))

pub mid_none : (X : List ℕ) (n : ℕ) → n ≤ length X → mid n n X ≡ []
mid_none X n h = drop_of_length-le (take n X) {i = n} (rw (length-take-le n X h) (omega arith))

-- those from the place i on moved up by one, and a number put there
pub shifted : (X : List ℕ) (i n x : ℕ) → i ≤ n → n < length X
    → take (n + 1) (set (paste X (i + 1) (drop i X) (n - i)) i x) ≡ take i X ++ (x ∷ mid i n X)
shifted X i n x h room =
    let z : i + 1 + (n - i) ≡ n + 1 = omega arith in
    let y : i + (n - i) ≡ n = omega arith in
    let moved : take (n + 1) (paste X (i + 1) (drop i X) (n - i)) ≡ take (i + 1) X ++ take (n - i) (drop i X) =
    subst (λ (k : ℕ). take k (paste X (i + 1) (drop i X) (n - i)) ≡ take (i + 1) X ++ take (n - i) (drop i X)) z
    (take-paste X (i + 1) (drop i X) (n - i) (omega arith) (omega (arith, length-drop i X))) in
    let first : take (i + 1) X ≡ take i X ++ (get_or X i 0 ∷ []) = rw (add-one, take-suc X i 0 (omega arith)) in
    let behind : drop i (take n X) ≡ take (n - i) (drop i X) = rw y at (drop-take i (n - i) X) in
    take-set-lt (n + 1) (paste X (i + 1) (drop i X) (n - i)) i x (omega arith)
    ∙ rw (moved, first, append_assoc, set_at (take i X) (get_or X i 0) (take (n - i) (drop i X)) x i (length-take-le i X (omega arith)), behind)

-- the place of x among the first n, which stand for what g says: what stands before i comes first
module _ {A : Type 0} (cmp : A → A → Ordering) (g : ℕ → A) (x : A) (X : List ℕ) (n : ℕ) where
  pub record Sought (i : ℕ) : Type 0 where
    pub comes_out : map g (take i X) ++ insert cmp x (map g (mid i n X)) ≡ insert cmp x (map g (take n X))

  pub sought_first : Sought 0
  sought_first = record { comes_out = refl }

  module _ (room : n ≤ length X) (i : ℕ) (here : i < n) (k : Sought i) where
    out : map g (take i X) ++ insert cmp x (g (get_or X i 0) ∷ map g (mid (i + 1) n X)) ≡ insert cmp x (map g (take n X))
    out = rw (ap (map g) (mid_cons X i n here room)) at k.comes_out

    whole : take n X ≡ take i X ++ (get_or X i 0 ∷ mid (i + 1) n X)
    whole = sym (take-append-drop i (take n X)) ∙ rw (take-take i n X (omega arith), mid_cons X i n here room)

    pub sought_past : cmp x (g (get_or X i 0)) ≡ Ordering.gt → Sought (i + 1)
    unfolding insert
    sought_past e = record { comes_out = rw (front_kept X i n here room, map_append g (take i X) (get_or X i 0 ∷ []), append_assoc) (rw e at out) }

    pub sought_same : cmp x (g (get_or X i 0)) ≡ Ordering.eq → map g (take n X) ≡ insert cmp x (map g (take n X))
    unfolding insert
    sought_same e = ap (map g) whole ∙ map_append g (take i X) (get_or X i 0 ∷ mid (i + 1) n X) ∙ rw e at out

    pub sought_here : (Y : List ℕ) (v : ℕ) → g v ≡ x → cmp x (g (get_or X i 0)) ≡ Ordering.lt → take (n + 1) Y ≡ take i X ++ (v ∷ mid i n X)
        → map g (take (n + 1) Y) ≡ insert cmp x (map g (take n X))
    unfolding insert
    sought_here Y v w e s =
        let t : take (n + 1) Y ≡ take i X ++ (v ∷ get_or X i 0 ∷ mid (i + 1) n X) = rw (mid_cons X i n here room) at s in
        ap (map g) t ∙ map_append g (take i X) (v ∷ get_or X i 0 ∷ mid (i + 1) n X) ∙ rw w (rw e at out)

  pub sought_end : n ≤ length X → (i : ℕ) → i ≡ n → Sought i → (Y : List ℕ) (v : ℕ) → g v ≡ x → take (n + 1) Y ≡ take i X ++ (v ∷ mid i n X)
      → map g (take (n + 1) Y) ≡ insert cmp x (map g (take n X))
  unfolding insert
  sought_end room i z k Y v w s =
      let e : mid i n X ≡ [] = rw z (mid_none X n room) in
      let t : take (n + 1) Y ≡ take i X ++ (v ∷ []) = rw e at s in
      ap (map g) t ∙ map_append g (take i X) (v ∷ []) ∙ rw w (rw e at k.comes_out)
