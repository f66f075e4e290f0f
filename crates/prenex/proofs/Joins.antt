-- Two walks, one after the other: the left side apart from the right, then the right side apart from the left matrix.
use mathlib.Core.Path.{◌≡◌, refl, ap, ◌∙◌}
use mathlib.Core.List.{List, [], ◌∷◌, ◌++◌, append_assoc}
use Prim.Native.Nat.{ℕ, suc, ◌-◌, ◌≤◌, ◌<◌}
use native.Mathlib.Omega.{arith}
use lib.ListN.{length, take, drop, length-map}
use lib.Seq.{slice, slice_empty, length-slice}
use Rattle.std.specs.Prelude.{Result, Ok, Err}
use Rattle.prenex.specs.declared.write.TooLong.{TooLong}
use Rattle.definitions.specs.Bytes.{Bytes}
use Rattle.definitions.specs.Syntax.{Name}
use Rattle.definitions.specs.Names.{mem}
use Rattle.definitions.specs.Prenex.{longest}
use Rattle.text.specs.Words.{Token, var_token, sign, tokens}
use Rattle.text.specs.Prefixes.{names}
use Rattle.prenex.specs.Walk.{Side, new_name, renamed, walk}
use Rattle.prenex.specs.Tables.{Ready}
use Rattle.prenex.specs.Renaming.{splice, over, Walked, Walks, apart_side, held, Halves, both_apart}
use Rattle.text.specs.PrefixLaws.{names_append}
use Rattle.prenex.proofs.Splices.{drop_further, beside_kept, splice_take, splice_drop, splice_front, splice_slice}
use Rattle.prenex.proofs.Place.{put_length}

-- a walk keeps lengths
module _ (Q N : List Token) where
  pub walk_prefix_length : (S : List Name) (p m : List Token) → length (walk Q N S p m).prefix ≡ length p
  unfolding walk
  walk_prefix_length S [] m = refl
  walk_prefix_length S (var_token x ∷ p) m =
      let w = new_name Q N S x p m in
      ap suc (walk_prefix_length (S ++ (w ∷ [])) p (renamed Q N x w p m))
  walk_prefix_length S (sign k n s ∷ p) m = ap suc (walk_prefix_length [] p m)

  pub walk_matrix_length : (S : List Name) (p m : List Token) → length (walk Q N S p m).matrix ≡ length m
  unfolding walk
  walk_matrix_length S [] m = refl
  walk_matrix_length S (var_token x ∷ p) m =
      let w = new_name Q N S x p m in
      walk_matrix_length (S ++ (w ∷ [])) p (renamed Q N x w p m) ∙ put_length x w m (mem x (names p))
  walk_matrix_length S (sign k n s ∷ p) m = walk_matrix_length [] p m

pub longest_left : (a b : List Name) → longest a ≤ longest (a ++ b)
unfolding longest
longest_left [] b = omega arith
longest_left (x ∷ a) b = omega (arith, longest_left a b)

pub longest_right : (a b : List Name) → longest b ≤ longest (a ++ b)
unfolding longest
longest_right [] b = omega arith
longest_right (x ∷ a) b = omega (arith, longest_right a b)

-- two parts replaced, the second behind the first
splice_behind : (f m t : ℕ) (X a b : List Token) → f ≤ m → m ≤ t → t ≤ length X → length a ≡ m - f → splice m t (splice f m X a) b ≡ splice f t X (a ++ b)
splice_behind f m t X a b h k l e =
    rw (splice_front f m X a h (omega arith) e, drop_further m t (splice f m X a) X k (splice_drop f m X a h (omega arith) e)) (simp append_assoc)

module _ (T : Bytes) {M : Bytes} {P W : List ℕ} {first mid high from turn to : ℕ} (ready : Ready M P high W) (h : Halves first mid high from turn to) where
  abbrev P̂ : List Token
  P̂ = tokens T M P

  abbrev Ŵ : List Token
  Ŵ = tokens T M W

  abbrev a : Side
  a = apart_side T M P W first mid high from turn turn to

  abbrev b : Side
  b = walk [] a.matrix [] (slice mid high P̂) (slice turn to Ŵ)

  pub left_stops : 24 < longest (names a.prefix) → 24 < longest (names (both_apart (held T M P W first mid from turn) (held T M P W mid high turn to)).prefix)
  left_stops k = rw (names_append a.prefix b.prefix) (omega (arith, longest_left (names a.prefix) (names b.prefix)))

  module _ {P₁ W₁ : List ℕ} (k : Walked T M P high W first mid from turn P₁ W₁ a) where
    PLong : length P̂ ≡ 1024
    PLong = simp length-map ready.places.size

    WLong : length Ŵ ≡ 1024
    WLong = simp length-map ready.matrix_size

    a_prefix : length a.prefix ≡ mid - first
    a_prefix = walk_prefix_length (slice mid high P̂) (slice turn to Ŵ) [] (slice first mid P̂) (slice from turn Ŵ) ∙ length-slice first mid P̂ (omega (arith, PLong, h.right, h.prefix))

    a_matrix : length a.matrix ≡ turn - from
    a_matrix = walk_matrix_length (slice mid high P̂) (slice turn to Ŵ) [] (slice first mid P̂) (slice from turn Ŵ) ∙ length-slice from turn Ŵ (omega (arith, WLong, h.two, h.matrix))

    prefixes : tokens T M P₁ ≡ splice first mid P̂ a.prefix
    prefixes = k.in_prefix

    matrices : tokens T M W₁ ≡ splice from turn Ŵ a.matrix
    matrices = k.in_matrix

    second : apart_side T M P₁ W₁ mid high high turn to from turn ≡ b
    second = rw (slice_empty high (tokens T M P₁), left, mine, other)
      where
        left : slice from turn (tokens T M W₁) ≡ a.matrix
        left = ap (slice from turn) matrices ∙ splice_slice from turn Ŵ a.matrix h.one (omega (arith, WLong, h.two, h.matrix)) a_matrix

        mine : slice mid high (tokens T M P₁) ≡ slice mid high P̂
        mine = beside_kept first mid mid high P̂ (tokens T M P₁) (over (omega arith))
            (ap (take first) prefixes ∙ splice_take first mid P̂ a.prefix h.left (omega (arith, PLong, h.right, h.prefix)) a_prefix)
            (ap (drop mid) prefixes ∙ splice_drop first mid P̂ a.prefix h.left (omega (arith, PLong, h.right, h.prefix)) a_prefix)

        other : slice turn to (tokens T M W₁) ≡ slice turn to Ŵ
        other = beside_kept from turn turn to Ŵ (tokens T M W₁) (over (omega arith))
            (ap (take from) matrices ∙ splice_take from turn Ŵ a.matrix h.one (omega (arith, WLong, h.two, h.matrix)) a_matrix)
            (ap (drop turn) matrices ∙ splice_drop from turn Ŵ a.matrix h.one (omega (arith, WLong, h.two, h.matrix)) a_matrix)

    pub both_walked : (P₂ W₂ : List ℕ) (r : Result Unit TooLong) → Walks T M P₁ high W₁ mid high turn to P₂ W₂ (apart_side T M P₁ W₁ mid high high turn to from turn) r
        → Walks T M P high W first high from to P₂ W₂ (both_apart (held T M P W first mid from turn) (held T M P W mid high turn to)) r
    both_walked P₂ W₂ (Ok u) j' =
        let j : Walked T M P₁ high W₁ mid high turn to P₂ W₂ b = rw second at j' in
        record {
          ready = j.ready;
          in_prefix = j.in_prefix ∙ ap (λ (X : List Token). splice mid high X b.prefix) prefixes
              ∙ splice_behind first mid high P̂ a.prefix b.prefix h.left h.right (omega (arith, PLong, h.prefix)) a_prefix;
          in_matrix = j.in_matrix ∙ ap (λ (X : List Token). splice turn to X b.matrix) matrices
              ∙ splice_behind from turn to Ŵ a.matrix b.matrix h.one h.two (omega (arith, WLong, h.matrix)) a_matrix;
        }
    both_walked P₂ W₂ (Err e) j' =
        let j : 24 < longest (names b.prefix) = rw second at j' in
        rw (names_append a.prefix b.prefix) (omega (arith, longest_right (names a.prefix) (names b.prefix)))
