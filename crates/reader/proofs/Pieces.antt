-- Lists by places: what a definition by recursion on a text says of the text from a place on.
use mathlib.Core.Path.{◌≡◌, refl, ap, ◌∙◌}
use mathlib.Core.Logic.{◌≢◌}
use mathlib.Core.Bool.{Bool, true, false, not, cond, ◌&&◌}
use mathlib.Core.List.{List, [], ◌∷◌}
use Prim.Native.Nat.{ℕ, suc, ◌+◌, ◌-◌, ◌<◌, ◌≤◌}
use native.Mathlib.Omega.{arith}
use borrow.Author.Tests.{le-leb, lt-leb, ltb-true, ltb-false}
use lib.Dec.{eqb, leb, ltb}
use lib.ListN.{length, get_or, take, drop, length-drop}
use lib.Seq.{take_all, drop-drop, length-take-le}
use Rattle.definitions.specs.Bytes.{Bytes, null, split, skip}
use Rattle.definitions.specs.Limits.{house}
use Rattle.definitions.specs.RuleText.{letter, Manner, symbol_name, behind, is_name}
use Rattle.definitions.proofs.Laws.Bools.{by_cases}
use Rattle.std.specs.Prelude.{Option, Some, None}
use Rattle.std.specs.Option.{unwrap_or}
use Rattle.std.specs.List.{position_or_len, list_all}
use Rattle.std.proofs.lemmas.List.Sums.{prefix_len-le-length}
use Rattle.text.specs.declared.kind.Kind.{Kind}
use Rattle.text.specs.declared.kind.Kind.TheVariants.{Top, Bottom, Not, And, Or, Implies, Iff, Equals, All, Exists, Predicate, Function, Variable, Constant}
use Rattle.reader.specs.Lines.{upto, manner_of}

-- What `position` finds, or the length where it finds nothing.
pub first_place : (t : ℕ → Bool) (l : Bytes) (n : ℕ) (o : Option ℕ)
    → o ≡ cond (ltb (position_or_len t l) (length l)) (Some (position_or_len t l)) None → n ≡ length l → unwrap_or o n ≡ position_or_len t l
first_place t l n o e z =
    by_cases (ltb (position_or_len t l) (length l))
    (λ y. rw (e, y))
    (λ f. rw (e, f) (omega (arith, ltb-false (position_or_len t l) (length l) f, prefix_len-le-length (λ (x : ℕ). not (t x)) l)))

-- the first b stands behind as many bytes as are none
pub upto_is : (b : ℕ) (l : Bytes) → position_or_len (λ (x : ℕ). eqb x b) l ≡ upto b l
unfolding upto
upto_is b [] = refl
upto_is b (x ∷ l) = by_cases (eqb x b) (λ t. rw t) (λ f. rw (f, upto_is b l) (omega arith))

pub upto_within : (b : ℕ) (l : Bytes) → upto b l ≤ length l
upto_within b l = rw (← upto_is b l) (prefix_len-le-length (λ (x : ℕ). not (eqb x b)) l)

-- Names.
-- nothing is left behind the bytes of a set where all bytes are in it
pub all_skipped : (p : ℕ → Bool) (s : Bytes) → null (skip p s) ≡ list_all p s
unfolding skip
all_skipped p [] = refl
all_skipped p (x ∷ s) = by_cases (p x) (λ t. rw t (all_skipped p s)) (λ f. rw f)

-- the bytes of a set are skipped up to the first that is not in it
pub skipped : (p : ℕ → Bool) (s : Bytes) → skip p s ≡ drop (position_or_len (λ x. not (p x)) s) s
unfolding skip
skipped p [] = refl
skipped p (x ∷ s) =
    by_cases (p x)
    (λ t. let n = position_or_len (λ (x : ℕ). not (p x)) s in let z : 1 + n ≡ suc n = omega arith in rw (t, z) (skipped p s))
    (λ f. rw f)

module _ (m : Manner) (s : Bytes) where
  pub name_none : length s < 1 → false ≡ is_name house m s
  unfolding is_name
  name_none = elim s as (λ (x : Bytes). length x < 1 → false ≡ is_name house m x) [ [] ↦ λ h. refl | b ∷ r ↦ λ h. absurd (omega arith) ]

  name_parts : 1 ≤ length s → (leb (length s) house.name && letter (get_or s 0 0) && null (behind m (drop 1 s))) ≡ is_name house m s
  unfolding is_name
  name_parts =
      elim s as (λ (x : Bytes). 1 ≤ length x → (leb (length x) house.name && letter (get_or x 0 0) && null (behind m (drop 1 x))) ≡ is_name house m x) [
        | [] ↦ λ h. absurd (omega arith)
        | b ∷ r ↦ λ h. refl
      ]

  pub name_long : house.name < length s → false ≡ is_name house m s
  name_long h = rw (← name_parts (omega arith), lt-leb (length s) 24 h)

  module _ (h : 1 ≤ length s) (g : length s ≤ house.name) where
    pub name_other : letter (get_or s 0 0) ≡ false → false ≡ is_name house m s
    name_other e = rw (← name_parts h, le-leb (length s) 24 g, e)

    pub name_rest : letter (get_or s 0 0) ≡ true → null (behind m (drop 1 s)) ≡ is_name house m s
    name_rest e = rw (← name_parts h, le-leb (length s) 24 g, e)

-- a slice from a place on
pub rest_of : (s : Bytes) (n : ℕ) → take (length s - n) (drop n s) ≡ drop n s
rest_of s n = take_all (length s - n) (drop n s) (rw length-drop (omega arith))

-- the kinds whose names are of the third manner
pub other_manner : (kind : Kind) → kind ≢ Variable → kind ≢ Predicate → manner_of kind ≡ symbol_name
other_manner Top v p = refl
other_manner Bottom v p = refl
other_manner Not v p = refl
other_manner And v p = refl
other_manner Or v p = refl
other_manner Implies v p = refl
other_manner Iff v p = refl
other_manner Equals v p = refl
other_manner All v p = refl
other_manner Exists v p = refl
other_manner Predicate v p = absurd (p refl)
other_manner Function v p = refl
other_manner Variable v p = absurd (v refl)
other_manner Constant v p = refl

-- Pieces.
split_end : (b : ℕ) (s : Bytes) → length s ≤ upto b s → split b s ≡ s ∷ []
unfolding split upto
split_end b [] h = refl
split_end b (x ∷ s) h = by_cases (eqb x b) (λ t. absurd (omega (arith, rw t at h))) (λ f. rw (f, split_end b s (omega (arith, rw f at h))))

split_more : (b : ℕ) (s : Bytes) → upto b s < length s → split b s ≡ take (upto b s) s ∷ split b (drop (suc (upto b s)) s)
unfolding split upto
split_more b [] h = absurd (omega arith)
split_more b (x ∷ s) h = by_cases (eqb x b) (λ t. rw t) (λ f. rw (f, split_more b s (omega (arith, rw f at h))))

pub split_many : (b : ℕ) (s : Bytes) → 0 < length (split b s)
split_many b s =
    by_cases (ltb (upto b s) (length s))
    (λ t. omega (arith, ap length (split_more b s (ltb-true (upto b s) (length s) t))))
    (λ f. omega (arith, ap length (split_end b s (ltb-false (upto b s) (length s) f))))

-- what stands from `from` to `end`
abbrev pub piece : Bytes → ℕ → ℕ → Bytes
piece s from end = take (end - from) (drop from s)

pub piece_length : (s : Bytes) (from end : ℕ) → from ≤ end → end ≤ length s → length (piece s from end) ≡ end - from
piece_length s from end h l = length-take-le (end - from) (drop from s) (rw length-drop (omega arith))

-- the piece of s from `from` to the next b, at `end`: the last one, or one of more
module _ (b : ℕ) (s : Bytes) (from end : ℕ) (h : from ≤ length s) (found : end ≡ from + upto b (drop from s)) where
  width : end - from ≡ upto b (drop from s)
  width = omega arith

  pub last_piece : length s ≤ end → split b (drop from s) ≡ piece s from end ∷ []
  last_piece l =
      let e : length (drop from s) ≤ upto b (drop from s) = rw length-drop (omega arith) in
      split_end b (drop from s) e ∙ rw (width, take_all (upto b (drop from s)) (drop from s) e)

  pub first_piece : end < length s → split b (drop from s) ≡ piece s from end ∷ split b (drop (end + 1) s)
  first_piece l =
      let e : upto b (drop from s) < length (drop from s) = rw length-drop (omega arith) in
      let z : from + suc (upto b (drop from s)) ≡ end + 1 = omega arith in
      split_more b (drop from s) e ∙ rw (width, drop-drop, z)

  pub some_piece : (l : List Bytes) × (split b (drop from s) ≡ piece s from end ∷ l)
  some_piece =
      by_cases (ltb end (length s))
      (λ t. (split b (drop (end + 1) s), first_piece (ltb-true end (length s) t)))
      (λ f. ([], last_piece (ltb-false end (length s) f)))

-- what is no name
pub ruleset no_names = (name_none, name_long, name_other)
