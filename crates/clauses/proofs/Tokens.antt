-- How tokens compare, read off their words, and how many terms stand behind one.
use mathlib.Core.Path.{◌≡◌, refl, sym, ap₂, ◌∙◌}
use mathlib.Core.List.{List, [], ◌∷◌, map}
use Prim.Native.Nat.{ℕ, suc, ◌+◌, ◌-◌, ◌<◌, min, compare, Ordering}
use native.Mathlib.Omega.{arith}
use native.Mathlib.Numerals.{add-one}
use lib.ListN.{length, drop, get_or, drop_of_length-le}
use lib.Seq.{drop-cons}
use Rattle.std.specs.Ordering.{is_ne}
use mathlib.Core.Bool.{true, false}
use Rattle.definitions.proofs.Laws.Bools.{clash}
use Rattle.definitions.specs.Bytes.{Bytes}
use Rattle.definitions.specs.Order.{then}
use Rattle.text.specs.Words.{Token, token, tokens, kind_of_word, kind}
use Rattle.std.specs.declared.cmp.Ordering.{Ordering as Answer}
use Rattle.std.specs.declared.cmp.Ordering.TheVariants.{Less, Equal, Greater}
use Rattle.text.specs.Names.{ordering}
use Rattle.text.specs.WordLaws.{kind_is}
use Rattle.clauses.specs.Ranks.{behind, cmp_token, due, cmp_tokens}
use Rattle.clauses.proofs.Numbers.{either_way}

pub kinds_of : (T M : Bytes) (ws : List ℕ) → map kind_of_word ws ≡ map kind (tokens T M ws)
kinds_of T M [] = refl
kinds_of T M (w ∷ ws) = ap₂ (◌∷◌) (sym (kind_is T M w)) (kinds_of T M ws)

pub none_due : (x y : List Token) (v : Ordering) → cmp_tokens x y 0 v ≡ v
unfolding cmp_tokens
none_due [] y v = refl
none_due (s ∷ x) [] v = refl
none_due (s ∷ x) (t ∷ y) v = refl

-- one word more of the two atoms
next_token : (T M : Bytes) (S : List ℕ) (k : ℕ) → k < length S → tokens T M (drop k S) ≡ token T M (get_or S k 0) ∷ tokens T M (drop (k + 1) S)
next_token T M S k h = rw (add-one, drop-cons S k 0 h)

module _ (T M : Bytes) (S R : List ℕ) (k d : ℕ) (v : Ordering) where
  pub one_ends : k ≡ min (length S) (length R) → v ≡ cmp_tokens (tokens T M (drop k S)) (tokens T M (drop k R)) d v
  unfolding cmp_tokens
  one_ends e =
      either_way (length S) (length R) (λ h. rw (drop_of_length-le S {i = k} (omega arith)))
      (λ h. rw (next_token T M S k (omega arith), drop_of_length-le R {i = k} (omega arith)))

  module _ (l : k < length S) (h : k < length R) where
    one_more : cmp_tokens (tokens T M (drop k S)) (tokens T M (drop k R)) (suc d) v
        ≡ then (cmp_token (token T M (get_or S k 0)) (token T M (get_or R k 0))) (cmp_tokens (tokens T M (drop (k + 1) S)) (tokens T M (drop (k + 1) R))
        (due d (behind (token T M (get_or S k 0))) (behind (token T M (get_or R k 0)))) (then (compare (behind (token T M (get_or S k 0))) (behind (token T M (get_or R k 0)))) v))
    unfolding cmp_tokens
    one_more = rw (next_token T M S k l, next_token T M R k h)

-- a loop over the words of two atoms: it ends where two words differ, and else goes on with what is due then
module _ (T M : Bytes) (S R : List ℕ) (k d : ℕ) (v : Ordering) (some : 0 < d) (l : k < length S) (h : k < length R) (s t : ℕ)
    (s-is : s ≡ get_or S k 0) (t-is : t ≡ get_or R k 0) (r : Answer) (word : ordering r ≡ cmp_token (token T M s) (token T M t)) where
  again : cmp_tokens (tokens T M (drop k S)) (tokens T M (drop k R)) d v
      ≡ then (ordering r) (cmp_tokens (tokens T M (drop (k + 1) S)) (tokens T M (drop (k + 1) R))
      (due (d - 1) (behind (token T M s)) (behind (token T M t))) (then (compare (behind (token T M s)) (behind (token T M t))) v))
  again = let z : suc (d - 1) ≡ d = omega arith in rw word (rw (s-is, t-is) (rw z at (one_more T M S R k (d - 1) v l h)))

  pub decided : is_ne r ≡ true → ordering r ≡ cmp_tokens (tokens T M (drop k S)) (tokens T M (drop k R)) d v
  decided h = not_same r h _ ∙ sym again
    where
      not_same : (r : Answer) → is_ne r ≡ true → (o : Ordering) → ordering r ≡ then (ordering r) o
      not_same Less h o = refl
      not_same Equal h o = clash h refl
      not_same Greater h o = refl

  pub goes_on : (m n d' : ℕ) (same : Ordering) → is_ne r ≡ false → m ≡ behind (token T M s) → n ≡ behind (token T M t) → d' ≡ due (d - 1) m n
      → same ≡ then (compare m n) v
      → cmp_tokens (tokens T M (drop k S)) (tokens T M (drop k R)) d v ≡ cmp_tokens (tokens T M (drop (k + 1) S)) (tokens T M (drop (k + 1) R)) d' same
  goes_on m n d' same e a b f g = again ∙ rw (alike r e, f, g, a, b)
    where
      alike : (r : Answer) → is_ne r ≡ false → ordering r ≡ Ordering.eq
      alike Less h = clash refl h
      alike Equal h = refl
      alike Greater h = clash refl h
