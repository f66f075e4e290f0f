-- A name put for another in a run of words, one word at a time. X is what the table W has become when the words up to i are done.
use mathlib.Core.Path.{◌≡◌, refl, sym, ap, ap₂, ◌∙◌}
use mathlib.Core.Bool.{Bool, true, false, ◌&&◌}
use lib.Dec.{eqb}
use borrow.Author.Tests.{eqb-true, eqb-false}
use borrow.Rule.Slice.PartMut.{put_mid}
use mathlib.Core.List.{List, [], ◌∷◌, ◌++◌, map, map-append, append-nil}
use Prim.Native.Nat.{ℕ, zero, suc, ◌+◌, ◌-◌, ◌≤◌, ◌<◌}
use native.Mathlib.Omega.{arith}
use lib.ListN.{length, take, drop, get_or, set, length-set, length-map, drop_of_length-le}
use lib.Seq.{slice, length-slice, take_all, drop-drop}
use Rattle.definitions.specs.Bytes.{Bytes, same}
use Rattle.definitions.proofs.Laws.Bools.{by_cases, clash}
use Rattle.text.specs.Words.{Token, var_token, kind_of_word, spell, token, tokens}
use Rattle.text.specs.WordLaws.{variable_word, other_word, map_take, map_drop}
use Rattle.prenex.specs.Walk.{put}
use Rattle.prenex.specs.Tables.{Known, AllKnown}
use Rattle.prenex.specs.Renaming.{splice, is_spelled}
use Rattle.prenex.proofs.Splices.{slice_more, splice_at, splice_next, splice_stay}
use Rattle.prenex.proofs.Words.{tokens_at, tokens_set}

-- a word written that is known
pub set_known : (n i v : ℕ) (W : List ℕ) → Known n v → AllKnown n W → AllKnown n (set W i v)
set_known n zero v [] k a j = a j
set_known n (suc i) v [] k a j = a j
set_known n zero v (w ∷ W) k a zero = k
set_known n zero v (w ∷ W) k a (suc j) = a (suc j)
set_known n (suc i) v (w ∷ W) k a zero = a zero
set_known n (suc i) v (w ∷ W) k a (suc j) = set_known n i v W k (λ l. a (suc l)) j

pub record Puts (T M : Bytes) (W : List ℕ) (old new i : ℕ) (X : List ℕ) : Type 0 where
  pub size : length X ≡ length W
  pub words : tokens T M X ≡ splice 0 i (tokens T M W) (map (put (spell T M old) (spell T M new)) (slice 0 i (tokens T M W)))
  pub known : (n : ℕ) → Known n new → AllKnown n W → AllKnown n X

module _ {T M : Bytes} {W : List ℕ} {old new i : ℕ} {X : List ℕ} (p : Puts T M W old new i X) (k : i < length W) where
  abbrev Ŵ : List Token
  Ŵ = tokens T M W

  abbrev g : Token → Token
  g = put (spell T M old) (spell T M new)

  fits : i ≤ length Ŵ
  fits = simp length-map (omega arith)

  below : i < length Ŵ
  below = simp length-map k

  even : length (map g (slice 0 i Ŵ)) ≡ i - 0
  even = simp length-map (length-slice 0 i Ŵ fits)

  here : token T M (get_or X i 0) ≡ get_or Ŵ i (token T M 0)
  here =
      sym (tokens_at T M X i) ∙ ap (λ (l : List Token). get_or l i (token T M 0)) p.words
      ∙ splice_at 0 i Ŵ (map g (slice 0 i Ŵ)) (omega arith) fits even (token T M 0) below

  more : map g (slice 0 (i + 1) Ŵ) ≡ map g (slice 0 i Ŵ) ++ (g (get_or Ŵ i (token T M 0)) ∷ [])
  more = rw (slice_more 0 i Ŵ (token T M 0) (omega arith) below, map-append)

  hit : kind_of_word (get_or X i 0) ≡ 12 → same (spell T M old) (spell T M (get_or X i 0)) ≡ true → g (get_or Ŵ i (token T M 0)) ≡ var_token (spell T M new)
  unfolding put
  hit v s = rw (← here, variable_word T M (get_or X i 0) v, s)

  miss : kind_of_word (get_or X i 0) ≡ 12 → same (spell T M old) (spell T M (get_or X i 0)) ≡ false → g (get_or Ŵ i (token T M 0)) ≡ get_or Ŵ i (token T M 0)
  unfolding put
  miss v s = rw (← here, variable_word T M (get_or X i 0) v, s)

  no_var : (kind_of_word (get_or X i 0) ≡ 12 → ⊥) → g (get_or Ŵ i (token T M 0)) ≡ get_or Ŵ i (token T M 0)
  unfolding put
  no_var v = rw (← here, other_word T M (get_or X i 0) v)

  puts_hit : kind_of_word new ≡ 12 → kind_of_word (get_or X i 0) ≡ 12 → same (spell T M old) (spell T M (get_or X i 0)) ≡ true → Puts T M W old new (i + 1) (set X i new)
  puts_hit nv v s = record {
    size = simp length-set p.size;
    words = tokens_set T M X i new ∙ ap₂ (λ (l : List Token) (t : Token). set l i t) p.words (variable_word T M new nv ∙ sym (hit v s))
        ∙ splice_next 0 i Ŵ (map g (slice 0 i Ŵ)) (omega arith) fits even (token T M 0) (g (get_or Ŵ i (token T M 0))) below ∙ rw more;
    known = λ n a b. set_known n i new X a (p.known n a b);
  }

  stays : g (get_or Ŵ i (token T M 0)) ≡ get_or Ŵ i (token T M 0) → Puts T M W old new (i + 1) X
  stays e = record {
    size = p.size;
    words = p.words ∙ splice_stay 0 i Ŵ (map g (slice 0 i Ŵ)) (omega arith) fits even (token T M 0) below ∙ rw (more, e);
    known = p.known;
  }

  told : {b s : Bool} → b ≡ (eqb (kind_of_word (get_or X i 0)) 12 && s) → b ≡ true → (kind_of_word (get_or X i 0) ≡ 12) × (s ≡ true)
  told e t = by_cases (eqb (kind_of_word (get_or X i 0)) 12) (λ h. (eqb-true (kind_of_word (get_or X i 0)) 12 h, sym (rw h at e) ∙ t)) (λ f. clash t (rw f at e))

  -- what the test of a word says
  pub puts_on : kind_of_word new ≡ 12 → {b : Bool} → b ≡ is_spelled T M old (get_or X i 0) → b ≡ true → Puts T M W old new (i + 1) (set X i new)
  puts_on nv e t = let q = told e t in puts_hit nv q.0 q.1

  pub puts_off : {b : Bool} → b ≡ is_spelled T M old (get_or X i 0) → b ≡ false → Puts T M W old new (i + 1) X
  puts_off e f =
      by_cases (eqb (kind_of_word (get_or X i 0)) 12)
      (λ h. stays (miss (eqb-true (kind_of_word (get_or X i 0)) 12 h) (sym (rw h at e) ∙ f)))
      (λ n. stays (no_var (eqb-false (kind_of_word (get_or X i 0)) 12 n)))

-- all words are done
pub puts_end : {T M : Bytes} {W : List ℕ} {old new : ℕ} {X : List ℕ} → Puts T M W old new (length W) X → tokens T M X ≡ map (put (spell T M old) (spell T M new)) (tokens T M W)
puts_end {T} {M} {W} {old} {new} {X} p =
    p.words ∙ ap (λ (l : List Token). map g l ++ drop (length W) Ŵ) (take_all (length W) Ŵ (simp length-map (omega arith)))
    ∙ ap (λ (l : List Token). map g Ŵ ++ l) (drop_of_length-le Ŵ {i = length W} (simp length-map (omega arith))) ∙ append-nil (map g Ŵ)
  where
    Ŵ : List Token
    Ŵ = tokens T M W

    g : Token → Token
    g = put (spell T M old) (spell T M new)

-- a part of a table written
pub part_tokens : (T M : Bytes) (W Y : List ℕ) (f t : ℕ) → f ≤ t → tokens T M (put_mid f (t - f) W Y) ≡ splice f t (tokens T M W) (tokens T M Y)
part_tokens T M W Y f t h =
    let z : f + (t - f) ≡ t = omega arith in
    map-append (token T M) (take f W) (Y ++ drop (t - f) (drop f W))
    ∙ ap₂ (λ (a b : List Token). a ++ b) (map_take (token T M) f W)
    (map-append (token T M) Y (drop (t - f) (drop f W))
    ∙ ap (λ (l : List Token). tokens T M Y ++ l) (ap (tokens T M) (drop-drop (t - f) f W ∙ ap (λ (j : ℕ). drop j W) z) ∙ map_drop (token T M) t W))

known_append : (n : ℕ) (A B : List ℕ) → AllKnown n A → AllKnown n B → AllKnown n (A ++ B)
known_append n [] B a b i = b i
known_append n (x ∷ A) B a b zero = a zero
known_append n (x ∷ A) B a b (suc i) = known_append n A B (λ j. a (suc j)) b i

known_take : (n m : ℕ) (A : List ℕ) → AllKnown n A → AllKnown n (take m A)
known_take n zero A a i z = clash z refl
known_take n (suc m) [] a i z = clash z refl
known_take n (suc m) (x ∷ A) a zero z = a zero z
known_take n (suc m) (x ∷ A) a (suc i) z = known_take n m A (λ j. a (suc j)) i z

known_drop : (n m : ℕ) (A : List ℕ) → AllKnown n A → AllKnown n (drop m A)
known_drop n zero A a i z = a i z
known_drop n (suc m) [] a i z = clash z refl
known_drop n (suc m) (x ∷ A) a i z = known_drop n m A (λ j. a (suc j)) i z

pub known_part : (n f k : ℕ) (W Y : List ℕ) → AllKnown n W → (AllKnown n (take k (drop f W)) → AllKnown n Y) → AllKnown n (put_mid f k W Y)
known_part n f k W Y a y =
    known_append n (take f W) (Y ++ drop k (drop f W)) (known_take n f W a)
    (known_append n Y (drop k (drop f W)) (y (known_take n k (drop f W) (known_drop n f W a))) (known_drop n k (drop f W) (known_drop n f W a)))
