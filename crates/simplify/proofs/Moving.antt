-- Words written into a table: a part of a list, or a run moved down; a formula that becomes a constant, its part or its negation.
use Rattle.std.specs.Prelude.{◌≡◌, refl, false, List, [], ◌∷◌, ◌++◌, ℕ, ◌+◌, ◌-◌, ◌<◌, ◌≤◌, length, get_or, set, take, drop}
use Rattle.std.proofs.Common.{sym, ap, ◌∙◌, arith, append_assoc, length-set, length-drop, length-take-le, take_at, drop_at}
use Rattle.std.proofs.Math.Seq.{slice, slice_empty, paste, take-length}
use Rattle.std.proofs.lemmas.List.{take-set-le}
use Rattle.std.proofs.lemmas.List.Edits.{length-paste, take-paste, drop-paste}
use Rattle.std.proofs.lemmas.Slice.{between_is}
use Rattle.definitions.specs.Bytes.{Bytes}
use Rattle.definitions.specs.Syntax.{Formula, top, bot}
use Rattle.definitions.specs.Simplify.{turn}
use Rattle.text.specs.Words.{Token, token, tokens, kind_of_word, code, is_made}
use Rattle.substitution.specs.Runs.{Unmade, Keeps}
use Rattle.substitution.specs.Slices.{slice_put, slice_behind, slice_split, slice_kept, kept_twice}
use Rattle.substitution.specs.Keeping.{keeps_all, unmade_set, unmade_take, unmade_drop, unmade_append}
use Rattle.simplify.specs.Parts.{Moves, Becomes, Pastes}
use Rattle.simplify.proofs.Roots.{rooted, runs_on, top_of, bot_of, turn_not, turn_other}

-- n words of s written from `at` on
module _ (O : List ℕ) (at : ℕ) (s : List ℕ) (n : ℕ) (h : at + n ≤ length O) (k : n ≤ length s) where
  front : length (take at O) ≡ at
  front = length-take-le at O (omega arith)

  placed : slice at (at + n) (paste O at s n) ≡ take n s
  placed = ap (drop at) (take-paste O at s n (omega arith) k) ∙ drop_at (take at O) (take n s) at front

  kept_by_paste : {S : List ℕ} → (Unmade S → Unmade O → Unmade s) → Keeps S O at (paste O at s n) (at + n)
  kept_by_paste from =
      record {
        size = length-paste O at s n h k;
        kept = ap (take at) (append_assoc (take at O) (take n s) (drop (at + n) O)) ∙ take_at (take at O) (take n s ++ drop (at + n) O) at front;
        more = omega arith;
        origin = λ u o. unmade_append (take at O ++ take n s) (drop (at + n) O) (unmade_append (take at O) (take n s) (unmade_take at O o) (unmade_take n s (from u o))) (unmade_drop (at + n) O o);
      }

pub pasted : {L O : List ℕ} {at : ℕ} → at + length L ≤ length O → Pastes L O at (paste O at L (length L)) (at + length L)
pasted {L} {O} {at} h =
    record {
      keeps = kept_by_paste O at L (length L) h (omega arith) (λ u o. u);
      place = refl;
      above = drop-paste O at L (length L) (omega arith) (omega arith);
      words = placed O at L (length L) h (omega arith) ∙ take-length L;
    }

pub moved : {O : List ℕ} {to from end : ℕ} → to ≤ from → from ≤ end → end ≤ length O → Moves O to from end (paste O to (drop from O) (end - from)) (to + (end - from))
moved {O} {to} {from} {end} h l g =
    let room : to + (end - from) ≤ length O = omega arith in
    let some : end - from ≤ length (drop from O) = rw (length-drop from O) (omega arith) in
    record {
      keeps = kept_by_paste O to (drop from O) (end - from) room some (λ u o. unmade_drop from O o);
      place = refl;
      words = placed O to (drop from O) (end - from) room some ∙ between_is O from end;
    }

-- nothing where there is no formula
pub becomes_nothing : {O : List ℕ} {to from end : ℕ} {F : Formula → Formula} → to ≤ end → end ≤ from → Becomes O to from end O end F
becomes_nothing {O} {from = from} {end = end} h l =
    record {
      keeps = record { size = refl; kept = refl; more = h; origin = λ s o. o };
      short = omega arith;
      formula = λ T M f e. absurd (omega (arith, runs_on T M O from end f e));
    }

-- a word is written, and what stands behind it
pub behind_word : (T M : Bytes) (S O : List ℕ) (at w : ℕ) (O' : List ℕ) (r : ℕ) (o : List Token) → at < length O → r ≤ length O' → Keeps S (set O at w) (at + 1) O' r
    → tokens T M (slice (at + 1) r O') ≡ o → tokens T M (slice at r O') ≡ token T M w ∷ o
behind_word T M S O at w O' r o h l k e =
    ap (tokens T M) (slice_split at (at + 1) r O' (omega arith) k.more l
    ∙ ap (λ (x : List ℕ). x ++ slice (at + 1) r O') (slice_kept at (at + 1) (at + 1) O' (set O at w) (omega arith) k.kept ∙ slice_put at at O w (omega arith) h ∙ ap (λ (x : List ℕ). x ++ (w ∷ [])) (slice_empty at O)))
    ∙ ap (λ (x : List Token). token T M w ∷ x) e

-- words are written after one that was written or left out
pub keeps_after : {O : List ℕ} {at : ℕ} {S O' : List ℕ} {r : ℕ} (w : ℕ) → is_made w ≡ false → Keeps S (set O at w) (at + 1) O' r → Keeps S O at O' r
keeps_after {O} {at} {S} {O'} w e k =
    record {
      size = k.size ∙ length-set O at w;
      kept = kept_twice at (at + 1) O (set O at w) O' (omega arith) k.kept (take-set-le at O at w (omega arith));
      more = omega (arith, k.more);
      origin = λ s o. k.origin s (unmade_set o at w e);
    }

module _ {O : List ℕ} {to from end : ℕ} (down : to < from) (inside : from ≤ end) (g : end ≤ length O) where
  -- a constant
  pub becomes_constant : {O' : List ℕ} {r : ℕ} {F : Formula → Formula} (w : ℕ) (c : Formula) → is_made w ≡ false → ((T M : Bytes) → token T M w ∷ [] ≡ code c)
      → ((T M : Bytes) (f : Formula) → tokens T M (slice from end O) ≡ code f → F f ≡ c) → (O' ≡ set O to w) × (r ≡ to + 1) → Becomes O to from end O' r F
  becomes_constant w c m t h e =
      rw (e.0, e.1) (record {
        keeps = keeps_after w m keeps_all;
        short = omega arith;
        formula = λ T M f e. behind_word T M [] O to w (set O to w) (to + 1) [] (omega arith) (simp length-set (omega arith)) keeps_all (ap (tokens T M) (slice_empty (to + 1) (set O to w))) ∙ t T M ∙ ap code (sym (h T M f e));
      })

  -- what stands there, or what stands behind its first word
  pub becomes_itself : {O' : List ℕ} {r : ℕ} {F : Formula → Formula} → ((f : Formula) → F f ≡ f) → Moves O to from end O' r → Becomes O to from end O' r F
  becomes_itself h m = record { keeps = m.keeps; short = omega (arith, m.place); formula = λ T M f e. ap (tokens T M) m.words ∙ e ∙ ap code (sym (h f)) }

  pub turned_top : {O' : List ℕ} {r : ℕ} → kind_of_word (get_or O from 0) ≡ 0 → (O' ≡ set O to 1) × (r ≡ to + 1) → Becomes O to from end O' r turn
  unfolding turn code
  turned_top k = becomes_constant 1 bot refl (λ T M. refl) (λ T M f e. ap turn (top_of f (sym (rooted T M O from end f g e).kind ∙ k)))

  pub turned_bottom : {O' : List ℕ} {r : ℕ} → kind_of_word (get_or O from 0) ≡ 1 → (O' ≡ set O to 0) × (r ≡ to + 1) → Becomes O to from end O' r turn
  unfolding turn code
  turned_bottom k = becomes_constant 0 top refl (λ T M. refl) (λ T M f e. ap turn (bot_of f (sym (rooted T M O from end f g e).kind ∙ k)))

  pub turned_not : {O' : List ℕ} {r : ℕ} → from < end → kind_of_word (get_or O from 0) ≡ 2 → Moves O to (from + 1) end O' r → Becomes O to from end O' r turn
  turned_not h k m =
      record {
        keeps = m.keeps;
        short = omega (arith, m.place);
        formula = λ T M f e. let w = rooted T M O from end f g e in ap (tokens T M) m.words ∙ w.behind ∙ turn_not f (omega (arith, w.kind));
      }

  pub turned_other : {P O' : List ℕ} {b r : ℕ} → 2 < kind_of_word (get_or O from 0) → (P ≡ set O to 2) × (b ≡ to + 1) → Moves P b from end O' r → Becomes O to from end O' r turn
  unfolding code
  turned_other {O' = O'} {r = r} k e n =
      let m = rw (e.0, e.1) at n in
      record {
        keeps = keeps_after 2 refl m.keeps;
        short = omega (arith, m.place);
        formula = λ T M f e.
            behind_word T M [] O to 2 O' r (code f) (omega arith) (omega (arith, m.place, m.keeps.size ∙ length-set O to 2)) m.keeps
            (ap (tokens T M) (m.words ∙ slice_behind from end to O 2 down) ∙ e) ∙ ap code (sym (turn_other f (omega (arith, (rooted T M O from end f g e).kind))));
      }
