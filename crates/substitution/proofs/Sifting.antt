-- A list of words sifted by their names, one word after another.
use Rattle.std.specs.Prelude.{◌≡◌, refl, Bool, true, false, List, [], ◌∷◌, ◌++◌, ℕ, ◌+◌, ◌<◌, ◌≤◌, length, get_or, set, drop}
use Rattle.std.proofs.Common.{sym, ap, ◌∙◌, arith, append-nil, drop-drop, drop-cons, drop-set-lt}
use Rattle.std.proofs.Math.Seq.{slice, slice_empty}
use Rattle.definitions.specs.Bytes.{Bytes}
use Rattle.definitions.specs.Names.{mem}
use Rattle.definitions.proofs.Laws.Bools.{by_cases}
use Rattle.text.specs.Words.{spell}
use Rattle.substitution.specs.Runs.{spells, those, staying, Keeps, Sifts}
use Rattle.substitution.specs.Slices.{slice_more, slice_put}
use Rattle.substitution.specs.Keeping.{keeps_all, keeps_put, keeps_on, keeps_own}

-- the loop: what stays of the words before `next` was kept, and those from `next` on are as they were
pub record Sifting (T M : Bytes) (N O : List ℕ) (from : ℕ) (O' : List ℕ) (next kept : ℕ) : Type 0 where
  pub keeps : Keeps [] O from O' kept
  pub behind : kept ≤ next
  pub unread : drop next O' ≡ drop next O
  pub words : slice from kept O' ≡ those (λ w. staying (spells T M N) (spell T M w)) (slice from next O)

those_append : (p : ℕ → Bool) (a b : List ℕ) → those p (a ++ b) ≡ those p a ++ those p b
unfolding those
those_append p [] b = refl
those_append p (x ∷ a) b = by_cases (p x) (λ t. rw (t, those_append p a b)) (λ f. rw (f, those_append p a b))

module _ {T M : Bytes} {N O : List ℕ} {from : ℕ} where
  pub sifting_starts : Sifting T M N O from O from from
  unfolding those
  sifting_starts = record { keeps = keeps_all; behind = omega arith; unread = refl; words = rw (slice_empty from O) }

  module _ {O' : List ℕ} {next kept : ℕ} (s : Sifting T M N O from O' next kept) where
    module _ (h : next < length O) (l : from ≤ next) where
      abbrev test : ℕ → Bool
      test w = staying (spells T M N) (spell T M w)

      same_word : get_or O' next 0 ≡ get_or O next 0
      same_word =
          let e = sym (drop-cons O' next 0 (omega (arith, s.keeps.size))) ∙ s.unread ∙ drop-cons O next 0 h in
          cc

      past : drop (next + 1) O' ≡ drop (next + 1) O
      past = sym (drop-drop 1 next O') ∙ ap (drop 1) s.unread ∙ drop-drop 1 next O

      on : those test (slice from (next + 1) O) ≡ slice from kept O' ++ those test (get_or O' next 0 ∷ [])
      on = ap (those test) (slice_more from next O 0 l h) ∙ those_append test (slice from next O) (get_or O next 0 ∷ []) ∙ rw (same_word, s.words)

      pub word_goes : true ≡ mem (spell T M (get_or O' next 0)) (spells T M N) → Sifting T M N O from O' (next + 1) kept
      unfolding those
      word_goes t = record { keeps = s.keeps; behind = omega (arith, s.behind); unread = past; words = sym (on ∙ rw (sym t) (append-nil (slice from kept O'))) }

      pub word_stays : false ≡ mem (spell T M (get_or O' next 0)) (spells T M N) → Sifting T M N O from (set O' kept (get_or O' next 0)) (next + 1) (kept + 1)
      unfolding those
      word_stays f =
          record {
            keeps = keeps_on s.keeps (keeps_own next keeps_put);
            behind = omega (arith, s.behind);
            unread = drop-set-lt (next + 1) O' kept (get_or O' next 0) (omega (arith, s.behind)) ∙ past;
            words = slice_put from kept O' (get_or O' next 0) s.keeps.more (omega (arith, s.keeps.size, s.behind)) ∙ sym (on ∙ rw (sym f));
          }

    pub sifted : {to : ℕ} → next ≡ to → Sifts T M N O from to O' kept
    sifted e = record { keeps = s.keeps; short = omega (arith, s.behind); words = rw (← e) s.words }
