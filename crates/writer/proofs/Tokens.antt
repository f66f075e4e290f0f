-- What a word's token writes, read off the word: the tests are those that the code makes.
use mathlib.Core.Path.{◌≡◌, refl, ap, ◌∙◌}
use mathlib.Core.Bool.{cond}
use mathlib.Core.List.{[], ◌∷◌, ◌++◌, append-nil}
use mathlib.Core.Logic.{◌⊎◌, inl, inr, ⊎_elim}
use Prim.Native.Nat.{ℕ, zero, suc, ◌-◌, ◌≤◌, ◌<◌}
use native.Mathlib.Omega.{arith}
use borrow.Author.Tests.{le-leb, lt-leb}
use lib.ListN.{length, drop, length-take, get_or-eq_default}
use Rattle.definitions.specs.Bytes.{Bytes, TAB, LF, behind_each, decimal}
use Rattle.text.specs.declared.kind.Kind.{Kind}
use Rattle.text.specs.declared.kind.Kind.TheVariants.{All, Exists, Predicate, Function, Variable, Constant}
use Rattle.text.specs.declared.names.Spellings.{Spellings}
use Rattle.text.specs.Kinds.{number}
use Rattle.text.specs.Words.{kind_of_word, count_of, is_made, size_of, start_of, token, kind, count, name}
use Rattle.text.specs.WordLaws.{other_word, kind_is, name_is}
use Rattle.writer.specs.Writer.{keywords, keyword_of, body, after, end, name_in, body_in}

-- Which numbers the kinds of an arm have.
unnamed : {k : Kind} → (k ≡ Predicate → ⊥) → (k ≡ Function → ⊥) → (k ≡ Variable → ⊥) → (k ≡ Constant → ⊥) → number k ≤ 9
unnamed {k = Predicate} p f v c = absurd (p refl)
unnamed {k = Function} p f v c = absurd (f refl)
unnamed {k = Variable} p f v c = absurd (v refl)
unnamed {k = Constant} p f v c = absurd (c refl)
unnamed {k} p f v c = omega arith

counted : {k : Kind} → (k ≡ Predicate) ⊎ (k ≡ Function) → (9 < number k) × (number k ≤ 11)
counted p = ⊎_elim (λ e. rw e (omega arith, omega arith)) (λ e. rw e (omega arith, omega arith)) p

named : {k : Kind} → (k ≡ Variable) ⊎ (k ≡ Constant) → 11 < number k
named p = ⊎_elim (λ e. rw e (omega arith)) (λ e. rw e (omega arith)) p

block : {k : Kind} → (k ≡ All) ⊎ (k ≡ Exists) → (7 < number k) × (number k ≤ 9)
block p = ⊎_elim (λ e. rw e (omega arith, omega arith)) (λ e. rw e (omega arith, omega arith)) p

no_block : {k : Kind} → (k ≡ All → ⊥) → (k ≡ Exists → ⊥) → (number k ≤ 7) ⊎ (9 < number k)
no_block {k = All} a x = absurd (a refl)
no_block {k = Exists} a x = absurd (x refl)
no_block {k = Predicate} a x = inr (omega arith)
no_block {k = Function} a x = inr (omega arith)
no_block {k = Variable} a x = inr (omega arith)
no_block {k = Constant} a x = inr (omega arith)
no_block {k} a x = inl (omega arith)

-- What is due behind a word.
module _ (T M : Bytes) (w : ℕ) where
  pub after_due : (n : ℕ) → 0 < n → after n (token T M w) ≡ n - 1
  unfolding after
  after_due zero h = absurd (omega arith)
  after_due (suc n) h = omega arith

  -- where a line begins
  module _ (n : ℕ) (begins : n ≤ 0) where
    none_due : n ≡ 0
    none_due = omega arith

    after_no_block : (kind_of_word w ≤ 7) ⊎ (9 < kind_of_word w) → after n (token T M w) ≡ 0
    unfolding after
    after_no_block h =
        ⊎_elim
        (λ low. rw (none_due, kind_is T M w, le-leb (kind_of_word w) 7 low))
        (λ high. rw (none_due, kind_is T M w, lt-leb (kind_of_word w) 7 (omega arith), lt-leb (kind_of_word w) 9 high))
        h

    pub after_unknown : 13 < kind_of_word w → after n (token T M w) ≡ 0
    after_unknown h = after_no_block (inr (omega arith))

    module _ {k : Kind} (is : kind_of_word w ≡ number k) where
      pub after_block : (k ≡ All) ⊎ (k ≡ Exists) → after n (token T M w) ≡ count_of w
      unfolding after
      after_block p =
          let h = block p in
          rw (none_due, kind_is T M w, lt-leb (kind_of_word w) 7 (omega arith), le-leb (kind_of_word w) 9 (omega arith))
          (ap count (other_word T M w (omega arith)))

      pub after_other : (k ≡ All → ⊥) → (k ≡ Exists → ⊥) → after n (token T M w) ≡ 0
      after_other a x = after_no_block (rw is (no_block a x))

-- What a word writes.
module _ (s : Spellings) (w : ℕ) where
  -- a name of a table has at most 63 bytes
  pub short : length (name_in s w) ≤ 63
  short = omega (arith, length-take (size_of w) (drop (start_of w) (cond (is_made w) s.made.now s.text.now)))

  its_kind : kind (token s.text.now s.made.now w) ≡ kind_of_word w
  its_kind = kind_is s.text.now s.made.now w

  its_name : name (token s.text.now s.made.now w) ≡ name_in s w
  its_name = name_is s.text.now s.made.now w

  -- where variables are due
  pub body_due : (n : ℕ) → 0 < n → body_in s n w ≡ TAB ∷ name_in s w
  unfolding body
  body_due zero h = absurd (omega arith)
  body_due (suc n) h = ap (TAB ∷◌) its_name

  -- where a line begins
  module _ (n : ℕ) (begins : n ≤ 0) where
    begun : n ≡ 0
    begun = omega arith

    body_symbol : 11 < kind_of_word w → body_in s n w ≡ keyword_of (kind_of_word w) ++ (TAB ∷ name_in s w)
    unfolding body behind_each
    body_symbol h =
        rw (begun, its_kind, lt-leb (kind_of_word w) 9 (omega arith), lt-leb (kind_of_word w) 11 h, its_name, append-nil (name_in s w))

    pub body_unknown : 13 < kind_of_word w → body_in s n w ≡ TAB ∷ name_in s w
    unfolding keyword_of
    body_unknown h = body_symbol (omega arith) ∙ rw (get_or-eq_default keywords [] {n = kind_of_word w} h)

    module _ {k : Kind} {key : Bytes} (is : kind_of_word w ≡ number k) (key_is : key ≡ keyword_of (number k)) where
      pub body_plain : (k ≡ Predicate → ⊥) → (k ≡ Function → ⊥) → (k ≡ Variable → ⊥) → (k ≡ Constant → ⊥) → body_in s n w ≡ key
      unfolding body behind_each
      body_plain p f v c =
          let h = unnamed p f v c in
          rw (key_is, begun, its_kind, le-leb (kind_of_word w) 9 (omega arith), is) (append-nil (keyword_of (number k)))

      pub body_counted : (k ≡ Predicate) ⊎ (k ≡ Function) → body_in s n w ≡ key ++ ((TAB ∷ name_in s w) ++ (TAB ∷ decimal (count_of w)))
      unfolding body behind_each
      body_counted p =
          let h = counted p in
          let e = ap count (other_word s.text.now s.made.now w (omega arith)) in
          rw (key_is, begun, its_kind, lt-leb (kind_of_word w) 9 (omega arith), le-leb (kind_of_word w) 11 (omega arith))
          (rw (its_name, e, append-nil (decimal (count_of w)), is))

      pub body_named : (k ≡ Variable) ⊎ (k ≡ Constant) → body_in s n w ≡ key ++ (TAB ∷ name_in s w)
      body_named p = let h = named p in body_symbol (omega arith) ∙ rw (key_is, is)

-- The end of a line.
pub end_none : (n : ℕ) → 0 < n → end n ≡ []
unfolding end
end_none zero h = absurd (omega arith)
end_none (suc n) h = refl

pub end_line : (n : ℕ) → n ≡ 0 → end n ≡ LF ∷ []
unfolding end
end_line n e = rw e
