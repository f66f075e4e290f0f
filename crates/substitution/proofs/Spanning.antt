-- How far terms reach, one word after another: behind each word, terms are due that take the words of the first terms that are left.
use Rattle.std.specs.Prelude.{◌≡◌, refl, List, ◌++◌, ℕ, ◌+◌, ◌-◌, ◌<◌, ◌≤◌, length, drop, get_or}
use Rattle.std.proofs.Common.{ap, ◌∙◌, arith, length-append, length-drop, drop_of_length-le}
use Rattle.std.proofs.lemmas.List.{length-map}
use Rattle.definitions.specs.Bytes.{Bytes}
use Rattle.definitions.specs.Syntax.{Terms, var, con, app, nil, cons, count}
use Rattle.text.specs.Words.{Token, token, tokens, behind, term_code, terms_code}
use Rattle.text.specs.Arguments.{first, no_terms}
use Rattle.text.specs.Streams.{behind_word}
use Rattle.substitution.specs.Runs.{Spans}

-- of the terms ts, these are left at `read`
pub record Left (T M : Bytes) (S : List ℕ) (ts : Terms) (rest : List Token) (left read : ℕ) : Type 0 where
  pub after : Terms
  pub due : count after ≡ left
  pub split : tokens T M (drop read S) ≡ terms_code after ++ rest
  pub place : read + length (terms_code after) ≡ length (terms_code ts)

-- the loop: whatever terms were due, some are left
pub record Spanning (S : List ℕ) (due left read : ℕ) : Type 0 where
  pub terms : (T M : Bytes) (ts : Terms) (rest : List Token) → count ts ≡ due → tokens T M S ≡ terms_code ts ++ rest → Left T M S ts rest left read

-- each term has a word
some_words : (ts : Terms) → count ts ≤ length (terms_code ts)
unfolding count term_code terms_code
some_words nil = omega arith
some_words (cons (var x) ts) = omega (arith, some_words ts)
some_words (cons (con c) ts) = omega (arith, some_words ts)
some_words (cons (app f us) ts) = simp length-append (omega (arith, some_words ts))

module _ {S : List ℕ} {due : ℕ} where
  pub spanning_starts : Spanning S due due 0
  spanning_starts = record { terms = λ T M ts rest n e. record { after = ts; due = n; split = e; place = omega arith } }

  module _ {left read : ℕ} (s : Spanning S due left read) where
    pub spanning_on : (n : ℕ) → read < length S → 0 < left → ((T M : Bytes) → n ≡ behind (token T M (get_or S read 0))) → Spanning S due (left - 1 + n) (read + 1)
    spanning_on n h z k =
        record {
          terms = λ T M ts rest d e.
              let l = s.terms T M ts rest d e in
              let f = first l.after (omega (arith, l.due)) in
              let y = behind_word T M S read h (l.split ∙ ap (λ (c : List Token). c ++ rest) f.split) in
              record {
                after = f.after;
                due = omega (arith, f.due, l.due, k T M, ap behind y.0);
                split = y.1;
                place = omega (arith, l.place, ap length f.split);
              };
        }

    pub spans_some : read ≤ length S → left ≡ 0 → Spans S due read
    unfolding terms_code
    spans_some h z =
        record {
          inside = h;
          whole = λ T M ts rest d e.
              let l = s.terms T M ts rest d e in
              let none : length (terms_code l.after) ≡ 0 = rw (no_terms l.after (l.due ∙ z)) refl in
              omega (arith, l.place);
        }

    -- more terms are due than words are there
    pub spans_all : read ≤ length S → length S - read < left → Spans S due (length S)
    spans_all i h =
        record {
          inside = omega arith;
          whole = λ T M ts rest d e.
              let l = s.terms T M ts rest d e in
              absurd (omega (arith, l.due, some_words l.after, simp (length-map, length-append, length-drop) at (ap length l.split)));
        }

    pub spans_whole : read ≡ length S → Spans S due (length S)
    spans_whole h =
        record {
          inside = omega arith;
          whole = λ T M ts rest d e.
              let l = s.terms T M ts rest d e in
              let none : length (terms_code l.after) ≡ 0 = omega (arith, simp (drop_of_length-le S {i = read} (omega arith), length-append) at (ap length l.split)) in
              omega (arith, l.place);
        }
