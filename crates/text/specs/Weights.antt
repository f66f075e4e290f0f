-- A formula has as many words as it weighs.
use Rattle.std.specs.Prelude.{◌≡◌, refl, length}
use Rattle.std.proofs.Common.{arith, length-append}
use Rattle.std.proofs.lemmas.List.{length-map}
use Rattle.definitions.specs.Syntax.{Term, var, con, app, Terms, nil, cons, term_weight, terms_weight, Formula, top, bot, pred, eq, neg, bin, blk, weight}
use Rattle.text.specs.Words.{term_code, terms_code, code}

mutual
  unfolding term_code terms_code term_weight terms_weight

  pub term_words : (t : Term) → length (term_code t) ≡ term_weight t
  term_words (var x) = refl
  term_words (con c) = refl
  term_words (app f ts) = omega (arith, terms_words ts)

  pub terms_words : (ts : Terms) → length (terms_code ts) ≡ terms_weight ts
  terms_words nil = refl
  terms_words (cons t ts) = simp length-append (omega (arith, term_words t, terms_words ts))

pub words_weight : (f : Formula) → length (code f) ≡ weight f
unfolding code weight
words_weight top = refl
words_weight bot = refl
words_weight (pred p ts) = omega (arith, terms_words ts)
words_weight (eq t u) = simp length-append (omega (arith, term_words t, term_words u))
words_weight (neg f) = omega (arith, words_weight f)
words_weight (bin o f g) = simp length-append (omega (arith, words_weight f, words_weight g))
words_weight (blk q vs f) = simp (length-append, length-map) (omega (arith, words_weight f))
