-- Terms one word at a time: behind a term's word stand its arguments, so the terms that are due after it are one fewer and its arguments
-- more.
use Rattle.std.specs.Prelude.{◌≡◌, refl, Bool, true, false, cond, ◌∷◌, ◌++◌, ℕ, ◌+◌, ◌<◌, eqb, length}
use Rattle.std.proofs.Common.{append_assoc, arith, ne_eqb}
use Rattle.definitions.specs.Bytes.{Bytes}
use Rattle.definitions.specs.Syntax.{var, con, app, Terms, nil, cons, count}
use Rattle.text.specs.Words.{Token, var_token, sign, token, spell, kind_of_word, count_of, behind, term_code, terms_code}

-- behind a function's word stand as many terms as its count says, behind any other term's none
pub behind_function : (T M : Bytes) (w : ℕ) → kind_of_word w ≡ 11 → count_of w ≡ behind (token T M w)
behind_function T M w e = rw e refl

pub behind_other : (T M : Bytes) (w : ℕ) → (kind_of_word w ≡ 11 → ⊥) → 0 ≡ behind (token T M w)
behind_other T M w h = go (eqb (kind_of_word w) 12)
  where
    go : (b : Bool) → 0 ≡ behind (cond b (var_token (spell T M w)) (sign (kind_of_word w) (count_of w) (spell T M w)))
    go true = refl
    go false = rw (ne_eqb (kind_of_word w) 11 h)

-- one list of terms before another
unfoldable pub join : Terms → Terms → Terms
join nil us = us
join (cons t ts) us = cons t (join ts us)

pub join_count : (ts us : Terms) → count (join ts us) ≡ count ts + count us
unfolding join count
join_count nil us = omega arith
join_count (cons t ts) us = omega (arith, join_count ts us)

pub join_code : (ts us : Terms) → terms_code (join ts us) ≡ terms_code ts ++ terms_code us
unfolding join terms_code
join_code nil us = refl
join_code (cons t ts) us = rw (join_code ts us, append_assoc)

-- the first token of some terms, and the terms that are due after it
pub record First (ts : Terms) : Type 0 where
  pub token : Token
  pub after : Terms
  pub split : terms_code ts ≡ token ∷ terms_code after
  pub due : count after + 1 ≡ count ts + behind token

unfoldable pub first : (ts : Terms) → 0 < count ts → First ts
unfolding count term_code terms_code
first nil h = absurd (omega arith)
first (cons (var x) ts) h = record { token = var_token x; after = ts; split = refl; due = omega arith }
first (cons (con c) ts) h = record { token = sign 13 0 c; after = ts; split = refl; due = omega arith }
first (cons (app f us) ts) h =
    record { token = sign 11 (count us) f; after = join us ts; split = rw join_code; due = omega (arith, join_count us ts) }

pub some_terms : (ts : Terms) → 0 < count ts → 0 < length (terms_code ts)
some_terms ts h = let f = first ts h in rw f.split (omega arith)

pub no_terms : (ts : Terms) → count ts ≡ 0 → ts ≡ nil
unfolding count
no_terms nil h = refl
no_terms (cons t ts) h = absurd (omega arith)
