-- Terms copied, one word after another. And a block's variables are terms.
use Rattle.std.specs.Prelude.{◌≡◌, refl, ℕ, ◌+◌, ◌-◌, ◌*◌, ◌<◌, ◌≤◌, List, [], ◌∷◌, ◌++◌, map, length, max, Ok, IsErr}
use Rattle.std.specs.Borrow.{Bor}
use Rattle.std.proofs.Common.{ap, ◌∙◌, arith, append-nil}
use Rattle.definitions.specs.Bytes.{Bytes}
use Rattle.definitions.specs.Limits.{house}
use Rattle.definitions.specs.Syntax.{Name, Term, var, Terms, nil, cons, count}
use Rattle.text.specs.declared.table.Table.{Table}
use Rattle.text.specs.Tables.{words_of, pushed}
use Rattle.text.specs.Words.{Token, var_token, token, behind, term_code, terms_code, sides}
use Rattle.text.specs.Shapes.{sides_code}
use Rattle.text.specs.Arguments.{first, some_terms, no_terms}
use Rattle.negation.specs.Runs.{Rest, Added, Runs}
use Rattle.negation.proofs.RunLaws.{written, no_room, reads, nothing_left}

-- a run that copies whatever terms are due
pub record Copying (d : ℕ → Token) (S : List ℕ) (due : ℕ) (t : Table) (r : Rest) (t' : Table) : Type 0 where
  pub terms : (ts : Terms) → count ts ≡ due → Runs d S t r t' (terms_code ts) (terms_code ts)

module _ {d : ℕ → Token} {S : List ℕ} {due : ℕ} {t : Table} where
  -- a word is copied, and the terms that are due behind it; or it finds no room
  pub copy_on : {w : ℕ} {q : List ℕ} {t₁ : Table} {r : Rest} {t₂ : Table} → S ≡ w ∷ q → 0 < due → (t.used < house.weight) × (t₁ ≡ pushed t w) × (words_of t₁ ≡ words_of t ++ (w ∷ []))
      → Copying d q (due - 1 + behind (d w)) t₁ r t₂ → Copying d S due t r t₂
  copy_on y h p u =
      record {
        terms = λ ts c. let f = first ts (omega arith) in
            rw f.split (reads y (λ e. rw e at (written p (u.terms f.after (omega (arith, f.due, ap behind e))))));
      }

  pub no_copy : {r : Rest} {t₁ : Table} → 0 < due → house.weight ≤ t.used → IsErr r → Copying d S due t r t₁
  no_copy h f z = record { terms = λ ts c. let g = first ts (omega arith) in rw g.split (no_room f z) }

  -- the words end before the terms do
  pub words_end : {r : Rest} {t₁ : Table} → length S ≡ 0 → 0 < due → Copying d S due t r t₁
  words_end e h = record { terms = λ ts c. nothing_left e (some_terms ts (omega arith)) }

-- no term is due
pub none_due : {d : ℕ → Token} {q : Bor (List ℕ)} {due : ℕ} {t : Table} → due ≡ 0 → Copying d q.now due t (Ok q) t
unfolding terms_code
none_due {d} z =
    let e : (t : Table) → Added d t t [] = λ t. record { used = omega arith; words = λ l. (l, rw append-nil) } in
    record { terms = λ ts c. rw (no_terms ts (c ∙ z)) (record { ends = λ rest x. (x, e _) }) }

-- the loop over terms: who copies what is left copies all
pub record Looping (S : List ℕ) (due : ℕ) (t : Table) (q : List ℕ) (left : ℕ) (t' : Table) : Type 0 where
  pub forth : length q ≤ length S
  pub room : t'.used ≤ max t.used house.weight
  pub size : length t'.nodes ≡ length t.nodes
  pub few : left ≤ 64 * (t'.used + 1)
  pub on : (T M : Bytes) (r : Rest) (t₂ : Table) → Copying (token T M) q left t' r t₂ → Copying (token T M) S due t r t₂

-- no terms, an equation's sides, and a block's variables are terms too: what runs over terms runs over them
variable_terms : (vs : List Name) → (ts : Terms) × (terms_code ts ≡ map var_token vs) × (count ts ≡ length vs)
unfolding term_code terms_code count
variable_terms [] = (nil, refl, refl)
variable_terms (v ∷ vs) = let r = variable_terms vs in (cons (var v) r.0, ap (λ (ks : List Token). var_token v ∷ ks) r.1, omega (arith, r.2))

module _ {d : ℕ → Token} {S : List ℕ} {t : Table} {r : Rest} {t₁ : Table} (G : List Token → List Token) where
  pub over_none : ((ts : Terms) → count ts ≡ 0 → Runs d S t r t₁ (terms_code ts) (G (terms_code ts))) → Runs d S t r t₁ [] (G [])
  unfolding count terms_code
  over_none h = h nil refl

  pub over_sides : (a b : Term) → ((ts : Terms) → count ts ≡ 2 → Runs d S t r t₁ (terms_code ts) (G (terms_code ts)))
      → Runs d S t r t₁ (terms_code (sides a b)) (G (term_code a ++ term_code b))
  unfolding count
  over_sides a b h = rw (← (sides_code a b)) (h (sides a b) refl)

  pub over_variables : (vs : List Name) (n : ℕ) → length vs ≡ n → ((ts : Terms) → count ts ≡ n → Runs d S t r t₁ (terms_code ts) (G (terms_code ts)))
      → Runs d S t r t₁ (map var_token vs) (G (map var_token vs))
  over_variables vs n l h = let e = variable_terms vs in rw e.1 at (h e.0 (e.2 ∙ l))
