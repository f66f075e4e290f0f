-- Words and the names that they spell: variables, and a part of them.
use Rattle.std.specs.Prelude.{◌≡◌, refl, Bool, List, [], ◌∷◌, ◌++◌, map, ℕ, length, take, drop}
use Rattle.std.proofs.Common.{ap, ap₂, ◌∙◌, arith, take_at, drop_at}
use Rattle.definitions.specs.Bytes.{Bytes}
use Rattle.definitions.specs.Syntax.{Name}
use Rattle.definitions.specs.Names.{filter}
use Rattle.definitions.proofs.Laws.Bools.{by_cases}
use Rattle.text.specs.Words.{Token, var_token, token, tokens, spell}
use Rattle.text.specs.WordLaws.{variable_spelled, map_take, map_drop}
use Rattle.substitution.specs.Runs.{spells, those}

module _ (T M : Bytes) where
  -- words that begin as n tokens do, cut behind them
  pub tokens_cut : (ws : List ℕ) (i : List Token) {rest : List Token} (n : ℕ) → length i ≡ n → tokens T M ws ≡ i ++ rest
      → (tokens T M (take n ws) ≡ i) × (tokens T M (drop n ws) ≡ rest)
  tokens_cut ws i {rest} n e x = (
    map_take (token T M) n ws ∙ ap (take n) x ∙ take_at i rest n e,
    map_drop (token T M) n ws ∙ ap (drop n) x ∙ drop_at i rest n e,
  )

  -- the names of variables
  pub vars_spelled : (ws : List ℕ) (l : List Name) → tokens T M ws ≡ map var_token l → spells T M ws ≡ l
  vars_spelled [] [] e = refl
  vars_spelled [] (x ∷ l) e = absurd (let z : ◌≡◌ {A = ℕ} 0 1 = cc in omega arith)
  vars_spelled (w ∷ ws) [] e = absurd (let z : ◌≡◌ {A = ℕ} 0 1 = cc in omega arith)
  vars_spelled (w ∷ ws) (x ∷ l) e = ap₂ (◌∷◌) (variable_spelled T M w (cc)).1 (vars_spelled ws l (cc))

  -- the variables whose name passes a test
  pub those_spelled : (q : Name → Bool) (ws : List ℕ) (l : List Name) → tokens T M ws ≡ map var_token l → tokens T M (those (λ w. q (spell T M w)) ws) ≡ map var_token (filter q l)
  unfolding those filter
  those_spelled q [] [] e = refl
  those_spelled q [] (x ∷ l) e = absurd (let z : ◌≡◌ {A = ℕ} 0 1 = cc in omega arith)
  those_spelled q (w ∷ ws) [] e = absurd (let z : ◌≡◌ {A = ℕ} 0 1 = cc in omega arith)
  those_spelled q (w ∷ ws) (x ∷ l) e =
      let v : token T M w ≡ var_token x = cc in
      let s = (variable_spelled T M w v).1 in
      let r = those_spelled q ws l (cc) in
      by_cases (q x)
      (λ t. rw (s, t) (ap₂ (◌∷◌) v r))
      (λ f. rw (s, f) r)
