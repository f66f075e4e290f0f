-- What a word stands for, by its kind, and what its fields are, by what it stands for. And mapping goes through parts of a list.
use Rattle.std.specs.Prelude.{◌≡◌, refl, Bool, true, false, cond, List, [], ◌∷◌, map, ℕ, zero, suc, eqb, take, drop}
use Rattle.std.proofs.Common.{sym, ap, arith, eqb-true, eq-eqb, ne_eqb}
use Rattle.definitions.specs.Bytes.{Bytes}
use Rattle.definitions.specs.Syntax.{Name}
use Rattle.definitions.proofs.Laws.Bools.{by_cases}
use Rattle.text.specs.Words.{var_token, sign, token, spell, kind_of_word, count_of, kind, name}

module _ (T M : Bytes) (w : ℕ) where
  pub variable_word : kind_of_word w ≡ 12 → token T M w ≡ var_token (spell T M w)
  variable_word e = rw (eq-eqb (kind_of_word w) 12 e)

  pub other_word : (kind_of_word w ≡ 12 → ⊥) → token T M w ≡ sign (kind_of_word w) (count_of w) (spell T M w)
  other_word h = rw (ne_eqb (kind_of_word w) 12 h)

  pub kind_is : kind (token T M w) ≡ kind_of_word w
  kind_is = by_cases (eqb (kind_of_word w) 12) (λ t. rw t (sym (eqb-true (kind_of_word w) 12 t))) (λ f. rw f)

  pub name_is : name (token T M w) ≡ spell T M w
  name_is = by_cases (eqb (kind_of_word w) 12) (λ t. rw t) (λ f. rw f)

  pub sign_word : {k n : ℕ} {s : Name} → token T M w ≡ sign k n s → (kind_of_word w ≡ k) × (count_of w ≡ n)
  sign_word {k} {n} {s} e = go (eqb (kind_of_word w) 12) e
    where
      go : (b : Bool) → cond b (var_token (spell T M w)) (sign (kind_of_word w) (count_of w) (spell T M w)) ≡ sign k n s
          → (kind_of_word w ≡ k) × (count_of w ≡ n)
      go true e = absurd (let z : ◌≡◌ {A = ℕ} 0 1 = cc in omega arith)
      go false e = (cc, cc)

  pub variable_spelled : {x : Name} → token T M w ≡ var_token x → (kind_of_word w ≡ 12) × (spell T M w ≡ x)
  variable_spelled {x} e = go (eqb (kind_of_word w) 12) refl e
    where
      go : (b : Bool) → eqb (kind_of_word w) 12 ≡ b → cond b (var_token (spell T M w)) (sign (kind_of_word w) (count_of w) (spell T M w)) ≡ var_token x
          → (kind_of_word w ≡ 12) × (spell T M w ≡ x)
      go true t e = (eqb-true (kind_of_word w) 12 t, cc)
      go false t e = absurd (let z : ◌≡◌ {A = ℕ} 0 1 = cc in omega arith)

module _ {A B : Type 0} (f : A → B) where
  pub map_take : (n : ℕ) (l : List A) → map f (take n l) ≡ take n (map f l)
  map_take zero l = refl
  map_take (suc n) [] = refl
  map_take (suc n) (a ∷ l) = ap (f a ∷◌) (map_take n l)

  pub map_drop : (n : ℕ) (l : List A) → map f (drop n l) ≡ drop n (map f l)
  map_drop zero l = refl
  map_drop (suc n) [] = refl
  map_drop (suc n) (a ∷ l) = map_drop n l
