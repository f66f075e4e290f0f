-- What a table keeps while words are put behind those it has, and where its words come from.
use Rattle.std.specs.Prelude.{◌≡◌, refl, false, List, [], ◌∷◌, ◌++◌, ℕ, zero, suc, ◌+◌, get_or, set, take, drop}
use Rattle.std.proofs.Common.{◌∙◌, arith, length-set}
use Rattle.std.proofs.lemmas.List.{take-set-le}
use Rattle.text.specs.Words.{is_made}
use Rattle.substitution.specs.Runs.{Unmade, Keeps}
use Rattle.substitution.specs.Slices.{kept_twice}

pub unmade_set : {O : List ℕ} → Unmade O → (i w : ℕ) → is_made w ≡ false → Unmade (set O i w)
unmade_set {O} u i w e = record { each = go O i u.each }
  where
    go : (l : List ℕ) (i : ℕ) → ((j : ℕ) → is_made (get_or l j 0) ≡ false) → (j : ℕ) → is_made (get_or (set l i w) j 0) ≡ false
    go [] i h j = h j
    go (x ∷ xs) zero h zero = e
    go (x ∷ xs) zero h (suc j) = h (suc j)
    go (x ∷ xs) (suc i) h zero = h zero
    go (x ∷ xs) (suc i) h (suc j) = go xs i (λ n. h (suc n)) j

pub unmade_word : {w : ℕ} → is_made w ≡ false → Unmade (w ∷ [])
unmade_word {w} e = record { each = go }
  where
    go : (j : ℕ) → is_made (get_or (w ∷ []) j 0) ≡ false
    go zero = e
    go (suc j) = refl

pub unmade_none : Unmade []
unmade_none = record { each = λ i. refl }

pub keeps_all : {S O : List ℕ} {used : ℕ} → Keeps S O used O used
keeps_all = record { size = refl; kept = refl; more = omega arith; origin = λ s u. u }

-- a word is put behind the others
pub keeps_put : {O : List ℕ} {used w : ℕ} → Keeps (w ∷ []) O used (set O used w) (used + 1)
keeps_put {O} {used} {w} =
    record { size = length-set O used w; kept = take-set-le used O used w (omega arith); more = omega arith; origin = λ s u. unmade_set u used w (s.each zero) }

-- one after another
pub keeps_on : {S O : List ℕ} {u : ℕ} {O₁ : List ℕ} {u₁ : ℕ} {O₂ : List ℕ} {u₂ : ℕ} → Keeps S O u O₁ u₁ → Keeps S O₁ u₁ O₂ u₂ → Keeps S O u O₂ u₂
keeps_on {S} {O} {u} {O₁} {u₁} {O₂} {u₂} a b =
    record { size = b.size ∙ a.size; kept = kept_twice u u₁ O O₁ O₂ a.more b.kept a.kept; more = omega arith; origin = λ s o. b.origin s (a.origin s o) }

-- a word of the source
pub keeps_word : {S O : List ℕ} {u : ℕ} {O₁ : List ℕ} {u₁ : ℕ} (i : ℕ) → Keeps (get_or S i 0 ∷ []) O u O₁ u₁ → Keeps S O u O₁ u₁
keeps_word i k = record { size = k.size; kept = k.kept; more = k.more; origin = λ s o. k.origin (unmade_word (s.each i)) o }

-- a word of the table itself
pub keeps_own : {S O : List ℕ} {u : ℕ} {O₁ : List ℕ} {u₁ : ℕ} (i : ℕ) → Keeps (get_or O i 0 ∷ []) O u O₁ u₁ → Keeps S O u O₁ u₁
keeps_own i k = record { size = k.size; kept = k.kept; more = k.more; origin = λ s o. k.origin (unmade_word (o.each i)) o }

-- a part of the source
pub unmade_take : (n : ℕ) (ws : List ℕ) → Unmade ws → Unmade (take n ws)
unmade_take n ws u = record { each = go n ws u.each }
  where
    go : (n : ℕ) (l : List ℕ) → ((i : ℕ) → is_made (get_or l i 0) ≡ false) → (i : ℕ) → is_made (get_or (take n l) i 0) ≡ false
    go zero l h i = refl
    go (suc n) [] h i = refl
    go (suc n) (x ∷ xs) h zero = h zero
    go (suc n) (x ∷ xs) h (suc i) = go n xs (λ j. h (suc j)) i

pub unmade_drop : (n : ℕ) (ws : List ℕ) → Unmade ws → Unmade (drop n ws)
unmade_drop n ws u = record { each = go n ws u.each }
  where
    go : (n : ℕ) (l : List ℕ) → ((i : ℕ) → is_made (get_or l i 0) ≡ false) → (i : ℕ) → is_made (get_or (drop n l) i 0) ≡ false
    go zero l h i = h i
    go (suc n) [] h i = refl
    go (suc n) (x ∷ xs) h i = go n xs (λ j. h (suc j)) i

pub unmade_append : (a b : List ℕ) → Unmade a → Unmade b → Unmade (a ++ b)
unmade_append a b u v = record { each = go a u.each }
  where
    go : (l : List ℕ) → ((i : ℕ) → is_made (get_or l i 0) ≡ false) → (i : ℕ) → is_made (get_or (l ++ b) i 0) ≡ false
    go [] h i = v.each i
    go (x ∷ xs) h zero = h zero
    go (x ∷ xs) h (suc i) = go xs (λ j. h (suc j)) i
