-- Two lists whose elements belong together one by one, the element at a place of a list, and what holds of all elements.
use Rattle.std.specs.Prelude.{List, [], ◌∷◌, ℕ, zero, suc}

pub data Each {A B : Type 0} (R : A → B → Type 0) : List A → List B → Type 0 where
  none : Each R [] []
  more : {x : A} {a : B} {l : List A} {m : List B} → R x a → Each R l m → Each R (x ∷ l) (a ∷ m)

pub data At {A : Type 0} : List A → ℕ → A → Type 0 where
  first : {a : A} {l : List A} → At (a ∷ l) zero a
  later : {a b : A} {l : List A} {n : ℕ} → At l n a → At (b ∷ l) (suc n) a

unfoldable pub All : {A : Type 0} → (A → Type 0) → List A → Type 0
All P [] = Unit {0}
All P (x ∷ l) = P x × All P l
