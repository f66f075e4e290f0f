-- Bytes: texts are lists of numbers below 256. How a text is cut at a byte, how a number is written.
use Rattle.std.specs.Prelude.{Bool, true, false, ◌&&◌, cond, List, [], ◌∷◌, ◌++◌, ℕ, zero, suc, ◌+◌, ◌*◌, ◌-◌, ◌/◌, ◌%◌, eqb, ltb}
use Rattle.std.proofs.Math.Option.{Option, none, some}

abbrev pub Bytes : Type 0
Bytes = List ℕ

-- tab and line feed
abbrev pub TAB : ℕ
TAB = 9

abbrev pub LF : ℕ
LF = 10

-- two texts are one
unfoldable pub same : Bytes → Bytes → Bool
same [] [] = true
same [] (b ∷ y) = false
same (a ∷ x) [] = false
same (a ∷ x) (b ∷ y) = eqb a b && same x y

abbrev pub null {ℓ} : {A : Type ℓ} → List A → Bool
null [] = true
null (x ∷ l) = false

-- the pieces of a text between the bytes b: one more than there are bytes b
abbrev pub onto : ℕ → List Bytes → List Bytes
onto x [] = (x ∷ []) ∷ []
onto x (p ∷ ps) = (x ∷ p) ∷ ps

unfoldable pub split : ℕ → Bytes → List Bytes
split b [] = [] ∷ []
split b (x ∷ s) = cond (eqb x b) ([] ∷ split b s) (onto x (split b s))

-- pieces, each behind a byte b
unfoldable pub behind_each : ℕ → List Bytes → Bytes
behind_each b [] = []
behind_each b (f ∷ l) = b ∷ (f ++ behind_each b l)

-- whether a text begins with another
unfoldable pub begins : Bytes → Bytes → Bool
begins [] s = true
begins (a ∷ w) [] = false
begins (a ∷ w) (b ∷ s) = eqb a b && begins w s

-- what is left behind the leading bytes of a set
unfoldable pub skip : (ℕ → Bool) → Bytes → Bytes
skip p [] = []
skip p (x ∷ s) = cond (p x) (skip p s) (x ∷ s)

-- a number in decimal digits; the first argument only bounds how many there are
unfoldable pub digits : ℕ → ℕ → Bytes
digits zero n = []
digits (suc k) n = let r = digits k (n / 10) ++ ((48 + n % 10) ∷ []) in cond (ltb n 10) ((48 + n) ∷ []) r

unfoldable pub decimal : ℕ → Bytes
decimal n = digits (suc n) n

-- the number that digits write, and the number that a text writes: it is that number's own decimal text, or it writes none
unfoldable pub value : ℕ → Bytes → ℕ
value v [] = v
value v (d ∷ s) = value (v * 10 + (d - 48)) s

unfoldable pub number : Bytes → Option ℕ
number s = cond (same (decimal (value 0 s)) s) (some (value 0 s)) none
