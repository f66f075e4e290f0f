-- A text and its pieces: joined again they are the text, and what has no separator inside is a piece of its own.
use Rattle.std.specs.Prelude.{◌≡◌, false, eqb}
use mathlib.Core.List.{List, [], ◌∷◌, ◌++◌}
use Prim.Native.Nat.{ℕ}
use Rattle.definitions.specs.Bytes.{Bytes, behind_each}

-- pieces with the byte between them
unfoldable pub joined : ℕ → List Bytes → Bytes
joined b [] = []
joined b (f ∷ l) = f ++ behind_each b l

-- a text without the byte b
abbrev pub Clear : ℕ → Bytes → Type 0
Clear b [] = Unit {0}
Clear b (x ∷ s) = (eqb x b ≡ false) × Clear b s

abbrev pub AllClear : ℕ → List Bytes → Type 0
AllClear b [] = Unit {0}
AllClear b (f ∷ l) = Clear b f × AllClear b l
