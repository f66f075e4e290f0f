-- The two tables of a prenex form, its prefix and its matrix, and the made names.
-- Made names stand in slots of 25 bytes, one for each place of the prefix table: a variable's name, then backticks to the slot's end. A
-- variable that is renamed grows within its slot: nothing is written, and a name that fills the slot is over 24 bytes.
use Rattle.std.specs.Prelude.{true, List, ◌++◌, ◌≡◌, ℕ, ◌+◌, ◌*◌, ◌-◌, ◌≤◌, ◌<◌, length, get_or, replicate}
use Rattle.definitions.specs.Bytes.{Bytes}
use Rattle.definitions.specs.Syntax.{Name}
use Rattle.definitions.specs.Limits.{house}
use Rattle.text.specs.Words.{word_of, kind_of_word, size_of, start_of, is_made}

abbrev pub slot_size : ℕ
slot_size = 25

-- the word of a variable whose name has n bytes in the slot of place i
abbrev pub slot_word : ℕ → ℕ → ℕ
slot_word i n = word_of 12 0 1 n (slot_size * i)

-- what a slot holds
abbrev pub padded : Name → Bytes
padded x = x ++ replicate (slot_size - length x) 96

-- the word w is a variable in the slot of place i, with backticks behind its name
pub record Slot (M : Bytes) (i w : ℕ) : Type 0 where
  pub size : ℕ
  pub word : w ≡ slot_word i size
  pub short : size ≤ house.name
  pub ticks : (j : ℕ) → size ≤ j → j < slot_size → get_or M (slot_size * i + j) 0 ≡ 96

-- each variable of the first n places has its slot
abbrev pub Slots : Bytes → ℕ → List ℕ → Type 0
Slots M n P = (i : ℕ) → i < n → kind_of_word (get_or P i 0) ≡ 12 → Slot M i (get_or P i 0)

-- a made symbol's spelling lies in the first n bytes of the made names
abbrev pub Known : ℕ → ℕ → Type 0
Known n w = is_made w ≡ true → start_of w + size_of w ≤ n

abbrev pub AllKnown : ℕ → List ℕ → Type 0
AllKnown n W = (i : ℕ) → Known n (get_or W i 0)

-- The prefix P has n places in use, each variable there in its slot.
pub record Places (M : Bytes) (P : List ℕ) (n : ℕ) : Type 0 where
  pub room : slot_size * house.weight ≤ length M
  pub size : length P ≡ house.weight
  pub used : n ≤ house.weight
  pub slots : Slots M n P
  pub known : AllKnown (slot_size * n) P

-- and beside it stands the matrix W
pub record Ready (M : Bytes) (P : List ℕ) (n : ℕ) (W : List ℕ) : Type 0 where
  pub places : Places M P n
  pub matrix_size : length W ≡ house.weight
  pub matrix_known : AllKnown (slot_size * n) W
