-- One exists block: some meaning for the symbols that it draws, the rest unchanged, makes its body with the new terms put in as true as the
-- block, at every assignment at once. And what putting them in does to symbols and variables.
use Rattle.std.specs.Prelude.{◌≡◌, false, ℕ, ◌≤◌}
use mathlib.Core.List.{List}
use Rattle.definitions.specs.Bytes.{same}
use Rattle.definitions.specs.Syntax.{Formula, Name}
use Rattle.definitions.specs.Names.{constants, functions, mem, syms}
use Rattle.definitions.specs.Prenex.{Subst}
use Rattle.definitions.specs.Skolem.{Counts, Symbol, among, constant_name, constant_symbol, first_number, function_name, function_symbol, put, skolem_term}

-- no symbol of the formula is one that may be drawn from the counts on
unfoldable pub New : Counts → Formula → Type 0
New k g =
    ((j : ℕ) → k.constant ≤ j → mem (constant_name j) (syms constants g) ≡ false) × ((j : ℕ) → k.function ≤ j → mem (function_name j) (syms functions g) ≡ false)

-- symbols with numbers from the counts on only
pub record High (k : Counts) (l : List Symbol) : Type 0 where
  pub on_con : (n : Name) → ((j : ℕ) → k.constant ≤ j → same n (constant_name j) ≡ false) → among (constant_symbol n) l ≡ false
  pub on_fun : (n : Name) (m : ℕ) → ((j : ℕ) → k.function ≤ j → same n (function_name j) ≡ false) → among (function_symbol n m) l ≡ false

-- what an exists block puts in for its variables
abbrev pub block_put : List Name → List Name → Counts → Subst
block_put vs args k = put vs (skolem_term args) (first_number args k)

-- the counts rise
pub record Rises (k k' : Counts) : Type 0 where
  pub constant : k.constant ≤ k'.constant
  pub function : k.function ≤ k'.function
