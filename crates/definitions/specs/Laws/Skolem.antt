-- Some meaning for the symbols that are drawn, the rest unchanged, makes the Skolem form as true as the prenex form, at every assignment
-- at once; and whatever they mean, the Skolem form implies the prenex form.
use Rattle.std.specs.Prelude.{◌≡◌, true, false, List, ℕ}
use Rattle.definitions.specs.Syntax.{Formula, Name}
use Rattle.definitions.specs.Names.{constants, functions, mem, syms}
use Rattle.definitions.specs.Skolem.{Symbol, among, constant_symbol, function_symbol}

-- The symbols drawn are new: none of them is a symbol of a formula that has none from the counts on.
pub record FreshFor (f : Formula) (l : List Symbol) : Type 0 where
  pub constant : (n : Name) → among (constant_symbol n) l ≡ true → mem n (syms constants f) ≡ false
  pub function : (n : Name) (m : ℕ) → among (function_symbol n m) l ≡ true → mem n (syms functions f) ≡ false
