-- What putting terms in for variables does to the truth value, where nothing is captured.
use Rattle.std.specs.Prelude.{◌≡◌, true, List}
use Rattle.definitions.specs.Syntax.{Name, var}
use Rattle.definitions.specs.Names.{mem, term_vars}
use Rattle.definitions.specs.Prenex.{Subst}

-- no variable of a term that is put in is one of the list
abbrev pub Clear : Subst → List Name → Type 0
Clear s l = (x y : Name) → mem y (term_vars (s x)) ≡ true → mem y l ≡ true → s x ≡ var x
