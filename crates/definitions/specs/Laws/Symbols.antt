-- The truth value depends on the meaning of a formula's own symbols only. What a substitution brings in.
use Rattle.std.specs.Prelude.{◌≡◌, true, List}
use Rattle.definitions.specs.Syntax.{Name}
use Rattle.definitions.specs.Names.{mem}
use Rattle.definitions.specs.Truth.{Domain, Meaning}

-- two meanings that are alike on lists of constants and functions, and on all predicates
pub record Alike (D : Domain) (cs fs : List Name) (M N : Meaning D) : Type 0 where
  pub on_con : (n : Name) → mem n cs ≡ true → M.const n ≡ N.const n
  pub on_fun : (n : Name) → mem n fs ≡ true → M.func n ≡ N.func n
  pub on_rel : (n : Name) → M.rel n ≡ N.rel n
