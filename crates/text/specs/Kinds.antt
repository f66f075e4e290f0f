-- Kinds and their numbers: a kind's number is its place in the order of Words.
use Rattle.std.specs.Prelude.{◌≡◌, ℕ, ◌<◌, Result, MatchResult}
use Rattle.text.specs.declared.kind.Kind.{Kind}
use Rattle.text.specs.declared.kind.Kind.TheVariants.{Top, Bottom, Not, And, Or, Implies, Iff, Equals, All, Exists, Predicate, Function, Variable, Constant}
use Rattle.text.specs.declared.kind.NoKind.{NoKind}

abbrev pub number : Kind → ℕ
number Top = 0
number Bottom = 1
number Not = 2
number And = 3
number Or = 4
number Implies = 5
number Iff = 6
number Equals = 7
number All = 8
number Exists = 9
number Predicate = 10
number Function = 11
number Variable = 12
number Constant = 13

-- the kind of a number, or that it is past them all
abbrev pub Numbered : ℕ → Result Kind NoKind → Type 0
Numbered n r = MatchResult r (λ kind. number kind ≡ n) (λ e. (e.0 ≡ n) × (13 < n))
