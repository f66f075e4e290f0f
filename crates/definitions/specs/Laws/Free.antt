-- The truth value of a formula depends on the values of its free variables only.
use Rattle.std.specs.Prelude.{◌≡◌, Bool, true, cond, List}
use Rattle.definitions.specs.Syntax.{Name}
use Rattle.definitions.specs.Names.{mem}
use Rattle.definitions.specs.Truth.{Assign, Domain}

abbrev pub Agree : (D : Domain) → List Name → Assign D → Assign D → Type 0
Agree D l ρ σ = (x : Name) → mem x l ≡ true → ρ x ≡ σ x

-- what reads only the variables of a list
abbrev pub Reads : (D : Domain) → List Name → (Assign D → Bool) → Type 0
Reads D l k = (ρ σ : Assign D) → Agree D l ρ σ → k ρ ≡ k σ

abbrev pub mix : (D : Domain) → List Name → Assign D → Assign D → Assign D
mix D vs σ ρ = λ x. cond (mem x vs) (σ x) (ρ x)
