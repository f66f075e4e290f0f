-- The kinds that share an arm of a match, as ranges of numbers.
use mathlib.Core.Path.{◌≡◌, ap}
use mathlib.Core.Logic.{◌⊎◌, inl, inr}
use Prim.Native.Nat.{ℕ, ◌≤◌, ◌<◌}
use native.Mathlib.Omega.{arith}
use Rattle.text.specs.Kinds.{number}
use Rattle.text.specs.declared.kind.Kind.{Kind}
use Rattle.text.specs.declared.kind.Kind.TheVariants.{Top, Bottom, And, Or, Implies, All, Exists, Function, Variable, Constant}

module _ {w : ℕ} {k : Kind} (e : w ≡ number k) where
  pub constant : (k ≡ Top) ⊎ (k ≡ Bottom) → w ≤ 1
  constant (inl i) = omega (arith, ap number i)
  constant (inr i) = omega (arith, ap number i)

  pub binary : (k ≡ And) ⊎ ((k ≡ Or) ⊎ (k ≡ Implies)) → (2 < w) × (w ≤ 5)
  binary (inl i) = let z = ap number i in (omega arith, omega arith)
  binary (inr (inl i)) = let z = ap number i in (omega arith, omega arith)
  binary (inr (inr i)) = let z = ap number i in (omega arith, omega arith)

  pub either : (k ≡ And) ⊎ (k ≡ Or) → (2 < w) × (w ≤ 6)
  either (inl i) = let z = ap number i in (omega arith, omega arith)
  either (inr i) = let z = ap number i in (omega arith, omega arith)

  pub quantifier : (k ≡ All) ⊎ (k ≡ Exists) → (7 < w) × (w ≤ 9)
  quantifier (inl i) = let z = ap number i in (omega arith, omega arith)
  quantifier (inr i) = let z = ap number i in (omega arith, omega arith)

  pub term : (k ≡ Function) ⊎ ((k ≡ Variable) ⊎ (k ≡ Constant)) → 10 < w
  term (inl i) = omega (arith, ap number i)
  term (inr (inl i)) = omega (arith, ap number i)
  term (inr (inr i)) = omega (arith, ap number i)
