-- Finite nonempty structures, and the truth of a formula in one under an assignment, as a Boolean that is computed.
use Rattle.std.specs.Prelude.{◌≡◌, Bool, true, false, not, ◌&&◌, ◌||◌, cond}
use Rattle.std.specs.Bool.{beq}
use mathlib.Core.List.{List, [], ◌∷◌, Memᴰ}
use Rattle.definitions.specs.Bytes.{same}
use Rattle.definitions.specs.Syntax.{Name, Term, var, con, app, Terms, nil, cons, Op, and, or, imp, iff, Quant, all, ex, Formula, top, bot, pred, eq, neg, bin, blk}

-- A finite set that is not empty: all its elements in a list, one of them, and the test for equality.
pub record Domain : Type 1 where
  pub Elem : Type 0
  pub elems : List Elem
  pub whole : (d : Elem) → Memᴰ d elems
  pub point : Elem
  pub equal : Elem → Elem → Bool
  pub equal_refl : (d : Elem) → equal d d ≡ true
  pub equal_eq : (d e : Elem) → equal d e ≡ true → d ≡ e

-- What the symbols mean. A symbol is told apart by its kind, its name and, by the list's length, its number of arguments.
pub record Meaning (D : Domain) : Type 0 where
  pub const : Name → D.Elem
  pub func : Name → List D.Elem → D.Elem
  pub rel : Name → List D.Elem → Bool

abbrev pub Assign : Domain → Type 0
Assign D = Name → D.Elem

abbrev pub set : (D : Domain) → Assign D → Name → D.Elem → Assign D
set D ρ x d = λ y. cond (same y x) d (ρ y)

unfoldable pub every : {A : Type 0} → (A → Bool) → List A → Bool
every p [] = true
every p (a ∷ l) = p a && every p l

unfoldable pub any : {A : Type 0} → (A → Bool) → List A → Bool
any p [] = false
any p (a ∷ l) = p a || any p l

abbrev pub over : {A : Type 0} → Quant → (A → Bool) → List A → Bool
over all p l = every p l
over ex p l = any p l

-- a block of variables: the first is the outermost
unfoldable pub block : (D : Domain) → Quant → List Name → (Assign D → Bool) → Assign D → Bool
block D q [] k ρ = k ρ
block D q (x ∷ vs) k ρ = over q (λ d. block D q vs k (set D ρ x d)) D.elems

abbrev pub join : Op → Bool → Bool → Bool
join and a b = a && b
join or a b = a || b
join imp a b = not a || b
join iff a b = beq a b

module _ (D : Domain) (M : Meaning D) (ρ : Assign D) where
  unfoldable mutual
    pub val : Term → D.Elem
    val (var x) = ρ x
    val (con c) = M.const c
    val (app f ts) = M.func f (vals ts)

    pub vals : Terms → List D.Elem
    vals nil = []
    vals (cons t ts) = val t ∷ vals ts

module _ (D : Domain) (M : Meaning D) where
  unfoldable pub truth : Formula → Assign D → Bool
  truth top ρ = true
  truth bot ρ = false
  truth (pred p ts) ρ = M.rel p (vals D M ρ ts)
  truth (eq t u) ρ = D.equal (val D M ρ t) (val D M ρ u)
  truth (neg f) ρ = not (truth f ρ)
  truth (bin o f g) ρ = join o (truth f ρ) (truth g ρ)
  truth (blk q vs f) ρ = block D q vs (truth f) ρ
