-- Document 01's starred pairs, as one list under a single statement, from rule text to result text.
use Rattle.std.specs.Prelude.{◌≡◌, List, [], ◌∷◌, ℕ}
use Prim.Native.Nat.{Ordering}
use Rattle.definitions.specs.Syntax.{Formula, Name, Term, Terms, all, and, app, bin, blk, bot, con, cons, ex, iff, imp, neg, nil, or, pred, top, var}
use Rattle.definitions.specs.Limits.{house}
use Rattle.definitions.specs.RuleText.{written}
use Rattle.definitions.specs.Prenex.{ticked}
use Rattle.definitions.specs.Skolem.{constant_name, function_name}
use Rattle.definitions.specs.Order.{Clause, Literal, cmp_atom, cmp_name, cmp_term, opp, pos, rel, same_as}
use Rattle.definitions.specs.Clauses.{listing}
use Rattle.definitions.specs.Convert.{Conversion, convert, given, pnf_to_snf, to_cnf, to_dnf, to_nnf, to_pnf, to_snf}

abbrev pub x : Name
x = 120 ∷ []

abbrev pub y : Name
y = 121 ∷ []

abbrev pub z : Name
z = 122 ∷ []

abbrev pub x` : Name
x` = ticked x

abbrev pub y` : Name
y` = ticked y

abbrev pub x`` : Name
x`` = ticked x`

abbrev pub P : Terms → Formula
P ts = pred (80 ∷ []) ts

abbrev pub Q : Terms → Formula
Q ts = pred (81 ∷ []) ts

abbrev pub R : Terms → Formula
R ts = pred (82 ∷ []) ts

abbrev pub one : Term → Terms
one a = cons a nil

abbrev pub two : Term → Term → Terms
two a b = cons a (cons b nil)

abbrev pub c# : ℕ → Term
c# k = con (constant_name k)

abbrev pub P⁺ : Literal
P⁺ = pos (rel (80 ∷ []) (one (var x)))

abbrev pub P⁻ : Literal
P⁻ = opp (rel (80 ∷ []) (one (var x)))

abbrev pub Q⁺ : Literal
Q⁺ = pos (rel (81 ∷ []) (one (var y)))

abbrev pub Q⁻ : Literal
Q⁻ = opp (rel (81 ∷ []) (one (var y)))

-- a conversion, a rule, and the formula or the clauses that it gives
pub data Pair : Type 0 where
  gives : Conversion → Formula → Formula → Pair
  lists : Conversion → Formula → List Clause → Pair

unfoldable pub holds : Pair → Type 0
holds (gives c f g) = convert house c (written f) ≡ given (written g)
holds (lists c f cs) = convert house c (written f) ≡ given (listing cs)

unfoldable pub Hold : List Pair → Type 0
Hold [] = Unit {0}
Hold (p ∷ l) = holds p × Hold l

unfoldable pub starred : List Pair
starred =
    -- Q(x, y) → ∃ x, y. P(x, y)
    gives to_pnf (bin imp (Q (two (var x) (var y))) (blk ex (x ∷ y ∷ []) (P (two (var x) (var y)))))
    (blk ex (x` ∷ y` ∷ []) (bin imp (Q (two (var x) (var y))) (P (two (var x`) (var y`)))))
    -- R(x, x`) ∧ ∃ x. Q(x)
    ∷ gives to_pnf (bin and (R (two (var x) (var x`))) (blk ex (x ∷ []) (Q (one (var x)))))
    (blk ex (x`` ∷ []) (bin and (R (two (var x) (var x`))) (Q (one (var x``)))))
    -- (∀ x. P(x)) ∧ ∃ x. Q(x)
    ∷ gives to_snf (bin and (blk all (x ∷ []) (P (one (var x)))) (blk ex (x ∷ []) (Q (one (var x)))))
    (blk all (x ∷ []) (bin and (P (one (var x))) (Q (one (app (function_name 0) (one (var x)))))))
    -- ¬(P(x) ⇔ Q(y))
    ∷ gives to_nnf (neg (bin iff (P (one (var x))) (Q (one (var y)))))
    (bin or (bin and (P (one (var x))) (neg (Q (one (var y))))) (bin and (neg (P (one (var x)))) (Q (one (var y)))))
    -- P(x) ⇔ Q(y)
    ∷ lists to_cnf (bin iff (P (one (var x))) (Q (one (var y)))) ((P⁺ ∷ Q⁻ ∷ []) ∷ (Q⁺ ∷ P⁻ ∷ []) ∷ [])
    -- ∀ x. ∃ y. ∀ x. P(x, y)
    ∷ gives pnf_to_snf (blk all (x ∷ []) (blk ex (y ∷ []) (blk all (x ∷ []) (P (two (var x) (var y))))))
    (blk all (x ∷ []) (blk all (x ∷ []) (P (two (var x) (c# 0)))))
    ∷ gives to_snf (blk all (x ∷ []) (blk ex (y ∷ []) (blk all (x ∷ []) (P (two (var x) (var y))))))
    (blk all (x ∷ []) (P (two (var x) (c# 0))))
    -- ∃ z, y. R(y, z)
    ∷ gives pnf_to_snf (blk ex (z ∷ y ∷ []) (R (two (var y) (var z)))) (R (two (c# 1) (c# 0)))
    ∷ gives to_snf (blk ex (z ∷ y ∷ []) (R (two (var y) (var z)))) (R (two (c# 0) (c# 1)))
    -- ∃ x, x. P(x)
    ∷ gives pnf_to_snf (blk ex (x ∷ x ∷ []) (P (one (var x)))) (P (one (c# 1)))
    ∷ gives to_snf (blk ex (x ∷ x ∷ []) (P (one (var x)))) (P (one (c# 0)))
    -- top and bottom, both clause forms
    ∷ lists to_cnf top [] ∷ lists to_cnf bot ([] ∷ []) ∷ lists to_dnf top ([] ∷ []) ∷ lists to_dnf bot []
    ∷ []

-- What is easily sorted wrong: `c#10` before `c#2`, x` after x0, P(A, A) before P(x), a variable before a constant before an application.
pub record Sorts : Type 0 where
  pub by_bytes : cmp_name (constant_name 10) (constant_name 2) ≡ Ordering.lt
  pub backtick_late : cmp_name x` (120 ∷ 48 ∷ []) ≡ Ordering.gt
  pub terms_first : cmp_atom (rel (80 ∷ []) (two (var (65 ∷ [])) (var (65 ∷ [])))) (rel (80 ∷ []) (one (var x))) ≡ Ordering.lt
  pub variable_constant : cmp_term (var x) (con (65 ∷ [])) ≡ Ordering.lt
  pub constant_application : cmp_term (con x) (app (65 ∷ []) nil) ≡ Ordering.lt
  pub predicate_equation : cmp_atom (rel x nil) (same_as (var x) (var x)) ≡ Ordering.lt
