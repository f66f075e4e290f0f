-- The shape of a rule, as refusal 4 has it, and the matrix of one.
use mathlib.Core.Path.{◌≡◌, sym, ap, ◌∙◌}
use mathlib.Core.Logic.{◌⊎◌, inl, inr}
use mathlib.Core.Bool.{Bool, true, false, not}
use mathlib.Core.List.{List}
use Prim.Native.Nat.{ℕ}
use Rattle.definitions.specs.Bytes.{Bytes}
use Rattle.definitions.specs.Syntax.{Formula}
use Rattle.definitions.specs.Limits.{house}
use Rattle.definitions.specs.Prenex.{formula, no_block, all_only, parted, is_prenex_form, is_skolem}
use Rattle.definitions.specs.Skolem.{skolem_formula, hash_free}
use Rattle.definitions.specs.Convert.{Result as Outcome, refused, stage, as_clauses, through_prenex, through_skolem, snf, snf_of_prenex, pnf_to_snf, convert_tree}
use Rattle.definitions.proofs.Laws.Bools.{and_true_left}
use Rattle.definitions.specs.Laws.Within.{Within}
use Rattle.definitions.specs.Laws.Kept.{each}
use Rattle.definitions.proofs.Laws.Kept.{variables_each}
use Rattle.definitions.specs.Laws.Passing.{short, few}
use Rattle.definitions.proofs.Laws.Passing.{good_each}
use Rattle.definitions.proofs.Laws.Shapes.{close_parted}
use Rattle.clauses.specs.Laying.{marked}
use Rattle.skolem.specs.declared.shape.Shape.{Shape}
use Rattle.skolem.specs.declared.shape.Shape.TheVariants as shapes
use Rattle.skolem.specs.Shape.{Shaped, Splits, skolem_shape, prenex_shape}
use Rattle.skolem.specs.Parts.{Parts, of_split}
use Rattle.convert.specs.declared.stages.Last.TheVariants.{Form}
use Rattle.convert.specs.Stages.{Rule, Tame, Narrow, ending, of_skolem_stage}
use Rattle.convert.proofs.Tame.{tame_from, matrix_each}

pub not_skolem : (conjunctive : Bool) (f : Formula) {r : Shape} → Shaped f r → (r ≡ shapes.Other) ⊎ (r ≡ shapes.Prenex) → of_skolem_stage conjunctive f ≡ refused 4 0
not_skolem b f s (inl e) = rw (s.skolem ∙ ap skolem_shape e)
not_skolem b f s (inr e) = rw (s.skolem ∙ ap skolem_shape e)

pub its_matrix : (conjunctive : Bool) (f : Formula) {r : Shape} → Shaped f r → r ≡ shapes.Skolem
    → (of_skolem_stage conjunctive f ≡ as_clauses house (marked conjunctive) (parted f).matrix) × (no_block (parted f).matrix ≡ true)
unfolding is_skolem is_prenex_form
its_matrix b f s e =
    let k : is_skolem f ≡ true = s.skolem ∙ ap skolem_shape e in
    (rw k, and_true_left (no_block (parted f).matrix) (all_only (parted f).prefix) k)

-- the variables and functions of a rule within the limits, and so of its matrix
pub rule_narrow : (f : Formula) → Within house f → Narrow (parted f).matrix
rule_narrow f w =
    matrix_each (short house) (few house) (parted f).prefix (parted f).matrix (ap (each (short house) (few house)) (close_parted f) ∙ good_each house f w.good)

pub not_prenex : (f : Formula) {r : Shape} {b : Bool} → Shaped f r → b ≡ prenex_shape r → b ≡ false → convert_tree house pnf_to_snf f ≡ refused 4 0
unfolding convert_tree
not_prenex f s e d = rw (s.prenex ∙ sym e ∙ d)

pub hashed_prenex : (f : Formula) {r : Shape} {b c : Bool} → Shaped f r → b ≡ prenex_shape r → b ≡ true → c ≡ not (hash_free f) → c ≡ true
    → convert_tree house pnf_to_snf f ≡ refused 5 0
unfolding convert_tree
hashed_prenex f s e d g h = rw (s.prenex ∙ sym e ∙ d, sym g ∙ h)

pub clean_prenex : (f : Formula) {r : Shape} {b c : Bool} → Shaped f r → b ≡ prenex_shape r → b ≡ true → c ≡ not (hash_free f) → c ≡ false
    → convert_tree house pnf_to_snf f ≡ stage house 3 (skolem_formula (snf_of_prenex f)) (ending Form (snf_of_prenex f))
unfolding convert_tree
clean_prenex f s e d g h = rw (s.prenex ∙ sym e ∙ d, sym g ∙ h)

-- refusal 5 before stages 1 to 3
pub hashed_rule : (f : Formula) (r : Outcome) {c : Bool} → c ≡ not (hash_free f) → c ≡ true → through_skolem house f r ≡ refused 5 0
hashed_rule f r g h = rw (sym g ∙ h)

pub clean_rule : (f : Formula) (r : Outcome) {c : Bool} → c ≡ not (hash_free f) → c ≡ false
    → through_skolem house f r ≡ through_prenex house f (stage house 3 (skolem_formula (snf f)) r)
clean_rule f r g h = rw (sym g ∙ h)

-- blocks and matrix of a rule in prenex form
pub its_parts : {T M : Bytes} (f : Formula) {W P X : List ℕ} {r : Shape} {b : Bool} → Rule T W f → Splits W P X → Shaped f r → b ≡ prenex_shape r → b ≡ true
    → Parts T M 0 P X (parted f)
unfolding is_prenex_form
its_parts f u p s e d = of_split f p u.room (λ N z. u.words N) (s.prenex ∙ sym e ∙ d)

pub rule_tame : (f : Formula) → Within house f → Tame (formula (parted f))
rule_tame f w =
    let n = good_each house f w.good in
    ap (each (short house) (λ (k : ℕ). true)) (close_parted f) ∙ tame_from (short house) f (variables_each (short house) (few house) f n)
