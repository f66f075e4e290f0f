-- Demand 3: wherever a form is given, in every finite nonempty structure and under every assignment, it stands to the rule as it should.
use Rattle.std.specs.Prelude.{◌≡◌, true, List, ◌↔◌}
use Rattle.definitions.specs.Bytes.{Bytes}
use Rattle.definitions.specs.Syntax.{Formula, Quant}
use Rattle.definitions.specs.Limits.{Limits}
use Rattle.definitions.specs.RuleText.{written}
use Rattle.definitions.specs.Reading.{read, tree}
use Rattle.definitions.specs.Truth.{Assign, Domain, Meaning, every, truth}
use Rattle.definitions.specs.Prenex.{is_skolem, parted}
use Rattle.definitions.specs.Skolem.{AlikeBut, Symbol}
use Rattle.definitions.specs.Order.{Clause, cmp_clause, cmp_literal}
use Rattle.definitions.specs.Clauses.{listing, set_truth}
use Rattle.definitions.specs.Laws.Skolem.{FreshFor}
use Rattle.definitions.specs.Laws.Sorted.{sorted}

-- The text s is a form's with the truth value of the rule that stands in the text.
pub record SameTruth (L : Limits) (text s : Bytes) : Type 1 where
  pub rule : Formula
  pub form : Formula
  pub reads : read L text ≡ tree rule
  pub writes : s ≡ written form
  pub same_truth : (D : Domain) (M : Meaning D) (ρ : Assign D) → truth D M form ρ ≡ truth D M rule ρ

-- The text s is the Skolem form of the rule's prenex form: the prenex form holds exactly when some meaning for the symbols drawn, which
-- the rule has not, the rest unchanged, makes the Skolem form hold; and one such meaning does for all assignments at once.
pub record SkolemTruth (L : Limits) (prenex : Formula → Formula) (text s : Bytes) : Type 1 where
  pub rule : Formula
  pub form : Formula
  pub drawn : List Symbol
  pub reads : read L text ≡ tree rule
  pub writes : s ≡ written form
  pub same_truth : (D : Domain) (M : Meaning D) (ρ : Assign D) → truth D M (prenex rule) ρ ≡ truth D M rule ρ
  pub new : FreshFor rule drawn
  pub exactly : (D : Domain) (M : Meaning D) (ρ : Assign D)
      → (truth D M (prenex rule) ρ ≡ true) ↔ ((M' : Meaning D) × AlikeBut D drawn M M' × (truth D M' form ρ ≡ true))
  pub one_meaning : (D : Domain) (M : Meaning D)
      → (M' : Meaning D) × AlikeBut D drawn M M' × ((ρ : Assign D) → truth D M' form ρ ≡ truth D M (prenex rule) ρ)

-- The text s lists a clause set with the truth value of the matrix of the rule's Skolem form; it is strictly sorted, and so is each clause.
pub record ClauseTruth (L : Limits) (q : Quant) (skolem-form : Formula → Formula) (text s : Bytes) : Type 1 where
  pub rule : Formula
  pub set : List Clause
  pub reads : read L text ≡ tree rule
  pub writes : s ≡ listing set
  pub is_skolem_form : is_skolem (skolem-form rule) ≡ true
  pub same_truth : (D : Domain) (M : Meaning D) (ρ : Assign D) → set_truth D M ρ q set ≡ truth D M (parted (skolem-form rule)).matrix ρ
  pub in_order : sorted cmp_clause set ≡ true
  pub each_in_order : every (sorted cmp_literal) set ≡ true
