-- Where a conversion gives a text, the rule was read, no stage refused it, and the text is that of the form.
use Rattle.std.specs.Prelude.{◌≡◌, true, false}
use Rattle.definitions.specs.Bytes.{Bytes}
use Rattle.definitions.specs.Syntax.{Formula, Quant}
use Rattle.definitions.specs.Limits.{Limits}
use Rattle.definitions.specs.Simplify.{simplify}
use Rattle.definitions.specs.Negation.{nnf}
use Rattle.definitions.specs.Prenex.{formula, pnf}
use Rattle.definitions.specs.Skolem.{hash_free, skolem_formula}
use Rattle.definitions.specs.Clauses.{clauses, listing, raw}
use Rattle.definitions.specs.Convert.{snf, too_large, too_long, too_many}

-- what a stage's result keeps to
pub record Passed (L : Limits) (f : Formula) : Type 0 where
  pub small : too_large L f ≡ false
  pub short : too_long L f ≡ false

-- What stages 1 and 2 pass, and 1 to 3 with refusal 5 before them; and what the last two give.
pub record Prenexed (L : Limits) (f : Formula) : Type 0 where
  pub simple : Passed L (simplify f)
  pub prenex : Passed L (formula (pnf f))

pub record SkolemPassed (L : Limits) (f : Formula) : Type 0 where
  pub clean : hash_free f ≡ true
  pub prenexed : Prenexed L f
  pub skolem : Passed L (skolem_formula (snf f))

pub record ClausesPassed (L : Limits) (q : Quant) (m : Formula) (s : Bytes) : Type 0 where
  pub negated : Passed L (nnf m)
  pub few : too_many L (raw q (nnf m)) ≡ false
  pub listed : s ≡ listing (clauses q (nnf m))
