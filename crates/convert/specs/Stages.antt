-- What the stages of a conversion say to one another.
use Rattle.std.specs.Prelude.{◌≡◌, Bool, true, not, List, ℕ, ◌≤◌, length, Result}
use Rattle.definitions.specs.Bytes.{Bytes}
use Rattle.definitions.specs.Syntax.{all, ex, Formula, weight}
use Rattle.definitions.specs.Limits.{house, published}
use Rattle.definitions.specs.RuleText.{written}
use Rattle.definitions.specs.Prenex.{Prefix, close, pnf, parted, is_skolem}
use Rattle.definitions.specs.Skolem.{Skolemised, skolem_formula}
use Rattle.definitions.specs.Convert.{Result as Outcome, given, refused_if, as_clauses}
use Rattle.definitions.specs.Laws.Within.{Within}
use Rattle.definitions.specs.Laws.Kept.{each}
use Rattle.definitions.specs.Laws.Passing.{short, few}
use Rattle.text.specs.Words.{tokens, code}
use Rattle.text.specs.Tables.{words_of, Holds}
use Rattle.text.specs.Prefixes.{prefix_code}
use Rattle.text.specs.declared.table.Table.{Table}
use Rattle.substitution.specs.Runs.{Unmade as InText}
use Rattle.prenex.specs.declared.Prenexed.{Prenexed}
use Rattle.prenex.specs.declared.Unmade.{Unmade}
use Rattle.prenex.specs.Stage.{made_size}
use Rattle.prenex.specs.Stage as prenexing
use Rattle.clauses.specs.Laying.{marked}
use Rattle.convert.specs.declared.stages.Last.{Last}
use Rattle.convert.specs.declared.stages.Last.TheVariants.{Form, Conjunctive, Disjunctive}

-- the words W of a rule that was read: it is within the limits, and they point into the rule text alone
pub record Rule (T : Bytes) (W : List ℕ) (f : Formula) : Type 0 where
  pub within : Within house f
  pub room : length W ≤ house.weight
  pub words : (M : Bytes) → tokens T M W ≡ code f
  pub unmade : InText W

-- each variable of a formula is short enough, whatever its functions; and each function has few enough arguments
abbrev pub Tame : Formula → Type 0
Tame f = each (short house) (λ (n : ℕ). true) f ≡ true

abbrev pub Narrow : Formula → Type 0
Narrow f = each (short house) (few house) f ≡ true

-- blocks and matrix of a formula that a table has room for, one behind the other
pub record Joined (P : Table) (X : List ℕ) (P' : Table) : Type 0 where
  pub form : (T M : Bytes) (p : Prefix) (m : Formula) → weight (close p m) ≤ house.weight → P.used ≤ house.weight
      → tokens T M (words_of P) ≡ prefix_code p → tokens T M X ≡ code m → Holds T M P' (close p m)

-- stages 1 and 2 of a rule
pub record Prenexes (T M : Bytes) (W : List ℕ) (M' : Bytes) (r : Result Prenexed Unmade) : Type 0 where
  pub size : length M' ≡ length M
  pub count : prenexing.written r ≤ made_size
  pub form : published house ≤ length M → (f : Formula) → Rule T W f → prenexing.Outcome T M' r (pnf f)

-- what follows stage 3
abbrev pub ending : Last → Skolemised → Outcome
ending Form s = given (written (skolem_formula s))
ending Conjunctive s = as_clauses house all s.matrix
ending Disjunctive s = as_clauses house ex s.matrix

-- stages 4 and 5 of a rule in Skolem form
abbrev pub of_skolem_stage : Bool → Formula → Outcome
of_skolem_stage conjunctive f = refused_if (not (is_skolem f)) 4 0 (as_clauses house (marked conjunctive) (parted f).matrix)
