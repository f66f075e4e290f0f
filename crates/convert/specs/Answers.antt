-- What the answers of the conversions mean, document 01's number and place for each, and what a call promises.
use Rattle.std.specs.Prelude.{◌≡◌, ℕ, length, Result, Ok, Err}
use Rattle.definitions.specs.Bytes.{Bytes}
use Rattle.definitions.specs.Syntax.{Formula}
use Rattle.definitions.specs.Limits.{house}
use Rattle.definitions.specs.Convert.{to_simplified, to_nnf, to_pnf, to_snf, to_cnf, to_dnf, pnf_to_snf, snf_to_cnf, snf_to_dnf, Result as Outcome, given, Answer, accepted, not_given, fitted, laid, convert, convert_tree, answer, out_after, work_after}
use Rattle.reader.specs.declared.Flaw.{Flaw}
use Rattle.reader.specs.declared.Flaw.TheVariants as flaws
use Rattle.prenex.specs.declared.Fate.{Fate}
use Rattle.prenex.specs.declared.Fate.TheVariants as prenexing
use Rattle.skolem.specs.declared.Fate.{Fate as SkolemFate}
use Rattle.skolem.specs.declared.Fate.TheVariants as skolemising
use Rattle.convert.specs.declared.Conversion.{Conversion}
use Rattle.convert.specs.declared.Conversion.TheVariants.{Simplify, Nnf, Pnf, Snf, Cnf, Dnf, PnfSnf, SnfCnf, SnfDnf}
use Rattle.convert.specs.declared.Refusal.{Refusal}
use Rattle.convert.specs.declared.Refusal.TheVariants.{Room, Malformed, Large, Shape, Hash, Name, Weight, Clauses, Work}

-- a refusal's number and place
abbrev pub refused : Refusal → Answer
refused Room = not_given 1 0
refused (Malformed line) = not_given 2 line
refused (Large line) = not_given 3 line
refused Shape = not_given 4 0
refused Hash = not_given 5 0
refused (Name stage) = not_given 6 stage
refused (Weight stage) = not_given 7 stage
refused Clauses = not_given 8 5
refused Work = not_given 9 0

-- What the refusals of the reader and of stages 2 and 3 are here. Unfit and NoRoom do not come up: work has its published size.
abbrev pub misread : Flaw → Refusal
misread (flaws.Malformed line) = Malformed line
misread (flaws.Large line) = Large line

abbrev pub unprenexed : Fate → Refusal
unprenexed prenexing.Heavy = Weight 2
unprenexed prenexing.Long = Name 2
unprenexed prenexing.Unfit = Work

abbrev pub unskolemised : SkolemFate → Refusal
unskolemised skolemising.Heavy = Weight 3
unskolemised skolemising.NoRoom = Work

-- a length, or a refusal
abbrev pub meaning : Result ℕ Refusal → Answer
meaning (Ok n) = accepted n
meaning (Err refusal) = refused refusal

-- an answer in two numbers: 0 where a text is given, for no refusal has that number; and the text's length, or the refusal's place
abbrev pub number_of : Answer → ℕ
number_of (accepted n) = 0
number_of (not_given number place) = number

abbrev pub place_of : Answer → ℕ
place_of (accepted n) = n
place_of (not_given number place) = place

-- document 01's conversion for each name
abbrev pub named : Conversion → Rattle.definitions.specs.Convert.Conversion
named Simplify = to_simplified
named Nnf = to_nnf
named Pnf = to_pnf
named Snf = to_snf
named Cnf = to_cnf
named Dnf = to_dnf
named PnfSnf = pnf_to_snf
named SnfCnf = snf_to_cnf
named SnfDnf = snf_to_dnf

-- the promise of a call: its answer, and what the lent buffers hold at its end
pub record Meets (c : Rattle.definitions.specs.Convert.Conversion) (text out work : Bytes) (r : Result ℕ Refusal) (out' work' : Bytes) : Type 0 where
  pub answers : meaning r ≡ answer house c text (length out) (length work)
  pub lays : out' ≡ out_after house c text out (length work)
  pub clears : work' ≡ work_after house work

-- a result is answered and laid: behind refusal 9
pub record Answered (given-result : Outcome) (out : Bytes) (r : Result ℕ Refusal) (out' : Bytes) : Type 0 where
  pub answers : meaning r ≡ fitted given-result (length out)
  pub lays : out' ≡ laid given-result out

-- a text, a rule's form, a rule's conversion
abbrev pub Shows : Bytes → Bytes → Result ℕ Refusal → Bytes → Type 0
Shows s out r out' = Answered (given s) out r out'

abbrev pub ShowsTree : Rattle.definitions.specs.Convert.Conversion → Formula → Bytes → Result ℕ Refusal → Bytes → Type 0
ShowsTree c f out r out' = Answered (convert_tree house c f) out r out'

abbrev pub Gives : Rattle.definitions.specs.Convert.Conversion → Bytes → Bytes → Result ℕ Refusal → Bytes → Type 0
Gives c text out r out' = Answered (convert house c text) out r out'
