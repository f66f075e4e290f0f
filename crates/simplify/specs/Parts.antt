-- What is said of the parts of stage 1. Words are written behind the first `used` of a table O; a run reads the words S from `at` on, and
-- lends a list L on the way.
use Rattle.std.specs.Prelude.{◌≡◌, Bool, true, false, List, [], ◌++◌, map, ℕ, ◌+◌, ◌-◌, ◌<◌, ◌≤◌, length, take, drop, get_or}
use Rattle.std.proofs.Math.Seq.{slice}
use Rattle.definitions.specs.Bytes.{Bytes}
use Rattle.definitions.specs.Syntax.{Name, Op, and, or, imp, iff, Quant, Formula, top, bot, bin}
use Rattle.definitions.specs.Simplify.{turn, tidy, over_kept}
use Rattle.text.specs.Words.{Token, var_token, token, tokens, code, root, op_kind, block_kind}
use Rattle.substitution.specs.Runs.{Unmade, Keeps}
use Rattle.simplify.specs.declared.Law.{Law}
use Rattle.simplify.specs.declared.Source.{Source}
use Rattle.simplify.specs.declared.Went.{Went}
use Rattle.simplify.specs.declared.Law.TheVariants.{Other, Turned, Top, Bottom}

-- words are written into a table
pub record Pastes (L O : List ℕ) (at : ℕ) (O' : List ℕ) (r : ℕ) : Type 0 where
  pub keeps : Keeps L O at O' r
  pub place : r ≡ at + length L
  pub above : drop r O' ≡ drop r O
  pub words : slice at r O' ≡ L

-- a run of words is moved down
pub record Moves (O : List ℕ) (to from end : ℕ) (O' : List ℕ) (r : ℕ) : Type 0 where
  pub keeps : Keeps [] O to O' r
  pub place : r ≡ to + (end - from)
  pub words : slice to r O' ≡ slice from end O

-- a formula between two places of a table becomes another, from `to` on and no longer than it was
pub record Becomes (O : List ℕ) (to from end : ℕ) (O' : List ℕ) (r : ℕ) (F : Formula → Formula) : Type 0 where
  pub keeps : Keeps [] O to O' r
  pub short : r ≤ end
  pub formula : (T M : Bytes) (f : Formula) → tokens T M (slice from end O) ≡ code f → tokens T M (slice to r O') ≡ code (F f)

-- the usual laws: what a constant on the left (or else on the right), top (or else bottom), makes of the other part
abbrev pub usual : Op → Bool → Bool → Law
usual and left true = Other
usual and left false = Bottom
usual or left true = Top
usual or left false = Other
usual imp true true = Other
usual imp true false = Top
usual imp false true = Top
usual imp false false = Turned
usual iff left true = Other
usual iff left false = Turned

unfoldable pub settled : Law → Formula → Formula
settled Other f = f
settled Turned f = turn f
settled Top f = top
settled Bottom f = bot

-- the law for a node of one of the four kinds with a constant of the kind 0 or 1 beside a part
pub record Ruled (kind constant : ℕ) (left : Bool) (r : Law) : Type 0 where
  pub and_top : kind ≡ 3 → constant ≡ 0 → r ≡ usual and left true
  pub and_bottom : kind ≡ 3 → constant ≡ 1 → r ≡ usual and left false
  pub or_top : kind ≡ 4 → constant ≡ 0 → r ≡ usual or left true
  pub or_bottom : kind ≡ 4 → constant ≡ 1 → r ≡ usual or left false
  pub imp_top : kind ≡ 5 → constant ≡ 0 → r ≡ usual imp left true
  pub imp_bottom : kind ≡ 5 → constant ≡ 1 → r ≡ usual imp left false
  pub iff_top : kind ≡ 6 → constant ≡ 0 → r ≡ usual iff left true
  pub iff_bottom : kind ≡ 6 → constant ≡ 1 → r ≡ usual iff left false

-- two parts behind a binary node's word become one formula
pub record Joins (O : List ℕ) (kind at middle end : ℕ) (O' : List ℕ) (r : ℕ) : Type 0 where
  pub keeps : Keeps [] O at O' r
  pub short : r ≤ end
  pub formula : (T M : Bytes) (o : Op) (f g : Formula) → op_kind o ≡ kind → token T M (get_or O at 0) ≡ root (bin o f g)
      → tokens T M (slice (at + 1) middle O) ≡ code f → tokens T M (slice middle end O) ≡ code g → tokens T M (slice at r O') ≡ code (tidy o f g)

-- a block over the kept variables, or none
pub record Binds (kind : ℕ) (L O : List ℕ) (used first end : ℕ) (O' : List ℕ) (r : ℕ) : Type 0 where
  pub keeps : Keeps L O used O' r
  pub short : r ≤ end
  pub formula : (T M : Bytes) (q : Quant) (vs : List Name) (f : Formula) → block_kind q ≡ kind → tokens T M L ≡ map var_token vs
      → length vs < first - used → tokens T M (slice first end O) ≡ code f → tokens T M (slice used r O') ≡ code (over_kept q vs f)

-- a run that reads the tokens i and writes the tokens o
pub record Reduces (T M : Bytes) (S : List ℕ) (at used : ℕ) (O' : List ℕ) (next used' : ℕ) (i o : List Token) : Type 0 where
  pub ends : (rest : List Token) → tokens T M (drop at S) ≡ i ++ rest → (tokens T M (drop next S) ≡ rest) × (tokens T M (slice used used' O') ≡ o)

-- the same of what is simplified, and how far it came
abbrev pub Writes : Source → ℕ → ℕ → List ℕ → Went → List Token → List Token → Type 0
Writes s at used O' w i o = Reduces s.spellings.text.now s.spellings.made.now s.words.now at used O' w.next w.used i o

-- whatever the source holds: the table keeps its size, the run stays inside its words and writes no more words than it reads, and words
-- come from the source
pub record Safe (S : List ℕ) (at : ℕ) (O : List ℕ) (used : ℕ) (L O' L' : List ℕ) (next used' : ℕ) : Type 0 where
  pub size : length O' ≡ length O
  pub kept : take used O' ≡ take used O
  pub more : used ≤ used'
  pub forth : at ≤ next
  pub inside : next ≤ length S
  pub room : used' ≤ next
  pub origin : Unmade S → Unmade L → Unmade O → Unmade O' × Unmade L'
