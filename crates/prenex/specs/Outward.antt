-- What the walk over a rule does. It reads a formula from the source, and writes its prenex form behind the two tables: its prefix, flipped
-- where the sign says so, and its matrix.
use Rattle.std.specs.Prelude.{Bool, false, not, List, [], ◌≡◌, ℕ, ◌+◌, ◌≤◌, ◌<◌, ◌++◌, length, drop, Result, MatchResult}
use Rattle.definitions.specs.Bytes.{Bytes}
use Rattle.definitions.specs.Limits.{house}
use Rattle.definitions.specs.Syntax.{Quant, Formula, weight}
use Rattle.definitions.specs.Prenex.{outward}
use Rattle.text.specs.Words.{Token, sign, block_kind, token, tokens, code, kind_of_word, is_made}
use Rattle.prenex.specs.Walk.{Side, turning, coded}
use Rattle.prenex.specs.Tables.{Ready}
use Rattle.prenex.specs.Writing.{Plain, Reads, End, Keeps}
use Rattle.prenex.specs.Renaming.{node_side}
use Rattle.prenex.specs.declared.write.Stop.{Stop}
use Rattle.prenex.specs.declared.write.Stop.TheVariants.{Unfit}
use Rattle.text.specs.declared.table.Table.{Table}

-- what a run asks for: tables with room for what they hold
pub record Begins (M : Bytes) (P W : Table) : Type 0 where
  pub ready : Ready M P.nodes P.used W.nodes
  pub room : W.used ≤ house.weight

-- the formula at `at`
pub record Runs (T M : Bytes) (P W : Table) (S : List ℕ) (at : ℕ) (flip : Bool) (M' : Bytes) (P' W' : Table) (r : Result Unit Stop) : Type 0 where
  pub safe : Keeps M P W M' P' W' r
  pub does : (f : Formula) (rest : List Token) → Plain S → Reads T S at (code f) rest → End T M P W M' P' W' r (coded flip (outward f))

-- the two formulae at `left` and `right` give the side that is told of them
pub record RunsBoth (T M : Bytes) (P W : Table) (S : List ℕ) (left right : ℕ) (M' : Bytes) (P' W' : Table) (r : Result Unit Stop)
    (side : Formula → Formula → Side) : Type 0 where
  pub safe : Keeps M P W M' P' W' r
  pub does : (a b : Formula) (rest rest' : List Token) → Plain S → Reads T S left (code a) rest → Reads T S right (code b) rest'
      → End T M P W M' P' W' r (side a b)

-- the node with the word `head` over them, and the iff over them, written out
abbrev pub pair_side : Bytes → ℕ → Bool → Bool → Formula → Formula → Side
pair_side T head turn flip a b = node_side (token T [] head) (coded turn (outward a)) (coded flip (outward b))

abbrev pub iff_side : Bytes → Bool → Formula → Formula → Side
iff_side T flip a b = node_side (token T [] 3) (pair_side T 5 (not flip) flip a b) (pair_side T 5 (not flip) flip b a)

-- where the formula at `at` ends
pub record Ended (S : List ℕ) (at : ℕ) (r : Result ℕ Stop) : Type 0 where
  -- whatever the source holds
  pub near : MatchResult r (λ n. (at < n) × (n ≤ length S)) (λ e. e ≡ Unfit)
  pub ends : (T M : Bytes) (f : Formula) (rest : List Token) → tokens T M (drop at S) ≡ code f ++ rest → MatchResult r (λ n. n ≡ at + weight f) (λ e. ⊥)

-- the head of a block, flipped where the sign says so
pub record Turned (word : ℕ) (flip : Bool) (r : ℕ) : Type 0 where
  pub kind : kind_of_word r ≤ 9
  pub plain : is_made r ≡ false
  pub head : (T : Bytes) (q : Quant) (n : ℕ) → token T [] word ≡ sign (block_kind q) n [] → token T [] r ≡ sign (block_kind (turning flip q)) n []
