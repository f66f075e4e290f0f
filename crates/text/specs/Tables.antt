-- A table that holds a formula.
use Rattle.std.specs.Prelude.{◌≡◌, List, [], ◌∷◌, ◌++◌, ℕ, ◌+◌, ◌<◌, ◌≤◌, length, take, set}
use Rattle.std.proofs.Common.{arith, add-one}
use Rattle.std.proofs.Math.Seq.{take-suc-set}
use Rattle.definitions.specs.Bytes.{Bytes}
use Rattle.definitions.specs.Syntax.{Formula}
use Rattle.definitions.specs.Limits.{house}
use Rattle.text.specs.declared.table.Table.{Table}
use Rattle.text.specs.Words.{tokens, code}

-- the words that are in use
abbrev pub words_of : Table → List ℕ
words_of t = take t.used t.nodes

-- the table with a word behind those that are in use
abbrev pub pushed : Table → ℕ → Table
pushed t w = record { nodes = set t.nodes t.used w; used = t.used + 1 }

-- the first n words of an array, as a table
abbrev pub as_table : List ℕ → ℕ → Table
as_table S n = record { nodes = S; used = n }

-- the used words of a table are a formula's, over the rule text T and the made names M
pub record Holds (T M : Bytes) (t : Table) (f : Formula) : Type 0 where
  pub room : t.used ≤ house.weight
  pub words : tokens T M (take t.used t.nodes) ≡ code f

pub pushed_words : (t : Table) (w : ℕ) → length t.nodes ≡ house.weight → t.used < house.weight → words_of (pushed t w) ≡ words_of t ++ (w ∷ [])
pushed_words t w e h = rw (add-one, take-suc-set t.nodes t.used w (omega arith))
