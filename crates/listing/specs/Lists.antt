-- What writing a listing answers.
use Rattle.std.specs.Prelude.{◌≡◌, List, ℕ, Option, None}
use Rattle.definitions.specs.Bytes.{Bytes}
use Rattle.definitions.specs.Order.{Clause}
use Rattle.definitions.specs.Clauses.{listing}
use Rattle.writer.specs.Writer.{Writes}
use Rattle.clauses.specs.Sets.{Denoted}
use Rattle.listing.specs.declared.source.Source.{Source}

-- a source stands for clauses: any lists do, of any length
abbrev pub Stands : Source → List Clause → Type 0
Stands s cs = Denoted s.spellings.text.now s.spellings.made.now s.words.now s.atoms.now s.literals.now s.index.now cs

-- The listing of what a source stands for is written to out, or out is too short and unchanged. Where a source stands for nothing, out is
-- unchanged too if the answer is None.
pub record Lists (s : Source) (out out' : Bytes) (r : Option ℕ) : Type 0 where
  pub listed : (cs : List Clause) → Stands s cs → Writes (listing cs) out out' r
  pub kept : r ≡ None → out' ≡ out
