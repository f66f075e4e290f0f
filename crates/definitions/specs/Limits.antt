-- The limits of document 01, as one record: each definition that knows a limit takes it, and the truth laws hold over any.
use Rattle.std.specs.Prelude.{ℕ, ◌*◌, ◌≤◌}

pub record Limits : Type 0 where
  pub weight : ℕ
  pub depth : ℕ
  pub arguments : ℕ
  pub block : ℕ
  pub name : ℕ
  pub line : ℕ
  pub clauses : ℕ
  pub literals : ℕ

abbrev pub house : Limits
house = record { weight = 1024; depth = 64; arguments = 32; block = 32; name = 24; line = 1024; clauses = 256; literals = 2048 }

-- the published size of the work buffer, one constant for given limits: 32 bytes of made names for each unit of weight
abbrev pub published : Limits → ℕ
published L = 32 * L.weight

-- what the file program lends for a result
abbrev pub lent : ℕ
lent = 65536

-- the second limits are at least as large in each field
pub record Raised (L L' : Limits) : Type 0 where
  pub weight : L.weight ≤ L'.weight
  pub depth : L.depth ≤ L'.depth
  pub arguments : L.arguments ≤ L'.arguments
  pub block : L.block ≤ L'.block
  pub name : L.name ≤ L'.name
  pub line : L.line ≤ L'.line
  pub clauses : L.clauses ≤ L'.clauses
  pub literals : L.literals ≤ L'.literals
