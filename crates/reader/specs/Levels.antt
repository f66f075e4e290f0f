-- What is still due while a text is read. The reader keeps a level for each depth. The deepest level comes first, and its depth is its height.
use Rattle.std.specs.Prelude.{◌≡◌, false, List, [], ◌∷◌, ◌++◌, map, ℕ, zero, suc, ◌+◌, ◌-◌, ◌≤◌, ◌<◌, length, get_or, take, Result, Err, MatchResult}
use Rattle.definitions.specs.Bytes.{Bytes}
use Rattle.definitions.specs.Limits.{house}
use Rattle.definitions.specs.RuleText.{Node}
use Rattle.definitions.specs.Reading.{Due, some_due, node_weight, parse, Step, bad, over, on, place}
use Rattle.text.specs.Words.{Token, var_token}
use Rattle.text.specs.declared.table.Table.{Table}
use Rattle.reader.specs.Lines.{Stand, Lies, names_from, node_code}
use Rattle.reader.specs.declared.Flaw.{Flaw}
use Rattle.reader.specs.declared.Flaw.TheVariants.{Malformed, Large}
use Rattle.reader.specs.declared.Level.{Level}
use Rattle.reader.specs.declared.Stack.{Stack}

-- the level k of D, and what is due by the first k of them
abbrev pub level_at : List Level → ℕ → Level
level_at D k = get_or D k (record { parts = 0; terms = false })

unfoldable pub due_of : List Level → ℕ → List Due
due_of D zero = []
due_of D (suc k) = some_due (level_at D k).parts (level_at D k).terms (suc k) ++ due_of D k

abbrev pub due : Stack → List Due
due s = due_of s.levels s.depth

-- levels of which the last has something due; and a table
pub record Ready (s : Stack) : Type 0 where
  pub room : s.depth ≤ 65
  pub some_left : 0 < s.depth → 0 < (level_at s.levels (s.depth - 1)).parts

pub record Fit (t : Table) : Type 0 where
  pub len : length t.nodes ≡ house.weight
  pub room : t.used ≤ house.weight

-- the level whose part is due first
pub record Top (s : Stack) (level : Level) : Type 0 where
  pub some : 0 < s.depth
  pub rest : List Due
  pub first : due s ≡ record { term = level.terms; depth = s.depth } ∷ rest

-- what was due first is served, and the parts of a level are due before the rest
pub record Served (s : Stack) (level : Level) (s' : Stack) : Type 0 where
  pub next : (d : Due) (rest : List Due) → due s ≡ d ∷ rest → due s' ≡ some_due level.parts level.terms (suc s.depth) ++ rest

-- the words of a table stand for tokens over the rule text T
abbrev pub Written : Bytes → Table → List Token → Type 0
Written T t ts = Stand T (take t.used t.nodes) ts

-- the variables that stand in the line l, so many from `start` on, stand behind the tokens of a table
abbrev pub Appended : ℕ → Bytes → ℕ → ℕ → Table → Table → Type 0
Appended at l start count t t' =
    (T : Bytes) (ts : List Token) → Lies T at l → Written T t ts → Written T t' (ts ++ map var_token (names_from l start count))

-- what a line does where some things are due, and the table's words are the weight so far
abbrev pub move : Stack → Table → Bytes → Step
move s t l = place house (due s) t.used (parse house l)

-- the line l at `at` led on with the node n: its tokens stand behind those of the table
pub record Goes (at : ℕ) (l : Bytes) (t : Table) (n : Node) (next : List Due) (s' : Stack) (t' : Table) : Type 0 where
  pub left : due s' ≡ next
  pub weight : t'.used ≡ t.used + node_weight n
  pub short : length l ≤ house.line
  pub table : (T : Bytes) (ts : List Token) → Lies T at l → Written T t ts → Written T t' (ts ++ node_code n)

-- what the line `line` answers: a flaw there, or it led on
abbrev pub Moves : ℕ → ℕ → Bytes → Table → Step → Result Unit Flaw → Stack → Table → Type 0
Moves at line l t bad r s' t' = r ≡ Err (Malformed line)
Moves at line l t over r s' t' = r ≡ Err (Large line)
Moves at line l t (on n next) r s' t' = MatchResult r (λ done. Goes at l t n next s' t') (λ flaw. ⊥)

-- the same where the line's own move is asked
abbrev pub Does : ℕ → ℕ → Bytes → Stack → Table → Result Unit Flaw → Stack → Table → Type 0
Does at line l s t r s' t' = Moves at line l t (move s t l) r s' t'
