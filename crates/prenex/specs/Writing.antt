-- What the parts of the walk over a rule write: words behind the matrix, blocks behind the prefix with their variables in their slots.
use Rattle.std.specs.Prelude.{false, Result, Ok, Err, MatchResult, List, [], ◌∷◌, ◌++◌, map, ◌≡◌, ℕ, ◌+◌, ◌*◌, ◌≤◌, ◌<◌, max, length, take, drop, get_or}
use Rattle.definitions.specs.Bytes.{Bytes}
use Rattle.definitions.specs.Syntax.{Name}
use Rattle.definitions.specs.Limits.{house}
use Rattle.definitions.specs.Prenex.{longest}
use Rattle.text.specs.Words.{Token, var_token, is_made, size_of, start_of, token, tokens}
use Rattle.text.specs.Prefixes.{names}
use Rattle.prenex.specs.Walk.{Side}
use Rattle.prenex.specs.Tables.{slot_size, AllKnown, Places, Ready}
use Rattle.text.specs.declared.table.Table.{Table}
use Rattle.prenex.specs.declared.write.TooLong.{TooLong}
use Rattle.prenex.specs.declared.write.Stop.{Stop}
use Rattle.prenex.specs.declared.write.Stop.TheVariants.{Unfit, Long}

-- A rule's words point into the rule text: all words of the source S do.
abbrev pub Plain : List ℕ → Type 0
Plain S = (i : ℕ) → is_made (get_or S i 0) ≡ false

-- the tokens l, and then `rest`, stand in the source from `at` on
pub record Reads (T : Bytes) (S : List ℕ) (at : ℕ) (l rest : List Token) : Type 0 where
  pub stream : tokens T [] (drop at S) ≡ l ++ rest

-- the name of a word that points into the rule text
abbrev pub text_name : Bytes → ℕ → Name
text_name T w = take (size_of w) (drop (start_of w) T)

-- the longest name of a side
abbrev pub widest_name : Side → ℕ
widest_name s = max (longest (names s.prefix)) (longest (names s.matrix))

-- A run has written the side s behind prefix and matrix.
pub record Writes (T M : Bytes) (P W : Table) (M' : Bytes) (P' W' : Table) (s : Side) : Type 0 where
  pub prefix : take P'.used (tokens T M' P'.nodes) ≡ take P.used (tokens T M P.nodes) ++ s.prefix
  pub matrix : take W'.used (tokens T M' W'.nodes) ≡ take W.used (tokens T M W.nodes) ++ s.matrix

-- A run stops that has to write the side s behind n words: the tables have no room for it, or it has a name over the limit.
abbrev pub Stops : ℕ → Side → Stop → Type 0
Stops n s Unfit = house.weight < n + (length s.prefix + length s.matrix)
Stops n s Long = house.name < widest_name s

abbrev pub End : Bytes → Bytes → Table → Table → Bytes → Table → Table → Result Unit Stop → Side → Type 0
End T M P W M' P' W' r s = MatchResult r (λ u. Writes T M P W M' P' W' s) (λ e. Stops (P.used + W.used) s e)

-- Whatever the source holds, of a run that writes to the matrix alone.
pub record Extends (W W' : Table) : Type 0 where
  pub size : length W'.nodes ≡ house.weight
  pub more : W.used ≤ W'.used
  pub room : W'.used ≤ house.weight
  pub known : (k : ℕ) → AllKnown k W.nodes → AllKnown k W'.nodes

-- and what it writes: the tokens l
pub record Written (T : Bytes) (W W' : Table) (l : List Token) : Type 0 where
  pub words : (M : Bytes) → take W'.used (tokens T M W'.nodes) ≡ take W.used (tokens T M W.nodes) ++ l

-- or there is no room for them
abbrev pub Appends : Bytes → Table → Table → Result Unit Stop → List Token → Type 0
Appends T W W' (Ok u) l = Written T W W' l
Appends T W W' (Err Unfit) l = house.weight < W.used + length l
Appends T W W' (Err Long) l = ⊥

-- The made names before and behind the slots of the places n .. n' are as they were.
pub record Between (M : Bytes) (n n' : ℕ) (M' : Bytes) : Type 0 where
  pub more : n ≤ n'
  pub size : length M' ≡ length M
  pub before : take (slot_size * n) M' ≡ take (slot_size * n) M
  pub after : drop (slot_size * n') M' ≡ drop (slot_size * n') M

-- the variable w laid down at the next place
pub record Laid (T M : Bytes) (P : Table) (w : ℕ) (M' : Bytes) (P' : Table) : Type 0 where
  pub used : P'.used ≡ P.used + 1
  pub places : Places M' P'.nodes P'.used
  pub between : Between M P.used P'.used M'
  pub named : take P'.used (tokens T M' P'.nodes) ≡ take P.used (tokens T M P.nodes) ++ (var_token (text_name T w) ∷ [])

-- or its name is over the limit, and nothing is written
abbrev pub Lays : Bytes → Bytes → Table → ℕ → Bytes → Table → Result Unit TooLong → Type 0
Lays T M P w M' P' r = MatchResult r (λ u. Laid T M P w M' P') (λ e. (M' ≡ M) × (P' ≡ P) × (house.name < length (text_name T w)))

-- a run that stops: it has written no made names but those of the places that it leaves in use
pub record Halts (M : Bytes) (P : Table) (M' : Bytes) (P' : Table) : Type 0 where
  pub between : Between M P.used P'.used M'
  pub used : P'.used ≤ house.weight

-- a block behind the prefix: its head's token h, then its variables vs
abbrev pub BlockEnd : Bytes → Bytes → Table → Bytes → Table → Result Unit Stop → Token → List Name → Type 0
BlockEnd T M P M' P' (Ok u) h vs = take P'.used (tokens T M' P'.nodes) ≡ take P.used (tokens T M P.nodes) ++ (h ∷ map var_token vs)
BlockEnd T M P M' P' (Err Unfit) h vs = house.weight < P.used + (1 + length vs)
BlockEnd T M P M' P' (Err Long) h vs = house.name < longest vs

pub record Blocks (T M : Bytes) (P : Table) (S : List ℕ) (at variables head : ℕ) (M' : Bytes) (P' : Table) (r : Result Unit Stop) : Type 0 where
  pub safe : MatchResult r (λ u. Places M' P'.nodes P'.used × Between M P.used P'.used M') (λ e. Halts M P M' P')
  pub ends : (vs : List Name) (rest : List Token) → Plain S → length vs ≡ variables → Reads T S at (map var_token vs) rest
      → BlockEnd T M P M' P' r (token T [] head) vs

-- Whatever the source holds, of a run that writes to both tables.
pub record Safe (M : Bytes) (P W : Table) (M' : Bytes) (P' W' : Table) : Type 0 where
  pub ready : Ready M' P'.nodes P'.used W'.nodes
  pub between : Between M P.used P'.used M'
  pub more : W.used ≤ W'.used
  pub room : W'.used ≤ house.weight

-- also where it stops
abbrev pub Keeps : Bytes → Table → Table → Bytes → Table → Table → Result Unit Stop → Type 0
Keeps M P W M' P' W' r = MatchResult r (λ u. Safe M P W M' P' W') (λ e. Halts M P M' P')
