-- What is said of a collection of free variables. The list of names found so far is the first `used` words of a table O; a run reads the
-- words S from `at` on, and adds to the list those names that the words N ask for.
use Rattle.std.specs.Prelude.{◌≡◌, Bool, false, not, cond, List, [], ◌∷◌, ◌++◌, map, ℕ, ◌+◌, ◌≤◌, length, take, drop, get_or}
use Rattle.std.proofs.Math.Seq.{slice}
use Rattle.definitions.specs.Bytes.{Bytes}
use Rattle.definitions.specs.Limits.{house}
use Rattle.definitions.specs.Syntax.{Name, Terms, count, Formula}
use Rattle.definitions.specs.Names.{mem, union, keep, free}
use Rattle.text.specs.Words.{Token, var_token, sign, tokens, token, terms_code, code, spell, is_made}
use Rattle.substitution.specs.declared.Search.{Search}
use Rattle.text.specs.declared.table.Table.{Table}

-- the spellings of words
abbrev pub spells : Bytes → Bytes → List ℕ → List Name
spells T M ws = map (spell T M) ws

-- the words that pass a test, in their order
unfoldable pub those : (ℕ → Bool) → List ℕ → List ℕ
those p [] = []
those p (w ∷ ws) = cond (p w) (w ∷ those p ws) (those p ws)

-- the variable that a token is, if it is one
abbrev pub variable_in : Token → List Name
variable_in (var_token x) = x ∷ []
variable_in (sign k n s) = []

-- no word points among the made names
pub record Unmade (ws : List ℕ) : Type 0 where
  pub each : (i : ℕ) → is_made (get_or ws i 0) ≡ false

-- whatever the source holds: the table keeps its size and what stood below `used`, and the words come from the source
pub record Keeps (S O : List ℕ) (used : ℕ) (O' : List ℕ) (used' : ℕ) : Type 0 where
  pub size : length O' ≡ length O
  pub kept : take used O' ≡ take used O
  pub more : used ≤ used'
  pub origin : Unmade S → Unmade O → Unmade O'

-- as many words as the terms at the front take
pub record Spans (S : List ℕ) (due r : ℕ) : Type 0 where
  pub inside : r ≤ length S
  pub whole : (T M : Bytes) (ts : Terms) (rest : List Token) → count ts ≡ due → tokens T M S ≡ terms_code ts ++ rest → r ≡ length (terms_code ts)

-- the list gets those of vs that are asked for and that it lacks
pub record Adds (T M : Bytes) (N O : List ℕ) (used : ℕ) (O' : List ℕ) (used' : ℕ) (vs : List Name) : Type 0 where
  pub list : (l : List Name) → tokens T M (take used O) ≡ map var_token l → tokens T M (take used' O') ≡ map var_token (union l (keep (spells T M N) vs))

-- a run that reads the tokens i and adds vs
pub record Collects (T M : Bytes) (N S : List ℕ) (at : ℕ) (O : List ℕ) (used : ℕ) (O' : List ℕ) (next used' : ℕ) (i : List Token) (vs : List Name) : Type 0 where
  pub ends : (rest : List Token) → tokens T M (drop at S) ≡ i ++ rest → (tokens T M (drop next S) ≡ rest) × Adds T M N O used O' used' vs

-- the same of what a search has, and of a list's words
abbrev pub Finds : Search → ℕ → Table → Table → ℕ → List Token → List Name → Type 0
Finds s at l l' next i vs = Collects s.spellings.text.now s.spellings.made.now s.asked.now s.words.now at l.nodes l.used l'.nodes next l'.used i vs

-- where a run may begin: it has read no fewer words than it wrote
pub record Within (S : List ℕ) (at used : ℕ) : Type 0 where
  pub inside : at ≤ length S
  pub fits : length S ≤ house.weight
  pub room : used ≤ at

-- a run that stays inside its words, and reads no fewer of them than it writes
pub record Safe (S : List ℕ) (at : ℕ) (O : List ℕ) (used : ℕ) (O' : List ℕ) (next used' : ℕ) : Type 0 where
  pub keeps : Keeps S O used O' used'
  pub forth : at ≤ next
  pub inside : next ≤ length S
  pub room : used' ≤ next

-- the names that stay where a list is sifted: those not of vs
abbrev pub staying : List Name → Name → Bool
staying vs x = not (mem x vs)

-- of the words between two places of a list those are kept whose name stays
pub record Sifts (T M : Bytes) (N O : List ℕ) (from to : ℕ) (O' : List ℕ) (kept : ℕ) : Type 0 where
  pub keeps : Keeps [] O from O' kept
  pub short : kept ≤ to
  pub words : slice from kept O' ≡ those (λ w. staying (spells T M N) (spell T M w)) (slice from to O)

-- one word is added to a list if it is a variable that is asked for and that the list lacks
pub record Notes (T M : Bytes) (N : List ℕ) (word : ℕ) (O : List ℕ) (used : ℕ) (O' : List ℕ) (used' : ℕ) : Type 0 where
  pub keeps : Keeps (word ∷ []) O used O' used'
  pub short : used' ≤ used + 1
  pub adds : Adds T M N O used O' used' (variable_in (token T M word))

-- the list is those free variables of the words' formula that are asked for
pub record Lists (T M : Bytes) (N S O O' : List ℕ) (r : ℕ) : Type 0 where
  pub short : r ≤ house.weight
  pub size : length O' ≡ length O
  pub origin : Unmade S → Unmade O → Unmade O'
  pub names : length S ≤ house.weight → (f : Formula) (rest : List Token) → tokens T M S ≡ code f ++ rest
      → tokens T M (take r O') ≡ map var_token (keep (spells T M N) (free f))
