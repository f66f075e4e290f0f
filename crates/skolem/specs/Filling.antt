-- Words written behind others, up to a room: all of them, or not, for want of room or because of a function of more than 32 arguments.
use Rattle.std.specs.Prelude.{◌≡◌, List, [], ◌++◌, ℕ, ◌+◌, ◌≤◌, length, take, Option, MatchOption}
use Rattle.definitions.specs.Limits.{house}
use Rattle.text.specs.Words.{token, tokens}
use Rattle.skolem.specs.Pass.{stays, keep, reach}

-- how many arguments a function among words has at most: a word's kind and count do not depend on the names
abbrev pub width : List ℕ → ℕ
width ws = reach (tokens [] [] ws)

-- the words o stand behind the first `used` of a table, whose first n words are in use then
pub record Added (O : List ℕ) (used : ℕ) (O' : List ℕ) (n : ℕ) (o : List ℕ) : Type 0 where
  pub fits : n ≤ length O'
  pub words : take n O' ≡ take used O ++ o
  pub narrow : width o ≤ house.arguments

-- no room for the words o behind the first `used` of a table, or one of them is a function of more than 32 arguments
abbrev pub Lacks : List ℕ → ℕ → List ℕ → Type 0
Lacks O used o = used + length o ≤ length O → width o ≤ house.arguments → ⊥

abbrev pub Adds : List ℕ → ℕ → List ℕ → Option ℕ → List ℕ → Type 0
Adds O used O' r o = MatchOption r (Lacks O used o) (λ n. Added O used O' n o)

-- of the heads those that stay in the prefix are the first r words of a table
pub record Keeps (H O' : List ℕ) (r : ℕ) : Type 0 where
  pub few : r ≤ length H
  pub words : take r O' ≡ keep (λ w. stays (token [] [] w)) H
