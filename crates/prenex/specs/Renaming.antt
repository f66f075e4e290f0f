-- What the parts of a binary step say, from one name to both sides.
use Rattle.std.specs.Prelude.{Bool, ◌&&◌, eqb, Result, MatchResult, List, [], ◌∷◌, ◌++◌, ◌≡◌, ℕ, ◌+◌, ◌≤◌, ◌<◌, length, take, drop, get_or, set}
use Rattle.std.proofs.Math.Seq.{slice}
use Rattle.definitions.specs.Bytes.{Bytes, same}
use Rattle.definitions.specs.Syntax.{Name}
use Rattle.definitions.specs.Limits.{house}
use Rattle.definitions.specs.Prenex.{longest}
use Rattle.text.specs.Words.{Token, var_token, kind_of_word, spell, tokens}
use Rattle.text.specs.Prefixes.{names}
use Rattle.text.specs.declared.names.Spellings.{Spellings}
use Rattle.prenex.specs.declared.write.TooLong.{TooLong}
use Rattle.prenex.specs.Walk.{Side, new_name, renamed, walk, left_apart, right_apart}
use Rattle.prenex.specs.Tables.{slot_word, slot_size, Slot, Ready}

-- l in the place of X's tokens from f up to t
abbrev pub splice : ℕ → ℕ → List Token → List Token → List Token
splice f t X l = take f X ++ (l ++ drop t X)

-- a word's name and what words stand for, as they are spelled
abbrev pub spelled : Spellings → ℕ → Name
spelled s w = spell s.text.now s.made.now w

abbrev pub read : Spellings → List ℕ → List Token
read s W = tokens s.text.now s.made.now W

-- the word v is a variable spelled as the word w
abbrev pub is_spelled : Bytes → Bytes → ℕ → ℕ → Bool
is_spelled T M w v = eqb (kind_of_word v) 12 && same (spell T M w) (spell T M v)

-- the names of three runs
abbrev pub all_names : List Token → List Token → List Token → List Name
all_names a b d = names a ++ (names b ++ names d)

-- the word r, in the slot of place `at`, is named x, or x is over the limit
pub record Named (T M : Bytes) (at : ℕ) (x : Name) (r : ℕ) : Type 0 where
  pub size : ℕ
  pub word : r ≡ slot_word at size
  pub most : size ≤ slot_size
  pub name : size ≤ house.name → spell T M r ≡ x
  pub slot : size ≤ house.name → Slot M at r
  pub long : house.name < size → house.name < length x

-- two runs of one table that do not meet
pub data Beside (from to other end : ℕ) : Type 0 where
  under : end ≤ from → Beside from to other end
  over : to ≤ other → Beside from to other end

-- A side's prefix ends at `last`, the other's from there to `high`; the side's matrix is from .. to, the other's other .. end.
pub record Bounds (M : Bytes) (P W : List ℕ) (last high from to other end : ℕ) : Type 0 where
  pub ready : Ready M P high W
  pub mine : last ≤ high
  pub prefix : high ≤ house.weight
  pub run : from ≤ to
  pub matrix : to ≤ house.weight
  pub others_run : other ≤ end
  pub others : end ≤ house.weight
  pub beside : Beside from to other end

-- a variable of the side's prefix, at `at`, in the block that begins at `low`
pub record Spot (M : Bytes) (P W : List ℕ) (low at last high from to other end : ℕ) : Type 0 where
  pub bounds : Bounds M P W last high from to other end
  pub block : low ≤ at
  pub before : at < last
  pub var : kind_of_word (get_or P at 0) ≡ 12

-- the variable at `at` is named w and the side's matrix is m
pub record Renames (T M : Bytes) (P : List ℕ) (n : ℕ) (W : List ℕ) (at from to : ℕ) (P' W' : List ℕ) (w : Name) (m : List Token) : Type 0 where
  pub ready : Ready M P' n W'
  pub here : tokens T M P' ≡ set (tokens T M P) at (var_token w)
  pub there : tokens T M W' ≡ splice from to (tokens T M W) m

-- the variable at `at`, of the block that begins at `low`, or its new name is over the limit
abbrev pub RenamesAt : Bytes → Bytes → List ℕ → ℕ → List ℕ → ℕ → ℕ → ℕ → ℕ → ℕ → ℕ → ℕ → ℕ → List ℕ → List ℕ → Name → Result Unit TooLong → Type 0
RenamesAt T M P n W low at last high from to other end P' W' x r =
    let rest = slice (at + 1) last (tokens T M P) in
    let m = slice from to (tokens T M W) in
    let Q = slice last high (tokens T M P) in
    let N = slice other end (tokens T M W) in
    let w = new_name Q N (names (slice low at (tokens T M P))) x rest m in
    MatchResult r (λ u. Renames T M P n W at from to P' W' w (renamed Q N x w rest m)) (λ e. house.name < length w)

-- prefix first .. last and matrix from .. to have become the side s
pub record Walked (T M : Bytes) (P : List ℕ) (n : ℕ) (W : List ℕ) (first last from to : ℕ) (P' W' : List ℕ) (s : Side) : Type 0 where
  pub ready : Ready M P' n W'
  pub in_prefix : tokens T M P' ≡ splice first last (tokens T M P) s.prefix
  pub in_matrix : tokens T M W' ≡ splice from to (tokens T M W) s.matrix

-- or a name of s is over the limit
abbrev pub Walks : Bytes → Bytes → List ℕ → ℕ → List ℕ → ℕ → ℕ → ℕ → ℕ → List ℕ → List ℕ → Side → Result Unit TooLong → Type 0
Walks T M P n W first last from to P' W' s r = MatchResult r (λ u. Walked T M P n W first last from to P' W' s) (λ e. house.name < longest (names s.prefix))

-- the side that the tables hold there
abbrev pub held : Bytes → Bytes → List ℕ → List ℕ → ℕ → ℕ → ℕ → ℕ → Side
held T M P W first last from to = record { prefix = slice first last (tokens T M P); matrix = slice from to (tokens T M W) }

-- the side there, apart from the other side last .. high, other .. end
abbrev pub apart_side : Bytes → Bytes → List ℕ → List ℕ → ℕ → ℕ → ℕ → ℕ → ℕ → ℕ → ℕ → Side
apart_side T M P W first last high from to other end =
    walk (slice last high (tokens T M P)) (slice other end (tokens T M W)) [] (slice first last (tokens T M P)) (slice from to (tokens T M W))

pub record Halves (first mid high from turn to : ℕ) : Type 0 where
  pub left : first ≤ mid
  pub right : mid ≤ high
  pub prefix : high ≤ house.weight
  pub one : from ≤ turn
  pub two : turn ≤ to
  pub matrix : to ≤ house.weight

abbrev pub joined : Side → Side → Side
joined a b = record { prefix = a.prefix ++ b.prefix; matrix = a.matrix ++ b.matrix }

-- both sides, the left apart from the right and then the right apart from the left matrix
abbrev pub both_apart : Side → Side → Side
both_apart a b = joined (left_apart a b) (right_apart a b)

-- a side behind a word of the matrix
abbrev pub topped : Token → Side → Side
topped t s = record { prefix = s.prefix; matrix = t ∷ s.matrix }

-- what two sides and the node over them come to
abbrev pub node_side : Token → Side → Side → Side
node_side t a b = topped t (both_apart a b)
