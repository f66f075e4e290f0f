-- Rule text written from words. A tree is written parent first, children left to right, one node a line; a block's variables stand on its
-- line. The text is defined for any list of tokens, so that the writer has an answer for any table; of a formula's tokens it is the
-- formula's rule text (WriterLaws).
use Rattle.std.specs.Prelude.{◌≡◌, cond, List, [], ◌∷◌, ◌++◌, map, ℕ, zero, suc, ◌+◌, ◌≤◌, ◌<◌, leb, length, take, drop, get_or, Option, Some, None}
use Rattle.definitions.specs.Bytes.{Bytes, TAB, LF, behind_each, decimal}
use Rattle.definitions.specs.Reading.{Kind}
use Rattle.definitions.specs.Reading as reading
use Rattle.definitions.specs.Convert.{given, Answer, accepted, not_given, fitted, laid}
use Rattle.text.specs.declared.names.Spellings.{Spellings}
use Rattle.text.specs.Words.{Token, kind, count, name, spell, token, tokens}

-- the keyword of a kind: the kinds are the places of the keywords; 14 and 15 are no kinds and have none
abbrev pub keywords : List Bytes
keywords = map (λ (e : Bytes × Kind). e.0) reading.keywords

unfoldable pub keyword_of : ℕ → Bytes
keyword_of k = get_or keywords k []

-- the fields behind it on the line, but for a block's variables: a predicate and a function have a name and an argument count, variables
-- and constants a name
abbrev pub fields : Token → List Bytes
fields t = cond (leb (kind t) 9) [] (cond (leb (kind t) 11) (name t ∷ decimal (count t) ∷ []) (name t ∷ []))

-- how many variables are due behind it: a block's count
abbrev pub due : Token → ℕ
due t = cond (leb (kind t) 7) 0 (cond (leb (kind t) 9) (count t) 0)

-- What a token writes where n variables are still due on the line, and how many are due then: a variable that is due is a field, and
-- what stands where none is due begins a line. The line ends when none is due.
unfoldable pub body : ℕ → Token → Bytes
body zero t = keyword_of (kind t) ++ behind_each TAB (fields t)
body (suc n) t = TAB ∷ name t

unfoldable pub after : ℕ → Token → ℕ
after zero t = due t
after (suc n) t = n

unfoldable pub end : ℕ → Bytes
end zero = LF ∷ []
end (suc n) = []

abbrev pub piece : ℕ → Token → Bytes
piece n t = body n t ++ end (after n t)

unfoldable pub text_from : ℕ → List Token → Bytes
text_from n [] = []
text_from n (t ∷ l) = piece n t ++ text_from (after n t) l

-- the text of tokens
abbrev pub text_of : List Token → Bytes
text_of l = text_from 0 l

-- what words of a table write with their symbols' spellings: a word's name, the word where n variables are due, a run
abbrev pub name_in : Spellings → ℕ → Bytes
name_in s w = spell s.text.now s.made.now w

abbrev pub body_in : Spellings → ℕ → ℕ → Bytes
body_in s n w = body n (token s.text.now s.made.now w)

abbrev pub text_in : Spellings → List ℕ → Bytes
text_in s ws = text_of (tokens s.text.now s.made.now ws)

-- The bytes s stand in out from `at` to `next`: what was before them and behind them is as it was.
pub record Wrote (out : Bytes) (at : ℕ) (s out' : Bytes) (next : ℕ) : Type 0 where
  pub ends : next ≡ at + length s
  pub front : take next out' ≡ take at out ++ s
  pub back : drop next out' ≡ drop next out
  pub size : length out' ≡ length out

-- bytes are put at a place of out if there is room for all of them, and else none of them is
pub record Puts (out : Bytes) (at : ℕ) (s out' : Bytes) (next : ℕ) : Type 0 where
  pub room : at + length s ≤ length out → Wrote out at s out' next
  pub none : length out < at + length s → (next ≡ at) × (out' ≡ out)

-- an answer as document 01 has it: the text's length, or refusal 1 with place 0
abbrev pub answer_of : Option ℕ → Answer
answer_of (Some n) = accepted n
answer_of None = not_given 1 0

-- r says how long the text s is, if that is at most `room`
pub record Measured (s : Bytes) (room : ℕ) (r : Option ℕ) : Type 0 where
  pub answers : answer_of r ≡ fitted (given s) room

-- the text s is written to out, or out is too short and unchanged
pub record Writes (s out out' : Bytes) (r : Option ℕ) : Type 0 where
  pub answers : answer_of r ≡ fitted (given s) (length out)
  pub leaves : out' ≡ laid (given s) out
