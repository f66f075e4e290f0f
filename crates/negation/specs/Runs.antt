-- What a run does: it reads the first of some words, and writes behind the words of a table. Words count by what they stand for: `d` decodes
-- a word to its token, over whatever rule text and made names.
use Rattle.std.specs.Prelude.{ℕ, ◌+◌, ◌<◌, ◌≤◌, Bool, true, false, ◌≡◌, List, ◌∷◌, ◌++◌, map, length, max, Result, IfOk, MatchResult}
use Rattle.std.specs.Borrow.{Bor}
use Rattle.definitions.specs.Bytes.{Bytes}
use Rattle.definitions.specs.Limits.{house}
use Rattle.definitions.specs.Syntax.{Formula, Terms, count}
use Rattle.definitions.specs.Negation.{nnf, push_negation}
use Rattle.text.specs.declared.kind.Kind.{Kind}
use Rattle.text.specs.declared.table.Full.{Full}
use Rattle.text.specs.declared.table.Table.{Table}
use Rattle.text.specs.Kinds.{number}
use Rattle.text.specs.Tables.{words_of}
use Rattle.text.specs.Words.{Token, token, kind_of_word, code, terms_code}

-- the words S begin with w, a word of the kind k, and q stand behind it
pub record Read (S : List ℕ) (k : Kind) (w : ℕ) (q : List ℕ) : Type 0 where
  pub split : S ≡ w ∷ q
  pub kind : kind_of_word w ≡ number k

-- the words S do not begin with a word of any kind
abbrev pub Blank : List ℕ → Type 0
Blank S = (w : ℕ) (q : List ℕ) → S ≡ w ∷ q → 13 < kind_of_word w

-- what a run gives: the words behind those that it read
abbrev pub Rest : Type 0
Rest = Result (Bor (List ℕ)) Full

-- a table t' has the words of t, and behind them words that stand for the tokens o. An array's length is its type's, but behind a borrow it is
-- known only where a field is read: so it is a premise here, and met where the runs begin.
pub record Added (d : ℕ → Token) (t t' : Table) (o : List Token) : Type 0 where
  pub used : t'.used ≡ t.used + length o
  pub words : length t.nodes ≡ house.weight → (length t'.nodes ≡ house.weight) × (map d (words_of t') ≡ map d (words_of t) ++ o)

-- how a run ends that finds some tokens and then `rest`: they are read and o is written, or the table has no room for o
abbrev pub End : (ℕ → Token) → Table → Rest → Table → List Token → List Token → Type 0
End d t r t' rest o = MatchResult r (λ q. (map d q.now ≡ rest) × Added d t t' o) (λ _. house.weight < t.used + length o)

-- a run that turns the tokens i into o
pub record Runs (d : ℕ → Token) (S : List ℕ) (t : Table) (r : Rest) (t' : Table) (i o : List Token) : Type 0 where
  pub ends : (rest : List Token) → map d S ≡ i ++ rest → End d t r t' rest o

-- a run that copies terms, as many as are due, behind the tokens `head`
abbrev pub Copies : List ℕ → Table → Rest → Table → ℕ → (Bytes → Bytes → List Token) → Type 0
Copies S t r t' due head = (T M : Bytes) (ts : Terms) → count ts ≡ due → Runs (token T M) S t r t' (terms_code ts) (head T M ++ terms_code ts)

-- a run that turns a formula into its form
abbrev pub Turns : List ℕ → Table → Rest → Table → (Formula → Formula) → Type 0
Turns S t r t' form = (T M : Bytes) (f : Formula) → Runs (token T M) S t r t' (code f) (code (form f))

-- whatever the words are: a run that is done reads forward, and none writes past the table or changes its array's length
abbrev pub Safe : List ℕ → Table → Rest → Table → Type 0
Safe S t r t' = IfOk r (λ q. length q.now ≤ length S) × (t'.used ≤ max t.used house.weight) × (length t'.nodes ≡ length t.nodes)

-- the negation form of a formula, or of its negation where the sign says so
abbrev pub signed : Bool → Formula → Formula
signed false f = nnf f
signed true f = push_negation f
