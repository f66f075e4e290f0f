-- The text that a source gives, whatever it holds: so the writer has an answer for any. Of a source that stands for clauses it is their
-- listing (proofs/Same.antt).
use Rattle.std.specs.Prelude.{cond, List, [], ◌∷◌, ◌++◌, ℕ, ◌%◌, leb, length, get_or}
use Rattle.definitions.specs.Bytes.{Bytes, LF}
use Rattle.definitions.specs.Clauses.{clause_word, clauses_word, counted_line}
use Rattle.text.specs.Words.{tokens}
use Rattle.writer.specs.Writer.{text_of}
use Rattle.clauses.specs.Ranks.{part}
use Rattle.listing.specs.declared.source.Source.{Source}

-- the texts of words one behind another
unfoldable pub each_text : (ℕ → Bytes) → List ℕ → Bytes
each_text f [] = []
each_text f (x ∷ l) = f x ++ each_text f l

-- a literal's number is its atom's rank, and 1,024 more for a negative one
abbrev pub sign_line : ℕ → Bytes
sign_line x = cond (leb 1024 x) (110 ∷ 101 ∷ 103 ∷ LF ∷ []) (112 ∷ 111 ∷ 115 ∷ LF ∷ [])

abbrev pub atom_words : List ℕ → List ℕ → ℕ → List ℕ
atom_words S atoms x = part S (get_or atoms (x % 1024) 0)

-- over the rule text T, the made names M, the words S and the parts of S that are atoms: a literal, a clause of literals' numbers, the clauses
-- of an index into a store of literals
module _ (T M : Bytes) (S atoms : List ℕ) where
  unfoldable pub literal_text : ℕ → Bytes
  literal_text x = sign_line x ++ text_of (tokens T M (atom_words S atoms x))

  unfoldable pub clause_text : List ℕ → Bytes
  clause_text c = counted_line clause_word (length c) ++ each_text literal_text c

  abbrev pub stored_text : List ℕ → ℕ → Bytes
  stored_text store w = clause_text (part store w)

  unfoldable pub set_text : List ℕ → List ℕ → Bytes
  set_text store index = counted_line clauses_word (length index) ++ each_text (stored_text store) index

-- the same over what the code reads
abbrev pub literal_in : Source → ℕ → Bytes
literal_in s x = literal_text s.spellings.text.now s.spellings.made.now s.words.now s.atoms.now x

abbrev pub words_in : Source → ℕ → List ℕ
words_in s x = atom_words s.words.now s.atoms.now x

abbrev pub clause_in : Source → List ℕ → Bytes
clause_in s c = clause_text s.spellings.text.now s.spellings.made.now s.words.now s.atoms.now c

abbrev pub stored_in : Source → ℕ → Bytes
stored_in s w = clause_in s (part s.literals.now w)

abbrev pub set_in : Source → Bytes
set_in s = set_text s.spellings.text.now s.spellings.made.now s.words.now s.atoms.now s.literals.now s.index.now
