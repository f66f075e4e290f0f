-- How long the pieces of a listing are.
use mathlib.Core.Path.{◌≡◌}
use Prim.Native.Nat.{ℕ, ◌+◌}
use native.Mathlib.Omega.{arith}
use lib.Dec.{leb}
use lib.ListN.{length, length-append}
use Rattle.definitions.proofs.Laws.Bools.{by_cases}
use Rattle.writer.specs.Writer.{text_in}
use Rattle.listing.specs.declared.source.Source.{Source}
use Rattle.listing.specs.Texts.{sign_line, literal_text, literal_in, words_in}

pub sign_length : (x : ℕ) → length (sign_line x) ≡ 4
sign_length x = by_cases (leb 1024 x) (λ t. rw t) (λ f. rw f)

-- a literal: its sign's line, and its atom's text
pub literal_length : (t : Source) (x : ℕ) → length (literal_in t x) ≡ 4 + length (text_in t.spellings (words_in t x))
unfolding literal_text
literal_length t x = omega (arith, length-append (sign_line x) (text_in t.spellings (words_in t x)), sign_length x)
