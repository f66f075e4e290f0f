-- A prenex form in two lists of words, those of its blocks and those of its matrix: of two tables (`Apart`), or the two parts of a formula
-- that is in prenex form as it stands.
use Rattle.std.specs.Prelude.{◌≡◌, true, List, ℕ, ◌+◌, ◌≤◌, length}
use Rattle.std.proofs.Common.{arith, length-append, length-take}
use Rattle.definitions.specs.Bytes.{Bytes}
use Rattle.definitions.specs.Limits.{house}
use Rattle.definitions.specs.Syntax.{Formula}
use Rattle.definitions.specs.Prenex.{Prenex, parted, no_block}
use Rattle.text.specs.Words.{code}
use Rattle.text.specs.declared.table.Table.{Table}
use Rattle.text.specs.Tables.{words_of}
use Rattle.text.specs.Prefixes.{prefix_code, Firm, Apart}
use Rattle.skolem.specs.Shape.{Splits}

-- the words P and X are the blocks and the matrix of a prenex form, whatever stands in M behind its first `used` bytes
pub record Parts (T M : Bytes) (used : ℕ) (P X : List ℕ) (p : Prenex) : Type 0 where
  pub prefix_room : length P ≤ house.weight
  pub matrix_room : length X ≤ house.weight
  pub blocks : Firm T M used P (prefix_code p.prefix)
  pub body : Firm T M used X (code p.matrix)
  pub flat : no_block p.matrix ≡ true

pub of_tables : {T M : Bytes} {used : ℕ} {a b : Table} {p : Prenex} → Apart T M used a b p → Parts T M used (words_of a) (words_of b) p
of_tables {a = a} {b} h = record {
  prefix_room = omega (arith, h.prefix_room, length-take a.used a.nodes);
  matrix_room = omega (arith, h.matrix_room, length-take b.used b.nodes);
  blocks = h.blocks;
  body = h.body;
  flat = h.flat;
}

pub of_split : {T M : Bytes} {used : ℕ} {W P X : List ℕ} (f : Formula) → Splits W P X → length W ≤ house.weight → Firm T M used W (code f)
    → no_block (parted f).matrix ≡ true → Parts T M used P X (parted f)
of_split {T} {W = W} {P} {X} f s room words flat =
    let both : length W ≡ length P + length X = rw s.whole (length-append P X) in record {
      prefix_room = omega (arith, both);
      matrix_room = omega (arith, both);
      blocks = λ N e. (s.parts T N f (words N e)).blocks;
      body = λ N e. (s.parts T N f (words N e)).body;
      flat = flat;
    }
