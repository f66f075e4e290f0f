-- A prenex form in two tables: the words of its blocks, and those of its matrix. Names that are made later are written behind the first
-- `used` bytes of the made names, so what the tables hold is stated over every continuation of those.
use Rattle.std.specs.Prelude.{◌≡◌, true, List, [], ◌∷◌, ◌++◌, ℕ, ◌≤◌, take}
use Rattle.definitions.specs.Bytes.{Bytes}
use Rattle.definitions.specs.Syntax.{Name}
use Rattle.definitions.specs.Limits.{house}
use Rattle.definitions.specs.Prenex.{Prefix, plain, more, Prenex, no_block}
use Rattle.text.specs.Words.{Token, var_token, sign, tokens, block_code, code}
use Rattle.text.specs.declared.table.Table.{Table}

-- the variables among tokens
unfoldable pub names : List Token → List Name
names [] = []
names (var_token x ∷ l) = x ∷ names l
names (sign k n s ∷ l) = names l

-- the tokens of a prefix: those of each block in order
unfoldable pub prefix_code : Prefix → List Token
prefix_code plain = []
prefix_code (more q vs p) = block_code q vs ++ prefix_code p

-- words that stand for ts, whatever stands in M behind its first `used` bytes
abbrev pub Firm : Bytes → Bytes → ℕ → List ℕ → List Token → Type 0
Firm T M used ws ts = (M' : Bytes) → take used M' ≡ take used M → tokens T M' ws ≡ ts

-- two tables that hold the blocks and the matrix of a prenex form, whatever stands in M behind its first `used` bytes
pub record Apart (T M : Bytes) (used : ℕ) (prefix matrix : Table) (p : Prenex) : Type 0 where
  pub prefix_room : prefix.used ≤ house.weight
  pub matrix_room : matrix.used ≤ house.weight
  pub blocks : Firm T M used (take prefix.used prefix.nodes) (prefix_code p.prefix)
  pub body : Firm T M used (take matrix.used matrix.nodes) (code p.matrix)
  pub flat : no_block p.matrix ≡ true
