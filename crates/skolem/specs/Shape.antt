-- What is asked of a rule before the stage: its shape (refusal 4), no `#` in a constant or a function (refusal 5); and its blocks and its
-- matrix, apart.
use Rattle.std.specs.Prelude.{◌≡◌, Bool, true, false, ◌&&◌, ◌||◌, cond, List, [], ◌∷◌, ◌++◌, ℕ, zero, suc, eqb, leb}
use Rattle.definitions.specs.Bytes.{Bytes}
use Rattle.definitions.specs.Syntax.{Formula}
use Rattle.definitions.specs.Prenex.{parted, is_prenex_form, is_skolem}
use Rattle.definitions.specs.Skolem.{holds_hash}
use Rattle.text.specs.Words.{Token, var_token, sign, tokens, kind, count, code}
use Rattle.text.specs.Prefixes.{prefix_code}
use Rattle.skolem.specs.declared.shape.Shape.{Shape}
use Rattle.skolem.specs.declared.shape.Shape.TheVariants.{Skolem, Prenex, Other}

-- a kind between two others
abbrev pub between : ℕ → ℕ → ℕ → Bool
between low high k = leb low k && leb k high

-- the tokens of the blocks that a formula begins with, where `left` variables of a block are still to come
unfoldable pub blocks_size : ℕ → List Token → ℕ
blocks_size left [] = 0
blocks_size zero (t ∷ l) = cond (between 8 9 (kind t)) (suc (blocks_size (count t) l)) 0
blocks_size (suc left) (t ∷ l) = suc (blocks_size left l)

-- a constant or a function with `#`
abbrev pub hashed : Token → Bool
hashed (var_token x) = false
hashed (sign k n s) = (eqb k 11 || eqb k 13) && holds_hash s

-- what a shape says
abbrev pub prenex_shape : Shape → Bool
prenex_shape Skolem = true
prenex_shape Prenex = true
prenex_shape Other = false

abbrev pub skolem_shape : Shape → Bool
skolem_shape Skolem = true
skolem_shape Prenex = false
skolem_shape Other = false

pub record Shaped (f : Formula) (r : Shape) : Type 0 where
  pub prenex : is_prenex_form f ≡ prenex_shape r
  pub skolem : is_skolem f ≡ skolem_shape r

-- the words B are the blocks of a formula as it stands, and the words X its matrix
pub record Parted (T M : Bytes) (B X : List ℕ) (f : Formula) : Type 0 where
  pub blocks : tokens T M B ≡ prefix_code (parted f).prefix
  pub body : tokens T M X ≡ code (parted f).matrix

-- the words W in two parts, which are a formula's if W are
pub record Splits (W B X : List ℕ) : Type 0 where
  pub whole : W ≡ B ++ X
  pub parts : (T M : Bytes) (f : Formula) → tokens T M W ≡ code f → Parted T M B X f
