-- Prenex form (source document 000, stage 2): at a binary node the whole left prefix comes out before the right one. A block's variable is
-- renamed when it is free in the other side; the new name is none of the block's, either side's (bound or free), nor one already made here.
-- Here a side is what its tables hold: the tokens of its prefix and of its matrix. Its variables are renamed in one walk over its prefix.
-- Two sides put together so are the definitions' (`merge_prefix`, `merge_matrix` in proofs/Merged.antt).
use Rattle.std.specs.Prelude.{Bool, not, ◌&&◌, cond, List, [], ◌∷◌, ◌++◌, map}
use Rattle.definitions.specs.Bytes.{same}
use Rattle.definitions.specs.Syntax.{Name, Op, and, or, imp, iff, Quant}
use Rattle.definitions.specs.Names.{mem}
use Rattle.definitions.specs.Negation.{flip}
use Rattle.definitions.specs.Prenex.{fresh, Prefix, plain, more, Prenex}
use Rattle.text.specs.Words.{Token, var_token, sign, code}
use Rattle.text.specs.Prefixes.{names, prefix_code}

-- w for the variable x
unfoldable pub put : Name → Name → Token → Token
put x w (var_token y) = var_token (cond (same x y) w y)
put x w (sign k n s) = sign k n s

pub record Side : Type 0 where
  pub prefix : List Token
  pub matrix : List Token

-- tokens before a side's prefix
abbrev pub behind : List Token → Side → Side
behind l s = record { prefix = l ++ s.prefix; matrix = s.matrix }

-- Q and N: the other side's prefix and matrix
module _ (Q N : List Token) where
  -- in prenex form a variable is free exactly if the matrix has it and no block binds it
  abbrev pub is_free : Name → Bool
  is_free x = mem x (names N) && not (mem x (names Q))

  -- every name in reach: the block's so far, x, the rest of the prefix, the other prefix, the two matrices
  abbrev pub reach : List Name → Name → List Token → List Token → List Name
  reach S x rest m = (S ++ (x ∷ (names rest ++ names Q))) ++ (names m ++ names N)

  abbrev pub new_name : List Name → Name → List Token → List Token → Name
  new_name S x rest m = cond (is_free x) (fresh (reach S x rest m) x) x

  -- what x binds in the matrix, unless it is bound again behind it
  abbrev pub renamed : Name → Name → List Token → List Token → List Token
  renamed x w rest m = cond (mem x (names rest)) m (map (put x w) m)

  -- S: the names of the block so far
  unfoldable pub walk : List Name → List Token → List Token → Side
  walk S [] m = record { prefix = []; matrix = m }
  walk S (var_token x ∷ rest) m =
      let w = new_name S x rest m in
      behind (var_token w ∷ []) (walk (S ++ (w ∷ [])) rest (renamed x w rest m))
  walk S (sign k n s ∷ rest) m = behind (sign k n s ∷ []) (walk [] rest m)

-- both sides of a binary node: the left apart from the right with its prefix, then the right apart from the bare left matrix
abbrev pub left_apart : Side → Side → Side
left_apart a b = walk b.prefix b.matrix [] a.prefix a.matrix

abbrev pub right_apart : Side → Side → Side
right_apart a b = walk [] (left_apart a b).matrix [] b.prefix b.matrix

-- a quantifier as a sign has it: flipped or as it stands
abbrev pub turning : Bool → Quant → Quant
turning b q = cond b (flip q) q

-- the sign of a left side: it flips on an implication's premise
abbrev pub left_sign : Op → Bool → Bool
left_sign and b = b
left_sign or b = b
left_sign imp b = not b
left_sign iff b = b

-- the kinds of a prefix's blocks changed
unfoldable pub each : (Quant → Quant) → Prefix → Prefix
each f plain = plain
each f (more q vs p) = more (f q) vs (each f p)

-- a prenex form as its tables hold it, its blocks flipped where the sign says so
abbrev pub coded : Bool → Prenex → Side
coded b p = record { prefix = prefix_code (each (turning b) p.prefix); matrix = code p.matrix }
