-- The shape of a formula and the `#` in its symbols, read off its tokens; its blocks and its matrix as a cut of them.
use Rattle.std.specs.List.{list_any}
use Rattle.std.proofs.lemmas.List.Folds.{list_any-append}
use mathlib.Core.Path.{◌≡◌, refl, sym, ap, ◌∙◌}
use mathlib.Core.Bool.{Bool, true, false, not, ◌&&◌, ◌||◌, or-false}
use mathlib.Core.List.{List, [], ◌∷◌, ◌++◌, map, append_assoc}
use Prim.Native.Nat.{ℕ, suc, ◌+◌}
use native.Mathlib.Omega.{arith}
use lib.ListN.{length, length-append, length-map}
use Rattle.definitions.specs.Syntax.{Name, Term, var, con, app, Terms, nil, cons, Op, and, or, imp, iff, Quant, all, ex, Formula, top, bot, pred, eq, neg, bin, blk}
use Rattle.definitions.specs.Names.{constants, functions, syms, term_syms, terms_syms}
use Rattle.definitions.specs.Truth.{every}
use Rattle.definitions.specs.Prenex.{Prefix, plain, more, parted, no_block, all_only, is_prenex_form, is_skolem}
use Rattle.definitions.specs.Skolem.{holds_hash, hash_free}
use Rattle.definitions.proofs.Laws.Bools.{not_or}
use Rattle.text.specs.Words.{Token, var_token, sign, op_kind, block_kind, term_code, terms_code, code, kind}
use Rattle.text.specs.Prefixes.{prefix_code}
use Rattle.skolem.specs.declared.shape.Shape.TheVariants.{Skolem, Prenex, Other}
use Rattle.skolem.specs.Shape.{between, blocks_size, hashed, Shaped}

none_append : {A : Type 0} (p : A → Bool) (a b : List A) → list_any p a ≡ false → list_any p b ≡ false → list_any p (a ++ b) ≡ false
none_append p a b h k = list_any-append p a b ∙ rw (h, k)

-- tokens of blocks, and of exists blocks
abbrev pub block_token : Token → Bool
block_token t = between 8 9 (kind t)

abbrev pub exists_token : Token → Bool
exists_token t = between 9 9 (kind t)

-- No block among the tokens of terms; in a matrix exactly where the formula has one.
mutual
  unfolding term_code terms_code

  term_plain : (t : Term) → list_any block_token (term_code t) ≡ false
  term_plain (var x) = refl
  term_plain (con c) = refl
  term_plain (app f ts) = terms_plain ts

  terms_plain : (ts : Terms) → list_any block_token (terms_code ts) ≡ false
  terms_plain nil = refl
  terms_plain (cons t ts) = none_append block_token (term_code t) (terms_code ts) (term_plain t) (terms_plain ts)

op_plain : (o : Op) (l : List Token) → list_any block_token (sign (op_kind o) 0 [] ∷ l) ≡ list_any block_token l
op_plain and l = refl
op_plain or l = refl
op_plain imp l = refl
op_plain iff l = refl

no_block_read : (f : Formula) → no_block f ≡ not (list_any block_token (code f))
unfolding no_block code
no_block_read top = refl
no_block_read bot = refl
no_block_read (pred p ts) = rw (terms_plain ts)
no_block_read (eq t u) = rw (none_append block_token (term_code t) (term_code u) (term_plain t) (term_plain u))
no_block_read (neg f) = no_block_read f
no_block_read (bin o f g) =
    rw (op_plain o (code f ++ code g), list_any-append block_token (code f) (code g), no_block_read f, no_block_read g) (sym (not_or (list_any block_token (code f)) (list_any block_token (code g))))
no_block_read (blk all vs f) = refl
no_block_read (blk ex vs f) = refl

vars_plain : (vs : List Name) → list_any exists_token (map var_token vs) ≡ false
vars_plain [] = refl
vars_plain (v ∷ vs) = vars_plain vs

all_only_read : (p : Prefix) → all_only p ≡ not (list_any exists_token (prefix_code p))
unfolding all_only prefix_code
all_only_read plain = refl
all_only_read (more all vs p) = rw (list_any-append exists_token (map var_token vs) (prefix_code p), vars_plain vs) (all_only_read p)
all_only_read (more ex vs p) = refl

-- The cut between the blocks and the matrix.
pub code_parted : (f : Formula) → code f ≡ prefix_code (parted f).prefix ++ code (parted f).matrix
unfolding code parted prefix_code
code_parted top = refl
code_parted bot = refl
code_parted (pred p ts) = refl
code_parted (eq t u) = refl
code_parted (neg f) = refl
code_parted (bin o f g) = refl
code_parted (blk q vs f) =
    ap (sign (block_kind q) (length vs) [] ∷◌) (ap (λ (l : List Token). map var_token vs ++ l) (code_parted f) ∙ sym (append_assoc (map var_token vs) (prefix_code (parted f).prefix) (code (parted f).matrix)))

past_vars : (vs : List Name) (l : List Token) → blocks_size (length vs) (map var_token vs ++ l) ≡ length vs + blocks_size 0 l
unfolding blocks_size
past_vars [] l = omega arith
past_vars (v ∷ vs) l = omega (arith, past_vars vs l)

past_block : (q : Quant) (n : ℕ) (l : List Token) → blocks_size 0 (sign (block_kind q) n [] ∷ l) ≡ suc (blocks_size n l)
unfolding blocks_size
past_block all n l = refl
past_block ex n l = refl

past_op : (o : Op) (l : List Token) → blocks_size 0 (sign (op_kind o) 0 [] ∷ l) ≡ 0
unfolding blocks_size
past_op and l = refl
past_op or l = refl
past_op imp l = refl
past_op iff l = refl

pub blocks_size_read : (f : Formula) → blocks_size 0 (code f) ≡ length (prefix_code (parted f).prefix)
unfolding code parted prefix_code blocks_size
blocks_size_read top = refl
blocks_size_read bot = refl
blocks_size_read (pred p ts) = refl
blocks_size_read (eq t u) = refl
blocks_size_read (neg f) = refl
blocks_size_read (bin o f g) = past_op o (code f ++ code g)
blocks_size_read (blk q vs f) =
    past_block q (length vs) (map var_token vs ++ code f) ∙ omega (arith, past_vars vs (code f), blocks_size_read f, length-append (map var_token vs) (prefix_code (parted f).prefix), length-map vs var_token)

-- The shape.
module _ (f : Formula) where
  abbrev matrix_blocks : Bool
  matrix_blocks = list_any block_token (code (parted f).matrix)

  abbrev prefix_exists : Bool
  prefix_exists = list_any exists_token (prefix_code (parted f).prefix)

  prenex_read : is_prenex_form f ≡ not matrix_blocks
  unfolding is_prenex_form
  prenex_read = no_block_read (parted f).matrix

  skolem_read : is_skolem f ≡ (not matrix_blocks && not prefix_exists)
  unfolding is_skolem
  skolem_read = rw (prenex_read, all_only_read (parted f).prefix)

  pub other_shape : matrix_blocks ≡ true → Shaped f Other
  other_shape h = record { prenex = prenex_read ∙ rw h; skolem = skolem_read ∙ rw h }

  pub prenex_shape : matrix_blocks ≡ false → prefix_exists ≡ true → Shaped f Prenex
  prenex_shape h k = record { prenex = prenex_read ∙ rw h; skolem = skolem_read ∙ rw (h, k) }

  pub skolem_shape : matrix_blocks ≡ false → prefix_exists ≡ false → Shaped f Skolem
  skolem_shape h k = record { prenex = prenex_read ∙ rw h; skolem = skolem_read ∙ rw (h, k) }

-- `#` in a constant or a function.
every_not : (l : List Name) → every (λ n. not (holds_hash n)) l ≡ not (list_any holds_hash l)
unfolding every
every_not [] = refl
every_not (n ∷ l) = rw (every_not l) (sym (not_or (holds_hash n) (list_any holds_hash l)))

four : (a b c d : Bool) → ((a || b) || (c || d)) ≡ ((a || c) || (b || d))
four true b c d = refl
four false true true d = refl
four false true false d = refl
four false false true d = refl
four false false false d = refl

-- what two lists of tokens have, where each has what its symbols have
both_hashed : (a b : List Token) (cs ds fs gs : List Name) → list_any hashed a ≡ (list_any holds_hash cs || list_any holds_hash fs) → list_any hashed b ≡ (list_any holds_hash ds || list_any holds_hash gs)
    → list_any hashed (a ++ b) ≡ (list_any holds_hash (cs ++ ds) || list_any holds_hash (fs ++ gs))
both_hashed a b cs ds fs gs p q =
    list_any-append hashed a b ∙ rw (p, q, list_any-append holds_hash cs ds, list_any-append holds_hash fs gs) (four (list_any holds_hash cs) (list_any holds_hash fs) (list_any holds_hash ds) (list_any holds_hash gs))

swap : (a b c : Bool) → (a || (b || c)) ≡ (b || (a || c))
swap true true c = refl
swap true false c = refl
swap false b c = refl

mutual
  unfolding term_code terms_code term_syms terms_syms

  term_hashed : (t : Term) → list_any hashed (term_code t) ≡ (list_any holds_hash (term_syms constants t) || list_any holds_hash (term_syms functions t))
  term_hashed (var x) = refl
  term_hashed (con c) = sym (or-false (holds_hash c || false))
  term_hashed (app f ts) = rw (terms_hashed ts) (swap (holds_hash f) (list_any holds_hash (terms_syms constants ts)) (list_any holds_hash (terms_syms functions ts)))

  terms_hashed : (ts : Terms) → list_any hashed (terms_code ts) ≡ (list_any holds_hash (terms_syms constants ts) || list_any holds_hash (terms_syms functions ts))
  terms_hashed nil = refl
  terms_hashed (cons t ts) =
      both_hashed (term_code t) (terms_code ts) (term_syms constants t) (terms_syms constants ts) (term_syms functions t) (terms_syms functions ts) (term_hashed t) (terms_hashed ts)

op_hashed : (o : Op) (l : List Token) → list_any hashed (sign (op_kind o) 0 [] ∷ l) ≡ list_any hashed l
op_hashed and l = refl
op_hashed or l = refl
op_hashed imp l = refl
op_hashed iff l = refl

vars_hashed : (vs : List Name) (l : List Token) → list_any hashed (map var_token vs ++ l) ≡ list_any hashed l
vars_hashed [] l = refl
vars_hashed (v ∷ vs) l = vars_hashed vs l

formula_hashed : (f : Formula) → list_any hashed (code f) ≡ (list_any holds_hash (syms constants f) || list_any holds_hash (syms functions f))
unfolding code syms
formula_hashed top = refl
formula_hashed bot = refl
formula_hashed (pred p ts) = terms_hashed ts
formula_hashed (eq t u) = both_hashed (term_code t) (term_code u) (term_syms constants t) (term_syms constants u) (term_syms functions t) (term_syms functions u) (term_hashed t) (term_hashed u)
formula_hashed (neg f) = formula_hashed f
formula_hashed (bin o f g) = op_hashed o (code f ++ code g) ∙ both_hashed (code f) (code g) (syms constants f) (syms constants g) (syms functions f) (syms functions g) (formula_hashed f) (formula_hashed g)
formula_hashed (blk all vs f) = vars_hashed vs (code f) ∙ formula_hashed f
formula_hashed (blk ex vs f) = vars_hashed vs (code f) ∙ formula_hashed f

pub hash_read : (f : Formula) → list_any hashed (code f) ≡ not (hash_free f)
unfolding hash_free
hash_read f =
    formula_hashed f ∙ sym (rw (every_not (syms constants f), every_not (syms functions f)) (turned (list_any holds_hash (syms constants f)) (list_any holds_hash (syms functions f))))
  where
    turned : (a b : Bool) → not (not a && not b) ≡ (a || b)
    turned true b = refl
    turned false true = refl
    turned false false = refl
