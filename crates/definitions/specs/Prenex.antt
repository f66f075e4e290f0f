-- Prenex form (source document 000, stage 2): blocks, then a matrix with no block; prefix and matrix are kept apart. It simplifies first.
-- At a binary node the whole left prefix comes out before the right one; it flips under not and on an implication's premise; an iff
-- becomes two implications joined by and, left to right first.
use Rattle.std.specs.Prelude.{Bool, true, false, ◌&&◌, cond, List, [], ◌∷◌, ◌++◌, ℕ, zero, suc, max, length}
use Rattle.definitions.specs.Bytes.{same}
use Rattle.definitions.specs.Syntax.{Name, Term, var, con, app, Terms, nil, cons, Op, and, or, imp, iff, Quant, all, ex, Formula, top, bot, pred, eq, neg, bin, blk}
use Rattle.definitions.specs.Names.{mem, free, bound}
use Rattle.definitions.specs.Negation.{flip}
use Rattle.definitions.specs.Simplify.{simplify}

-- Terms put for variables where no block binds them: a block shadows what it binds.
abbrev pub Subst : Type 0
Subst = Name → Term

abbrev pub shade : List Name → Subst → Subst
shade vs s = λ x. cond (mem x vs) (var x) (s x)

module _ (s : Subst) where
  unfoldable mutual
    pub term_sub : Term → Term
    term_sub (var x) = s x
    term_sub (con c) = con c
    term_sub (app f ts) = app f (terms_sub ts)

    pub terms_sub : Terms → Terms
    terms_sub nil = nil
    terms_sub (cons t ts) = cons (term_sub t) (terms_sub ts)

unfoldable pub sub : Subst → Formula → Formula
sub s top = top
sub s bot = bot
sub s (pred p ts) = pred p (terms_sub s ts)
sub s (eq t u) = eq (term_sub s t) (term_sub s u)
sub s (neg f) = neg (sub s f)
sub s (bin o f g) = bin o (sub s f) (sub s g)
sub s (blk q vs f) = blk q vs (sub (shade vs s) f)

-- A new name: backticks are added until the name is none of those taken. (The number only bounds how many are tried.)
abbrev pub ticked : Name → Name
ticked x = x ++ (96 ∷ [])

unfoldable pub longest : List Name → ℕ
longest [] = 0
longest (x ∷ l) = max (length x) (longest l)

unfoldable pub fresh_from : ℕ → List Name → Name → Name
fresh_from zero taken x = x
fresh_from (suc k) taken x = let r = fresh_from k taken (ticked x) in cond (mem x taken) r x

unfoldable pub fresh : List Name → Name → Name
fresh taken x = fresh_from (suc (longest taken)) taken x

-- A block's variables with their new names: one that stands in `away` gets a new one; what is made is taken from then on.
pub data Pairs : Type 0 where
  none : Pairs
  pair : Name → Name → Pairs → Pairs

unfoldable pub olds : Pairs → List Name
olds none = []
olds (pair v w ps) = v ∷ olds ps

unfoldable pub news : Pairs → List Name
news none = []
news (pair v w ps) = w ∷ news ps

abbrev pub next : List Name → List Name → Name → Name
next away taken v = cond (mem v away) (fresh taken v) v

unfoldable pub renames : List Name → List Name → List Name → Pairs
renames [] away taken = none
renames (v ∷ vs) away taken = pair v (next away taken v) (renames vs away (next away taken v ∷ taken))

-- what a variable becomes: the last pair that has it decides
unfoldable pub to : Pairs → Name → Name
to none x = x
to (pair v w ps) x = cond (mem x (olds ps)) (to ps x) (cond (same x v) w x)

-- Prefix and matrix.
pub data Prefix : Type 0 where
  plain : Prefix
  more : Quant → List Name → Prefix → Prefix

pub record Prenex : Type 0 where
  pub prefix : Prefix
  pub matrix : Formula

unfoldable pub close : Prefix → Formula → Formula
close plain m = m
close (more q vs p) m = blk q vs (close p m)

abbrev pub formula : Prenex → Formula
formula p = close p.prefix p.matrix

abbrev pub add : Quant → List Name → Prenex → Prenex
add q vs p = record { prefix = more q vs p.prefix; matrix = p.matrix }

-- the blocks of a prefix shadow what they bind
unfoldable pub shades : Prefix → Subst → Subst
shades plain s = s
shades (more q vs p) s = shades p (shade vs s)

-- A block's variable is renamed when it is free in the other side g; the new name is none of the block's, nor of either side's, bound or
-- free. The sides are taken as they stand at that moment: f is what the block still has below it.
abbrev pub taken_names : List Name → Formula → Formula → List Name
taken_names vs f g = vs ++ ((bound f ++ free f) ++ (bound g ++ free g))

abbrev pub apart : List Name → Formula → Formula → Pairs
apart vs f g = renames vs (free g) (taken_names vs f g)

abbrev pub as_subst : Pairs → Subst
as_subst ps = λ x. var (to ps x)

abbrev pub premise : Op → Quant → Quant
premise and q = q
premise or q = q
premise imp q = flip q
premise iff q = q

-- the right prefix comes out, over the bare left matrix
unfoldable pub pull_right : Op → Formula → Prefix → Formula → Prenex
pull_right o m plain n = record { prefix = plain; matrix = bin o m n }
pull_right o m (more q vs p) n =
    let ps = apart vs (close p n) m in
    add q (news ps) (pull_right o m p (sub (shades p (as_subst ps)) n))

-- the whole left prefix before it
unfoldable pub pull : Op → Prefix → Formula → Prefix → Formula → Prenex
pull o plain m p n = pull_right o m p n
pull o (more q vs p') m p n =
    let ps = apart vs (close p' m) (close p n) in
    add (premise o q) (news ps) (pull o p' (sub (shades p' (as_subst ps)) m) p n)

abbrev pub merge : Op → Prenex → Prenex → Prenex
merge o a b = pull o a.prefix a.matrix b.prefix b.matrix

unfoldable pub flips : Prefix → Prefix
flips plain = plain
flips (more q vs p) = more (flip q) vs (flips p)

abbrev pub bare : Formula → Prenex
bare f = record { prefix = plain; matrix = f }

unfoldable pub outward : Formula → Prenex
outward top = bare top
outward bot = bare bot
outward (pred p ts) = bare (pred p ts)
outward (eq t u) = bare (eq t u)
outward (neg f) = record { prefix = flips (outward f).prefix; matrix = neg (outward f).matrix }
outward (bin and f g) = merge and (outward f) (outward g)
outward (bin or f g) = merge or (outward f) (outward g)
outward (bin imp f g) = merge imp (outward f) (outward g)
outward (bin iff f g) = merge and (merge imp (outward f) (outward g)) (merge imp (outward g) (outward f))
outward (blk q vs f) = add q vs (outward f)

unfoldable pub pnf : Formula → Prenex
pnf f = outward (simplify f)

-- prefix and matrix of a formula as it stands
unfoldable pub parted : Formula → Prenex
parted top = bare top
parted bot = bare bot
parted (pred p ts) = bare (pred p ts)
parted (eq t u) = bare (eq t u)
parted (neg f) = bare (neg f)
parted (bin o f g) = bare (bin o f g)
parted (blk q vs f) = add q vs (parted f)

-- Prenex: the matrix has no block. Skolem: the same with forall blocks only. (Refusal 4 is given where a rule is not so.)
unfoldable pub no_block : Formula → Bool
no_block top = true
no_block bot = true
no_block (pred p ts) = true
no_block (eq t u) = true
no_block (neg f) = no_block f
no_block (bin o f g) = no_block f && no_block g
no_block (blk q vs f) = false

unfoldable pub all_only : Prefix → Bool
all_only plain = true
all_only (more all vs p) = all_only p
all_only (more ex vs p) = false

unfoldable pub is_prenex_form : Formula → Bool
is_prenex_form f = no_block (parted f).matrix

unfoldable pub is_skolem : Formula → Bool
is_skolem f = is_prenex_form f && all_only (parted f).prefix
