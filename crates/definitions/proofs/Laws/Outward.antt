-- The order of blocks. In the prenex form the blocks of a rule stand in reading order (an iff read as its two implications, left to right
-- first), each as its sign has it: flipped once for each `not` and each premise around it. So no block comes out before one that it stood
-- inside. A block keeps its number of variables; renaming changes their names alone.
use Rattle.std.specs.Prelude.{◌≡◌, refl, Bool, true, false, not, cond, List, [], ◌∷◌, ◌++◌, map, ℕ, suc, max, length}
use Rattle.std.proofs.Common.{sym, ap, ap₂, ◌∙◌, arith}
use Rattle.std.proofs.lemmas.List.{map-append}
use Rattle.definitions.specs.Syntax.{Name, Term, var, con, app, Terms, nil, cons, count, Op, and, or, imp, iff, Quant, all, ex, Formula, top, bot, pred, eq, neg, bin, blk}
use Rattle.definitions.specs.Names.{mem, term_widest, terms_widest, widest}
use Rattle.definitions.specs.Negation.{flip}
use Rattle.definitions.specs.Simplify.{simplify}
use Rattle.definitions.specs.Prenex.{Subst, shade, term_sub, terms_sub, sub, Pairs, Prefix, plain, more, Prenex, close, formula, shades, apart, as_subst, news, renames, next, premise, pull_right, pull, merge, flips, outward, pnf}
use Rattle.definitions.proofs.Laws.Bools.{by_cases}
use Rattle.definitions.specs.Laws.Outward.{Block, blocks, prefix_blocks, turned}

-- renaming keeps the number of variables
news_length : (vs away taken : List Name) → length (news (renames vs away taken)) ≡ length vs
unfolding news renames
news_length [] away taken = refl
news_length (v ∷ vs) away taken = ap suc (news_length vs away (next away taken v ∷ taken))

block_of : (q : Quant) {m n : ℕ} {l k : List Block} → m ≡ n → l ≡ k → record { quantifier = q; variables = m } ∷ l ≡ record { quantifier = q; variables = n } ∷ k
block_of q e f = ap₂ (λ (v : ℕ) (l : List Block). record { quantifier = q; variables = v } ∷ l) e f

-- the sign of a left side
abbrev left_sign : Op → Bool
left_sign and = false
left_sign or = false
left_sign imp = true
left_sign iff = false

premise_turned : (o : Op) (q : Quant) → premise o q ≡ cond (left_sign o) (flip q) q
premise_turned and q = refl
premise_turned or q = refl
premise_turned imp q = refl
premise_turned iff q = refl

right_blocks : (o : Op) (m : Formula) (p : Prefix) (n : Formula) → prefix_blocks (pull_right o m p n).prefix ≡ prefix_blocks p
unfolding pull_right prefix_blocks
right_blocks o m plain n = refl
right_blocks o m (more q vs p) n =
    let ps = apart vs (close p n) m in
    block_of q (news_length vs _ _) (right_blocks o m p (sub (shades p (as_subst ps)) n))

-- the whole left prefix before the right one
pull_blocks : (o : Op) (p : Prefix) (m : Formula) (q : Prefix) (n : Formula) → prefix_blocks (pull o p m q n).prefix ≡ map (turned (left_sign o)) (prefix_blocks p) ++ prefix_blocks q
unfolding pull prefix_blocks
pull_blocks o plain m q n = right_blocks o m q n
pull_blocks o (more k vs p) m q n =
    let ps = apart vs (close p m) (close q n) in
    rw (premise_turned o k) (block_of (cond (left_sign o) (flip k) k) (news_length vs _ _) (pull_blocks o p (sub (shades p (as_subst ps)) m) q n))

flips_blocks : (p : Prefix) → prefix_blocks (flips p) ≡ map (turned true) (prefix_blocks p)
unfolding flips prefix_blocks
flips_blocks plain = refl
flips_blocks (more q vs p) = ap (record { quantifier = flip q; variables = length vs } ∷◌) (flips_blocks p)

-- a sign over a sign: two flips are none
abbrev over : Bool → Bool → Bool
over s true = not s
over s false = s

map_over : (s t : Bool) (l : List Block) → map (turned s) (map (turned t) l) ≡ map (turned (over s t)) l
map_over s t [] = refl
map_over s t (k ∷ l) = ap₂ (λ (q : Quant) (r : List Block). record { quantifier = q; variables = k.variables } ∷ r) (twice s t k.quantifier) (map_over s t l)
  where
    twice : (s t : Bool) (q : Quant) → cond s (flip (cond t (flip q) q)) (cond t (flip q) q) ≡ cond (over s t) (flip q) q
    twice true true all = refl
    twice true true ex = refl
    twice true false q = refl
    twice false true q = refl
    twice false false q = refl

-- a node over two forms, under a sign
node_blocks : (s : Bool) (o : Op) (x y : Prenex)
    → map (turned s) (prefix_blocks (merge o x y).prefix) ≡ map (turned (over s (left_sign o))) (prefix_blocks x.prefix) ++ map (turned s) (prefix_blocks y.prefix)
node_blocks s o x y =
    ap (map (turned s)) (pull_blocks o x.prefix x.matrix y.prefix y.matrix)
    ∙ map-append (turned s) (map (turned (left_sign o)) (prefix_blocks x.prefix)) (prefix_blocks y.prefix)
    ∙ ap (λ (l : List Block). l ++ map (turned s) (prefix_blocks y.prefix)) (map_over s (left_sign o) (prefix_blocks x.prefix))

signed_blocks : (f : Formula) (s : Bool) → map (turned s) (prefix_blocks (outward f).prefix) ≡ blocks s f
unfolding outward blocks prefix_blocks
signed_blocks top s = refl
signed_blocks bot s = refl
signed_blocks (pred p ts) s = refl
signed_blocks (eq t u) s = refl
signed_blocks (neg f) s = ap (map (turned s)) (flips_blocks (outward f).prefix) ∙ map_over s true (prefix_blocks (outward f).prefix) ∙ signed_blocks f (not s)
signed_blocks (bin and f g) s = node_blocks s and (outward f) (outward g) ∙ ap₂ (◌++◌) (signed_blocks f s) (signed_blocks g s)
signed_blocks (bin or f g) s = node_blocks s or (outward f) (outward g) ∙ ap₂ (◌++◌) (signed_blocks f s) (signed_blocks g s)
signed_blocks (bin imp f g) s = node_blocks s imp (outward f) (outward g) ∙ ap₂ (◌++◌) (signed_blocks f (not s)) (signed_blocks g s)
signed_blocks (bin iff f g) s =
    node_blocks s and (merge imp (outward f) (outward g)) (merge imp (outward g) (outward f))
    ∙ ap₂ (◌++◌) (node_blocks s imp (outward f) (outward g) ∙ ap₂ (◌++◌) (signed_blocks f (not s)) (signed_blocks g s))
    (node_blocks s imp (outward g) (outward f) ∙ ap₂ (◌++◌) (signed_blocks g (not s)) (signed_blocks f s))
signed_blocks (blk q vs f) s = ap (turned s (record { quantifier = q; variables = length vs }) ∷◌) (signed_blocks f s)

no_sign : (l : List Block) → map (turned false) l ≡ l
no_sign [] = refl
no_sign (k ∷ l) = ap (k ∷◌) (no_sign l)

-- the prefix is the blocks of the formula, in reading order
pub outward_blocks : (f : Formula) → prefix_blocks (outward f).prefix ≡ blocks false f
outward_blocks f = sym (no_sign (prefix_blocks (outward f).prefix)) ∙ signed_blocks f false

-- and that of the prenex form those of the simplified rule
pub pnf_blocks : (f : Formula) → prefix_blocks (pnf f).prefix ≡ blocks false (simplify f)
unfolding pnf
pnf_blocks f = outward_blocks (simplify f)

-- Variables are put for variables, so no function gets more arguments: refusal 7 has only the weight to look at.
abbrev Narrow : Subst → Type 0
Narrow s = (x : Name) → term_widest (s x) ≡ 0

module _ (s : Subst) (h : Narrow s) where
  mutual
    unfolding term_sub terms_sub term_widest terms_widest count

    term_same : (t : Term) → term_widest (term_sub s t) ≡ term_widest t
    term_same (var x) = h x
    term_same (con c) = refl
    term_same (app f ts) = ap₂ max (count_same ts) (terms_same ts)

    terms_same : (ts : Terms) → terms_widest (terms_sub s ts) ≡ terms_widest ts
    terms_same nil = refl
    terms_same (cons t ts) = ap₂ max (term_same t) (terms_same ts)

    count_same : (ts : Terms) → count (terms_sub s ts) ≡ count ts
    count_same nil = refl
    count_same (cons t ts) = ap suc (count_same ts)

shade_narrow : (vs : List Name) (s : Subst) → Narrow s → Narrow (shade vs s)
unfolding term_widest
shade_narrow vs s h x = by_cases (mem x vs) (λ t. rw t) (λ f. rw f (h x))

shades_narrow : (p : Prefix) (s : Subst) → Narrow s → Narrow (shades p s)
unfolding shades
shades_narrow plain s h = h
shades_narrow (more q vs p) s h = shades_narrow p (shade vs s) (shade_narrow vs s h)

sub_widest : (f : Formula) (s : Subst) → Narrow s → widest (sub s f) ≡ widest f
unfolding sub widest
sub_widest top s h = refl
sub_widest bot s h = refl
sub_widest (pred p ts) s h = terms_same s h ts
sub_widest (eq t u) s h = ap₂ max (term_same s h t) (term_same s h u)
sub_widest (neg f) s h = sub_widest f s h
sub_widest (bin o f g) s h = ap₂ max (sub_widest f s h) (sub_widest g s h)
sub_widest (blk q vs f) s h = sub_widest f (shade vs s) (shade_narrow vs s h)

-- the names that a block's variables get
named_widest : (p : Prefix) (ps : Pairs) (m : Formula) → widest (sub (shades p (as_subst ps)) m) ≡ widest m
unfolding term_widest
named_widest p ps m = sub_widest m (shades p (as_subst ps)) (shades_narrow p (as_subst ps) (λ x. refl))

right_widest : (o : Op) (m : Formula) (p : Prefix) (n : Formula) → widest (pull_right o m p n).matrix ≡ max (widest m) (widest n)
unfolding pull_right widest
right_widest o m plain n = refl
right_widest o m (more q vs p) n =
    let ps = apart vs (close p n) m in
    right_widest o m p (sub (shades p (as_subst ps)) n) ∙ ap (max (widest m)) (named_widest p ps n)

pull_widest : (o : Op) (p : Prefix) (m : Formula) (q : Prefix) (n : Formula) → widest (pull o p m q n).matrix ≡ max (widest m) (widest n)
unfolding pull
pull_widest o plain m q n = right_widest o m q n
pull_widest o (more k vs p) m q n =
    let ps = apart vs (close p m) (close q n) in
    pull_widest o p (sub (shades p (as_subst ps)) m) q n ∙ ap (λ (w : ℕ). max w (widest n)) (named_widest p ps m)

merge_widest : (o : Op) (x y : Prenex) → widest (merge o x y).matrix ≡ max (widest x.matrix) (widest y.matrix)
merge_widest o x y = pull_widest o x.prefix x.matrix y.prefix y.matrix

matrix_widest : (f : Formula) → widest (outward f).matrix ≡ widest f
unfolding outward widest
matrix_widest top = refl
matrix_widest bot = refl
matrix_widest (pred p ts) = refl
matrix_widest (eq t u) = refl
matrix_widest (neg f) = matrix_widest f
matrix_widest (bin and f g) = merge_widest and (outward f) (outward g) ∙ ap₂ max (matrix_widest f) (matrix_widest g)
matrix_widest (bin or f g) = merge_widest or (outward f) (outward g) ∙ ap₂ max (matrix_widest f) (matrix_widest g)
matrix_widest (bin imp f g) = merge_widest imp (outward f) (outward g) ∙ ap₂ max (matrix_widest f) (matrix_widest g)
matrix_widest (bin iff f g) =
    omega (arith, merge_widest and (merge imp (outward f) (outward g)) (merge imp (outward g) (outward f)), merge_widest imp (outward f) (outward g), merge_widest imp (outward g) (outward f), matrix_widest f, matrix_widest g)
matrix_widest (blk q vs f) = matrix_widest f

close_widest : (p : Prefix) (m : Formula) → widest (close p m) ≡ widest m
unfolding close widest
close_widest plain m = refl
close_widest (more q vs p) m = close_widest p m

pub outward_widest : (f : Formula) → widest (formula (outward f)) ≡ widest f
outward_widest f = close_widest (outward f).prefix (outward f).matrix ∙ matrix_widest f
