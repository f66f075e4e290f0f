-- What a prenex form that is given looks like, at the level of bytes: blocks, and then a matrix with no block and no iff; and the blocks
-- are the simplified rule's in reading order, iffs written out, each flipped by its sign.
use Rattle.std.specs.Prelude.{◌≡◌, refl, true, ◌&&◌}
use Rattle.std.proofs.Common.{sym, ap₂, ◌∙◌}
use Rattle.definitions.specs.Bytes.{Bytes}
use Rattle.definitions.specs.Syntax.{Op, and, or, imp, iff, Formula, top, bot, pred, eq, neg, bin, blk}
use Rattle.definitions.specs.Limits.{Limits}
use Rattle.definitions.specs.RuleText.{written}
use Rattle.definitions.specs.Simplify.{simplify}
use Rattle.definitions.specs.Prenex.{Subst, sub, Prefix, plain, more, Prenex, close, formula, shades, apart, as_subst, pull_right, pull, merge, outward, pnf}
use Rattle.definitions.specs.Convert.{convert, convert_tree, given, to_pnf}
use Rattle.definitions.proofs.Laws.Bools.{and_both}
use Rattle.definitions.specs.Laws.Once.{flat}
use Rattle.definitions.proofs.Laws.Outward.{pnf_blocks}
use Rattle.definitions.proofs.Laws.Given.{given_inj, prenex_passed, was_read}
use Rattle.definitions.specs.Laws.Told.{PrenexTold}

-- renaming leaves the shape
sub_flat : (f : Formula) (s : Subst) → flat (sub s f) ≡ flat f
unfolding flat sub
sub_flat top s = refl
sub_flat bot s = refl
sub_flat (pred p ts) s = refl
sub_flat (eq t u) s = refl
sub_flat (neg f) s = sub_flat f s
sub_flat (bin and f g) s = ap₂ (◌&&◌) (sub_flat f s) (sub_flat g s)
sub_flat (bin or f g) s = ap₂ (◌&&◌) (sub_flat f s) (sub_flat g s)
sub_flat (bin imp f g) s = ap₂ (◌&&◌) (sub_flat f s) (sub_flat g s)
sub_flat (bin iff f g) s = refl
sub_flat (blk q vs f) s = refl

-- a node that is no iff over two matrices
abbrev Level : Op → Type 0
Level o = (f g : Formula) → flat f ≡ true → flat g ≡ true → flat (bin o f g) ≡ true

level_and : Level and
unfolding flat
level_and f g h k = and_both h k

level_or : Level or
unfolding flat
level_or f g h k = and_both h k

level_imp : Level imp
unfolding flat
level_imp f g h k = and_both h k

right_flat : (o : Op) → Level o → (m : Formula) (p : Prefix) (n : Formula) → flat m ≡ true → flat n ≡ true → flat (pull_right o m p n).matrix ≡ true
unfolding pull_right
right_flat o l m plain n h k = l m n h k
right_flat o l m (more q vs p) n h k =
    let s = shades p (as_subst (apart vs (close p n) m)) in
    right_flat o l m p (sub s n) h (sub_flat n s ∙ k)

pull_flat : (o : Op) → Level o → (p : Prefix) (m : Formula) (r : Prefix) (n : Formula) → flat m ≡ true → flat n ≡ true → flat (pull o p m r n).matrix ≡ true
unfolding pull
pull_flat o l plain m r n h k = right_flat o l m r n h k
pull_flat o l (more q vs p) m r n h k =
    let s = shades p (as_subst (apart vs (close p m) (close r n))) in
    pull_flat o l p (sub s m) r n (sub_flat m s ∙ h) k

merge_flat : (o : Op) → Level o → (a b : Prenex) → flat a.matrix ≡ true → flat b.matrix ≡ true → flat (merge o a b).matrix ≡ true
merge_flat o l a b h k = pull_flat o l a.prefix a.matrix b.prefix b.matrix h k

matrix_flat : (f : Formula) → flat (outward f).matrix ≡ true
unfolding outward flat
matrix_flat top = refl
matrix_flat bot = refl
matrix_flat (pred p ts) = refl
matrix_flat (eq t u) = refl
matrix_flat (neg f) = matrix_flat f
matrix_flat (bin and f g) = merge_flat and level_and (outward f) (outward g) (matrix_flat f) (matrix_flat g)
matrix_flat (bin or f g) = merge_flat or level_or (outward f) (outward g) (matrix_flat f) (matrix_flat g)
matrix_flat (bin imp f g) = merge_flat imp level_imp (outward f) (outward g) (matrix_flat f) (matrix_flat g)
matrix_flat (bin iff f g) =
    merge_flat and level_and (merge imp (outward f) (outward g)) (merge imp (outward g) (outward f))
    (merge_flat imp level_imp (outward f) (outward g) (matrix_flat f) (matrix_flat g))
    (merge_flat imp level_imp (outward g) (outward f) (matrix_flat g) (matrix_flat f))
matrix_flat (blk q vs f) = matrix_flat f

pub pnf_flat : (f : Formula) → flat (pnf f).matrix ≡ true
unfolding pnf
pnf_flat f = matrix_flat (simplify f)

pub pnf_told : (L : Limits) (text s : Bytes) → convert L to_pnf text ≡ given s → PrenexTold L text s
unfolding convert_tree
pnf_told L text s e =
    let (f, r, c) = was_read L to_pnf text s e in
    let (p, g) = prenex_passed L f (given (written (formula (pnf f)))) s c in
    record { rule = f; form = pnf f; reads = r; writes = sym (given_inj g); shape = pnf_flat f; order = pnf_blocks f }
