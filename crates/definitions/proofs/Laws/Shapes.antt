-- The shape of each form. A negation form has `not` on atoms only, no implies and no iff; a prenex form is blocks and then a matrix with no
-- block; a Skolem form the same with forall blocks only. So what a stage gives is what the next one asks for.
use Rattle.std.specs.Prelude.{◌≡◌, refl, true, ◌&&◌, List, ◌++◌, length}
use Rattle.std.proofs.Common.{sym, ◌∙◌, ap, ap₂}
use Rattle.std.proofs.Math.Bool.{and_self}
use Rattle.definitions.specs.Syntax.{Name, and, or, imp, iff, all, ex, Formula, top, bot, pred, eq, neg, bin, blk}
use Rattle.definitions.specs.Names.{without, free}
use Rattle.definitions.specs.Simplify.{simplify}
use Rattle.definitions.specs.Negation.{nnf, push_negation}
use Rattle.definitions.specs.Prenex.{Prefix, plain, more, Prenex, close, formula, add, shades, sub, pnf, parted, no_block, all_only, is_prenex_form, is_skolem}
use Rattle.definitions.specs.Skolem.{Counts, arguments, put, skolem_term, first_number, counts_after, skolem, skolemise, skolem_formula, zero_counts}
use Rattle.definitions.specs.Convert.{snf, snf_of_prenex}
use Rattle.definitions.specs.Laws.Shapes.{is_atom, negated, ready}
use Rattle.definitions.proofs.Laws.Bools.{clash, and_true_left, and_true_right}
use Rattle.definitions.proofs.Laws.Prenex.{sub_no_block, outward_no_block}

mutual
  unfolding nnf push_negation negated

  pub nnf_negated : (f : Formula) → negated (nnf f) ≡ true
  nnf_negated top = refl
  nnf_negated bot = refl
  nnf_negated (pred p ts) = refl
  nnf_negated (eq t u) = refl
  nnf_negated (neg f) = push_negated f
  nnf_negated (bin and f g) = rw (nnf_negated f, nnf_negated g)
  nnf_negated (bin or f g) = rw (nnf_negated f, nnf_negated g)
  nnf_negated (bin imp f g) = rw (push_negated f, nnf_negated g)
  nnf_negated (bin iff f g) = rw (nnf_negated f, nnf_negated g, push_negated f, push_negated g)
  nnf_negated (blk q vs f) = nnf_negated f

  pub push_negated : (f : Formula) → negated (push_negation f) ≡ true
  push_negated top = refl
  push_negated bot = refl
  push_negated (pred p ts) = refl
  push_negated (eq t u) = refl
  push_negated (neg f) = nnf_negated f
  push_negated (bin and f g) = rw (push_negated f, push_negated g)
  push_negated (bin or f g) = rw (push_negated f, push_negated g)
  push_negated (bin imp f g) = rw (nnf_negated f, push_negated g)
  push_negated (bin iff f g) = rw (nnf_negated f, nnf_negated g, push_negated f, push_negated g)
  push_negated (blk q vs f) = push_negated f

-- a negation form is its own negation form
pub negated_fixed : (f : Formula) → negated f ≡ true → nnf f ≡ f
unfolding nnf push_negation negated
negated_fixed top h = refl
negated_fixed bot h = refl
negated_fixed (pred p ts) h = refl
negated_fixed (eq t u) h = refl
negated_fixed (neg f) h = atom_fixed f h
  where
    atom_fixed : (f : Formula) → is_atom f ≡ true → push_negation f ≡ neg f
    atom_fixed top h = clash h refl
    atom_fixed bot h = clash h refl
    atom_fixed (pred p ts) h = refl
    atom_fixed (eq t u) h = refl
    atom_fixed (neg f) h = clash h refl
    atom_fixed (bin o f g) h = clash h refl
    atom_fixed (blk q vs f) h = clash h refl
negated_fixed (bin and f g) h =
    ap₂ (bin and) (negated_fixed f (and_true_left (negated f) (negated g) h)) (negated_fixed g (and_true_right (negated f) (negated g) h))
negated_fixed (bin or f g) h =
    ap₂ (bin or) (negated_fixed f (and_true_left (negated f) (negated g) h)) (negated_fixed g (and_true_right (negated f) (negated g) h))
negated_fixed (bin imp f g) h = clash h refl
negated_fixed (bin iff f g) h = clash h refl
negated_fixed (blk q vs f) h = ap (blk q vs) (negated_fixed f h)

-- No block comes in, and none goes.
mutual
  unfolding nnf push_negation no_block

  pub nnf_no_block : (f : Formula) → no_block (nnf f) ≡ no_block f
  nnf_no_block top = refl
  nnf_no_block bot = refl
  nnf_no_block (pred p ts) = refl
  nnf_no_block (eq t u) = refl
  nnf_no_block (neg f) = push_no_block f
  nnf_no_block (bin and f g) = rw (nnf_no_block f, nnf_no_block g)
  nnf_no_block (bin or f g) = rw (nnf_no_block f, nnf_no_block g)
  nnf_no_block (bin imp f g) = rw (push_no_block f, nnf_no_block g)
  nnf_no_block (bin iff f g) = rw (nnf_no_block f, nnf_no_block g, push_no_block f, push_no_block g) (and_self (no_block f && no_block g))
  nnf_no_block (blk q vs f) = refl

  push_no_block : (f : Formula) → no_block (push_negation f) ≡ no_block f
  push_no_block top = refl
  push_no_block bot = refl
  push_no_block (pred p ts) = refl
  push_no_block (eq t u) = refl
  push_no_block (neg f) = nnf_no_block f
  push_no_block (bin and f g) = rw (push_no_block f, push_no_block g)
  push_no_block (bin or f g) = rw (push_no_block f, push_no_block g)
  push_no_block (bin imp f g) = rw (nnf_no_block f, push_no_block g)
  push_no_block (bin iff f g) = rw (nnf_no_block f, nnf_no_block g, push_no_block f, push_no_block g) (and_self (no_block f && no_block g))
  push_no_block (blk q vs f) = refl

pub nnf_ready : (m : Formula) → no_block m ≡ true → ready (nnf m) ≡ true
unfolding ready
nnf_ready m h = rw (nnf_negated m, nnf_no_block m) h

-- Prefix and matrix come apart as they were put together.
pub parted_close : (p : Prefix) (m : Formula) → no_block m ≡ true → parted (close p m) ≡ record { prefix = p; matrix = m }
unfolding parted close no_block
parted_close plain top h = refl
parted_close plain bot h = refl
parted_close plain (pred p ts) h = refl
parted_close plain (eq t u) h = refl
parted_close plain (neg f) h = refl
parted_close plain (bin o f g) h = refl
parted_close plain (blk q vs f) h = clash h refl
parted_close (more q vs p) m h = ap (add q vs) (parted_close p m h)

pub close_parted : (f : Formula) → formula (parted f) ≡ f
unfolding parted close
close_parted top = refl
close_parted bot = refl
close_parted (pred p ts) = refl
close_parted (eq t u) = refl
close_parted (neg f) = refl
close_parted (bin o f g) = refl
close_parted (blk q vs f) = ap (blk q vs) (close_parted f)

-- Prenex.
pub pnf_no_block : (f : Formula) → no_block (pnf f).matrix ≡ true
unfolding pnf
pnf_no_block f = outward_no_block (simplify f)

pub pnf_prenex : (f : Formula) → is_prenex_form (formula (pnf f)) ≡ true
unfolding is_prenex_form
pnf_prenex f = rw (parted_close (pnf f).prefix (pnf f).matrix (pnf_no_block f)) (pnf_no_block f)

-- Skolem.
pub skolem_all_only : (p : Prefix) (m : Formula) (scope : List Name) (k : Counts) → all_only (skolem p m scope k).prefix ≡ true
unfolding skolem all_only
skolem_all_only plain m scope k = refl
skolem_all_only (more all vs p) m scope k = skolem_all_only p m (without vs scope ++ vs) k
skolem_all_only (more ex vs p) m scope k =
    let args = arguments vs p scope in
    skolem_all_only p (sub (shades p (put vs (skolem_term args) (first_number args k))) m) (without vs scope) (counts_after args (length vs) k)

pub skolem_no_block : (p : Prefix) (m : Formula) (scope : List Name) (k : Counts) → no_block (skolem p m scope k).matrix ≡ no_block m
unfolding skolem
skolem_no_block plain m scope k = refl
skolem_no_block (more all vs p) m scope k = skolem_no_block p m (without vs scope ++ vs) k
skolem_no_block (more ex vs p) m scope k =
    let args = arguments vs p scope in
    let s = shades p (put vs (skolem_term args) (first_number args k)) in
    skolem_no_block p (sub s m) (without vs scope) (counts_after args (length vs) k) ∙ sub_no_block s m

pub skolemise_all_only : (p : Prenex) (k : Counts) → all_only (skolemise p k).prefix ≡ true
unfolding skolemise
skolemise_all_only p k = skolem_all_only p.prefix p.matrix (free (formula p)) k

pub skolemise_no_block : (p : Prenex) (k : Counts) → no_block p.matrix ≡ true → no_block (skolemise p k).matrix ≡ true
unfolding skolemise
skolemise_no_block p k h = skolem_no_block p.prefix p.matrix (free (formula p)) k ∙ h

pub skolemise_skolem : (p : Prenex) (k : Counts) → no_block p.matrix ≡ true → is_skolem (skolem_formula (skolemise p k)) ≡ true
unfolding is_skolem is_prenex_form
skolemise_skolem p k h =
    let s = skolemise p k in
    rw (parted_close s.prefix s.matrix (skolemise_no_block p k h), skolemise_no_block p k h) (skolemise_all_only p k)

pub snf_skolem : (f : Formula) → is_skolem (skolem_formula (snf f)) ≡ true
snf_skolem f = skolemise_skolem (pnf f) zero_counts (pnf_no_block f)

pub pnf_snf_skolem : (f : Formula) → is_prenex_form f ≡ true → is_skolem (skolem_formula (snf_of_prenex f)) ≡ true
unfolding is_prenex_form
pnf_snf_skolem f h = skolemise_skolem (parted f) zero_counts h

-- `snf` is `pnf` and then `pnf-snf`
pub snf_in_two : (f : Formula) → snf f ≡ snf_of_prenex (formula (pnf f))
snf_in_two f = ap (λ p. skolemise p zero_counts) (sym (parted_close (pnf f).prefix (pnf f).matrix (pnf_no_block f)))
