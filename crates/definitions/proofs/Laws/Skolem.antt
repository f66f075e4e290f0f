-- Some meaning for the symbols that are drawn, the rest unchanged, makes the Skolem form as true as the prenex form, at every assignment
-- at once; and whatever they mean, the Skolem form implies the prenex form.
use Rattle.std.specs.Prelude.{◌≡◌, refl, true, false, not, ◌↔◌, List, ◌++◌, length}
use Rattle.std.proofs.Common.{sym, ◌∙◌, ap, arith}
use Rattle.std.proofs.Math.Path.{fun_ext}
use Rattle.std.proofs.Math.Bool.{and-false}
use Rattle.definitions.specs.Syntax.{Formula, Name, all, bin, blk, bot, eq, ex, neg, pred, top}
use Rattle.definitions.specs.Names.{bound, constants, free, functions, mem, syms, without}
use Rattle.definitions.specs.Truth.{Assign, Domain, Meaning, block, truth, val}
use Rattle.definitions.specs.Prenex.{Prefix, Prenex, close, formula, more, no_block, plain, shades, sub}
use Rattle.definitions.specs.Skolem.{AlikeBut, Counts, among, arguments, binders, constant_name, constant_symbol, counts_after, drawn_symbols, first_number, function_name, function_symbol, skolem, skolem_formula, skolem_term, skolemise}
use Rattle.definitions.proofs.Laws.Bools.{and_true_left, and_true_right, by_cases, clash, or_left, or_right}
use Rattle.definitions.proofs.Laws.Sets.{mem_append, mem_filter}
use Rattle.definitions.proofs.Laws.Blocks.{all_in, all_out, ex_in}
use Rattle.definitions.proofs.Laws.Substitution.{sub_truth}
use Rattle.definitions.specs.Laws.Fresh.{In}
use Rattle.definitions.proofs.Laws.Prenex.{sub_close, sub_no_block}
use Rattle.definitions.proofs.Laws.Drawn.{put_else}
use Rattle.definitions.specs.Laws.OneBlock.{New, High, block_put}
use Rattle.definitions.proofs.Laws.OneBlock.{not_used, alike_truth, among_append, alike_step, block_high, grow, grow_alike, step, rises, put_new, put_free, put_clear}
use Rattle.definitions.specs.Laws.Skolem.{FreshFor}

free_close : (p : Prefix) (m : Formula) (x : Name) → mem x (binders p) ≡ true → mem x (free (close p m)) ≡ false
unfolding binders free close mem
free_close plain m x b = clash b refl
free_close (more q vs p) m x b =
    mem_filter x (λ y. not (mem y vs)) (free (close p m))
    ∙ by_cases (mem x vs)
    (λ t. rw t (and-false (mem x (free (close p m)))))
    (λ n. rw (free_close p m x (rw n at (sym (mem_append x vs (binders p)) ∙ b))))

bound_none : (m : Formula) (y : Name) → no_block m ≡ true → mem y (bound m) ≡ false
unfolding no_block bound mem
bound_none top y e = refl
bound_none bot y e = refl
bound_none (pred p ts) y e = refl
bound_none (eq t u) y e = refl
bound_none (neg f) y e = bound_none f y e
bound_none (bin o f g) y e =
    mem_append y (bound f) (bound g)
    ∙ rw (bound_none f y (and_true_left (no_block f) (no_block g) e), bound_none g y (and_true_right (no_block f) (no_block g) e))
bound_none (blk q vs f) y e = clash e refl

bound_close : (p : Prefix) (m : Formula) (y : Name) → no_block m ≡ true → mem y (bound (close p m)) ≡ mem y (binders p)
unfolding binders close bound mem
bound_close plain m y e = bound_none m y e
bound_close (more q vs p) m y e =
    mem_append y vs (bound (close p m)) ∙ rw (bound_close p m y e) (sym (mem_append y vs (binders p)))

module _ (vs : List Name) (p : Prefix) (m : Formula) (scope : List Name) (whole : In (without vs (free (close p m))) scope) where
  in_rest : (x : Name) → mem x (free (close p m)) ≡ true → mem x vs ≡ false → mem x (without vs scope) ≡ true
  in_rest x h n =
      mem_filter x (λ y. not (mem y vs)) scope
      ∙ rw (whole x (mem_filter x (λ y. not (mem y vs)) (free (close p m)) ∙ rw (h, n)), n)

  in_args : (x : Name) → mem x (free (close p m)) ≡ true → mem x vs ≡ false → mem x (arguments vs p scope) ≡ true
  in_args x h n =
      mem_filter x (λ y. not (mem y (binders p))) (without vs scope)
      ∙ rw (in_rest x h n) (by_cases (mem x (binders p)) (λ t. clash h (free_close p m x t)) (λ e. rw e))

args_in : (vs : List Name) (p : Prefix) (scope : List Name) → In (arguments vs p scope) (without vs scope)
args_in vs p scope x h =
    and_true_left (mem x (without vs scope)) (not (mem x (binders p))) (sym (mem_filter x (λ y. not (mem y (binders p))) (without vs scope)) ∙ h)

args_out : (vs : List Name) (p : Prefix) (scope : List Name) (y : Name) → mem y (arguments vs p scope) ≡ true → mem y (binders p) ≡ false
args_out vs p scope y h =
    by_cases (mem y (binders p))
    (λ t. clash h (mem_filter y (λ z. not (mem z (binders p))) (without vs scope) ∙ rw t (and-false (mem y (without vs scope)))))
    (λ e. e)

in_appended : (vs : List Name) (l scope : List Name) → In (without vs l) scope → In l (without vs scope ++ vs)
in_appended vs l scope h x m =
    mem_append x (without vs scope) vs ∙ by_cases (mem x vs)
    (λ t. or_right (mem x (without vs scope)) (mem x vs) t)
    (λ n. or_left (mem x (without vs scope)) (mem x vs) (mem_filter x (λ y. not (mem y vs)) scope
    ∙ rw (h x (mem_filter x (λ y. not (mem y vs)) l ∙ rw (m, n)), n)))

-- what is drawn has numbers from the counts on
pub drawn_high : (p : Prefix) (m : Formula) (scope : List Name) (k : Counts) → High k (skolem p m scope k).drawn
unfolding skolem among
drawn_high plain m scope k = record { on_con = λ n h. refl; on_fun = λ n j h. refl }
drawn_high (more all vs p) m scope k = drawn_high p m (without vs scope ++ vs) k
drawn_high (more ex vs p) m scope k =
    let args = arguments vs p scope in
    let k' = counts_after args (length vs) k in
    let l = (skolem p (sub (shades p (block_put vs args k)) m) (without vs scope) k').drawn in
    let here = block_high args vs k in
    let there = drawn_high p (sub (shades p (block_put vs args k)) m) (without vs scope) k' in
    let up = rises args (length vs) k in record {
      on_con = λ n h. among_append (constant_symbol n) (drawn_symbols args vs (first_number args k)) l
          ∙ rw (here.on_con n h) (there.on_con n (λ j b. h j (omega (arith, up.constant))));
      on_fun = λ n i h. among_append (function_symbol n i) (drawn_symbols args vs (first_number args k)) l
          ∙ rw (here.on_fun n i h) (there.on_fun n i (λ j b. h j (omega (arith, up.function))));
    }

-- some meaning of the symbols drawn makes the Skolem form as true as the formula, at every assignment
pub skolem_law : (D : Domain) (p : Prefix) (M : Meaning D) (m : Formula) (scope : List Name) (k : Counts)
    → no_block m ≡ true → In (free (close p m)) scope → New k (close p m)
    → (M' : Meaning D) × AlikeBut D (skolem p m scope k).drawn M M'
    × ((ρ : Assign D) → truth D M' (skolem_formula (skolem p m scope k)) ρ ≡ truth D M (close p m) ρ)
unfolding skolem close free truth New syms
skolem_law D plain M m scope k plain-m i new =
    (M, record { on_constants = λ n w. refl; on_functions = λ n ds w. refl; on_predicates = λ n ds. refl }, (λ ρ. refl))
skolem_law D (more all vs p) M m scope k plain-m i new =
    let (M', alike, h) = skolem_law D p M m (without vs scope ++ vs) k plain-m (in_appended vs (free (close p m)) scope i) new in
    (M', alike, (λ ρ. ap (λ b. block D all vs b ρ) (fun_ext h)))
skolem_law D (more ex vs p) M m scope k plain-m i new =
    let args = arguments vs p scope in
    let s = block_put vs args k in
    let k' = counts_after args (length vs) k in
    let M₁ = grow D M vs (close p m) args k in
    let (M', alike, h) = skolem_law D p M₁ (sub (shades p s) m) (without vs scope) k'
    (sub_no_block (shades p s) m ∙ plain-m)
    (rw (sub_close p s m) (put_free args vs scope k (close p m) (args_in vs p scope) (in_rest vs p m scope i)))
    (rw (sub_close p s m) (put_new args vs k (close p m) new)) in (
      M',
      alike_step D (drawn_symbols args vs (first_number args k)) (skolem p (sub (shades p s) m) (without vs scope) k').drawn M M₁ M'
          (grow_alike D M vs (close p m) args k) alike,
      (λ ρ. h ρ ∙ rw (sub_close p s m) (step D M vs (close p m) args k ρ (in_args vs p m scope i)
          (put_clear args vs k (bound (close p m)) (λ y a. bound_close p m y plain-m ∙ args_out vs p scope y a)) new)),
    )

-- whatever the new symbols mean, the Skolem form implies the formula
pub skolem_back : (D : Domain) (M : Meaning D) (p : Prefix) (m : Formula) (scope : List Name) (k : Counts) (ρ : Assign D)
    → no_block m ≡ true → truth D M (skolem_formula (skolem p m scope k)) ρ ≡ true → truth D M (close p m) ρ ≡ true
unfolding skolem close truth val
skolem_back D M plain m scope k ρ plain-m h = h
skolem_back D M (more all vs p) m scope k ρ plain-m h =
    all_in D vs (truth D M (close p m)) ρ (λ σ off. skolem_back D M p m (without vs scope ++ vs) k σ plain-m
    (all_out D vs (truth D M (skolem_formula (skolem p m (without vs scope ++ vs) k))) ρ σ h off))
skolem_back D M (more ex vs p) m scope k ρ plain-m h =
    let args = arguments vs p scope in
    let s = block_put vs args k in
    let t : truth D M (close p m) (λ x. val D M ρ (s x)) ≡ true =
    sym (sub_truth D M (close p m) s ρ (put_clear args vs k (bound (close p m)) (λ y a. bound_close p m y plain-m ∙ args_out vs p scope y a)))
    ∙ (rw (sub_close p s m) at (skolem_back D M p (sub (shades p s) m) (without vs scope) (counts_after args (length vs) k) ρ
    (sub_no_block (shades p s) m ∙ plain-m) h)) in
    ex_in D vs (truth D M (close p m)) ρ (λ x. val D M ρ (s x)) (λ x n. rw (put_else vs (skolem_term args) (first_number args k) x n)) t

-- The formula holds under an assignment exactly when some meaning for the symbols drawn, the rest unchanged, makes the Skolem form hold.
pub skolem_iff : (D : Domain) (M : Meaning D) (p : Prenex) (k : Counts) (ρ : Assign D) → no_block p.matrix ≡ true → New k (formula p)
    → (truth D M (formula p) ρ ≡ true)
    ↔ ((M' : Meaning D) × AlikeBut D (skolemise p k).drawn M M' × (truth D M' (skolem_formula (skolemise p k)) ρ ≡ true))
unfolding skolemise
skolem_iff D M p k ρ plain-m new = (
  (λ t. let (M', alike, h) = skolem_law D p.prefix M p.matrix (free (formula p)) k plain-m (λ x i. i) new in (M', alike, h ρ ∙ t)),
  (λ r. sym (alike_truth D k (skolem p.prefix p.matrix (free (formula p)) k).drawn M r.0 (formula p) ρ
      (drawn_high p.prefix p.matrix (free (formula p)) k) new r.1)
      ∙ skolem_back D r.0 p.prefix p.matrix (free (formula p)) k ρ plain-m r.2),
)

-- One meaning for the symbols drawn does for all assignments at once.
pub skolem_one : (D : Domain) (M : Meaning D) (p : Prenex) (k : Counts) → no_block p.matrix ≡ true → New k (formula p)
    → (M' : Meaning D) × AlikeBut D (skolemise p k).drawn M M'
    × ((ρ : Assign D) → truth D M' (skolem_formula (skolemise p k)) ρ ≡ truth D M (formula p) ρ)
unfolding skolemise
skolem_one D M p k plain-m new = skolem_law D p.prefix M p.matrix (free (formula p)) k plain-m (λ x i. i) new

pub drawn_fresh : (p : Prenex) (k : Counts) (f : Formula) → New k f → FreshFor f (skolemise p k).drawn
unfolding skolemise New
drawn_fresh p k f new =
    let high = drawn_high p.prefix p.matrix (free (formula p)) k in record {
      constant = λ n h. by_cases (mem n (syms constants f))
          (λ t. clash h (high.on_con n (not_used constant_name k.constant (syms constants f) new.0 n t))) (λ e. e);
      function = λ n m h. by_cases (mem n (syms functions f))
          (λ t. clash h (high.on_fun n m (not_used function_name k.function (syms functions f) new.1 n t))) (λ e. e);
    }
