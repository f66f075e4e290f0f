-- One exists block: some meaning for the symbols that it draws, the rest unchanged, makes its body with the new terms put in as true as the
-- block, at every assignment at once. And what putting them in does to symbols and variables.
use Rattle.std.specs.Prelude.{◌≡◌, Bool, true, false, ◌||◌, cond, ℕ, suc, ◌≤◌, eqb, length}
use Rattle.std.proofs.Math.Path.{refl, fun_ext}
use Rattle.std.proofs.Common.{sym, ◌∙◌, ap, ap₂, arith}
use Rattle.std.proofs.Math.Bool.{or-false, or_assoc}
use mathlib.Core.List.{List, [], ◌∷◌, ◌++◌}
use Rattle.std.proofs.Math.Dec.{eqb_refl}
use Rattle.definitions.specs.Bytes.{same}
use Rattle.definitions.specs.Syntax.{Formula, Name, ex, var}
use Rattle.definitions.specs.Names.{Sort, bound, constants, free, functions, mem, syms, term_syms, term_vars, terms_syms, terms_vars, without}
use Rattle.definitions.specs.Truth.{Assign, Domain, Meaning, block, truth, val, vals}
use Rattle.definitions.specs.Prenex.{sub}
use Rattle.definitions.specs.Skolem.{AlikeBut, Counts, Symbol, among, as_vars, constant_name, constant_symbol, counts_after, drawn_symbols, first_number, function_name, function_symbol, same_symbol, skolem_term}
use Rattle.definitions.proofs.Laws.Bools.{T→, by_cases, clash, or_false_left, or_false_right}
use Rattle.definitions.proofs.Laws.Sets.{mem_union, same_eq}
use Rattle.definitions.specs.Laws.Blocks.{Off}
use Rattle.definitions.proofs.Laws.Blocks.{ex_in, ex_out}
use Rattle.definitions.proofs.Laws.Free.{block_reads, truth_agree}
use Rattle.definitions.specs.Laws.Substitution.{Clear}
use Rattle.definitions.proofs.Laws.Substitution.{mem_var, sub_truth}
use Rattle.definitions.specs.Laws.Fresh.{In}
use Rattle.definitions.proofs.Laws.Symbols.{sub_free, sub_syms, truth_alike}
use Rattle.definitions.specs.Laws.Drawn.{last}
use Rattle.definitions.proofs.Laws.Drawn.{constant_inj, constants_high, constants_kept, constants_none, differ, function_inj, functions_high, functions_kept, functions_none, last_high, patch, patch_at, put_at, put_else}
use Rattle.definitions.specs.Laws.OneBlock.{High, New, Rises, block_put}

as_vars_vars : (l : List Name) (x : Name) → mem x (terms_vars (as_vars l)) ≡ mem x l
unfolding as_vars terms_vars term_vars mem
as_vars_vars [] x = refl
as_vars_vars (a ∷ l) x =
    mem_union x (a ∷ []) (terms_vars (as_vars l)) ∙ ap₂ (◌||◌) (or-false (same x a)) (as_vars_vars l x)

as_vars_syms : (k : Sort) (l : List Name) → terms_syms k (as_vars l) ≡ []
unfolding as_vars terms_syms term_syms
as_vars_syms k [] = refl
as_vars_syms k (a ∷ l) = as_vars_syms k l

module _ (D : Domain) where
  -- the assignment that arguments give
  values_at : List Name → List D.Elem → Assign D
  values_at [] ds x = D.point
  values_at (a ∷ l) [] x = D.point
  values_at (a ∷ l) (d ∷ ds) x = cond (same x a) d (values_at l ds x)

  values_at_one : (M : Meaning D) (ρ : Assign D) (l : List Name) (x : Name) → mem x l ≡ true → values_at l (vals D M ρ (as_vars l)) x ≡ ρ x
  unfolding values_at vals as_vars mem
  values_at_one M ρ [] x m = clash m refl
  values_at_one M ρ (a ∷ l) x m =
      by_cases (same x a) (λ e. rw e (ap ρ (sym (same_eq x a e)))) (λ e. rw e (values_at_one M ρ l x (rw e at m)))

  -- an assignment at which the body is as true as the block
  found : (vs : List Name) (k : Assign D → Bool) (ρ : Assign D) → (σ : Assign D) × Off D vs σ ρ × (k σ ≡ block D ex vs k ρ)
  found vs k ρ =
      by_cases (block D ex vs k ρ)
      (λ t. let (σ, off, h) = ex_out D vs k ρ t in (σ, off, h ∙ sym t))
      (λ n. (ρ, (λ x m. refl), by_cases (k ρ) (λ t. clash (ex_in D vs k ρ ρ (λ x m. refl) t) n) (λ e. e ∙ sym n)))

pub not_used : (nm : ℕ → Name) (k : ℕ) (l : List Name) → ((j : ℕ) → k ≤ j → mem (nm j) l ≡ false) → (n : Name) → mem n l ≡ true
    → (j : ℕ) → k ≤ j → same n (nm j) ≡ false
not_used nm k l h n m j b = by_cases (same n (nm j)) (λ e. clash (ap (λ z. mem z l) (sym (same_eq n (nm j) e)) ∙ m) (h j b)) (λ e. e)

pub alike_truth : (D : Domain) (k : Counts) (l : List Symbol) (M M' : Meaning D) (g : Formula) (ρ : Assign D) → High k l → New k g → AlikeBut D l M M'
    → truth D M' g ρ ≡ truth D M g ρ
unfolding New
alike_truth D k l M M' g ρ high new alike = truth_alike D M' M g ρ (record {
  on_con = λ n m. alike.on_constants n (high.on_con n (not_used constant_name k.constant (syms constants g) new.0 n m));
  on_fun = λ n m. fun_ext (λ ds. alike.on_functions n ds (high.on_fun n (length ds) (not_used function_name k.function (syms functions g) new.1 n m)));
  on_rel = λ n. fun_ext (λ ds. alike.on_predicates n ds);
})

pub among_append : (s : Symbol) (a b : List Symbol) → among s (a ++ b) ≡ (among s a || among s b)
unfolding among
among_append s [] b = refl
among_append s (t ∷ a) b = rw (among_append s a b) (sym (or_assoc (same_symbol s t) (among s a) (among s b)))

pub alike_step : (D : Domain) (a b : List Symbol) (M M₁ M' : Meaning D) → AlikeBut D a M M₁ → AlikeBut D b M₁ M' → AlikeBut D (a ++ b) M M'
alike_step D a b M M₁ M' g h = record {
  on_constants = λ n w. let e = sym (among_append (constant_symbol n) a b) ∙ w in
      h.on_constants n (or_false_right (among (constant_symbol n) a) (among (constant_symbol n) b) e)
      ∙ g.on_constants n (or_false_left (among (constant_symbol n) a) (among (constant_symbol n) b) e);
  on_functions = λ n ds w. let e = sym (among_append (function_symbol n (length ds)) a b) ∙ w in
      h.on_functions n ds (or_false_right (among (function_symbol n (length ds)) a) (among (function_symbol n (length ds)) b) e)
      ∙ g.on_functions n ds (or_false_left (among (function_symbol n (length ds)) a) (among (function_symbol n (length ds)) b) e);
  on_predicates = λ n ds. h.on_predicates n ds ∙ g.on_predicates n ds;
}

pub block_high : (args vs : List Name) (k : Counts) → High k (drawn_symbols args vs (first_number args k))
block_high [] vs k = record
    { on_con = λ n h. constants_high [] vs k.constant n h; on_fun = λ n m h. functions_none vs k.constant n m }
block_high (a ∷ l) vs k = record
    { on_con = λ n h. constants_none a l vs k.function n; on_fun = λ n m h. functions_high (a ∷ l) vs k.function n m h }

as_vars_length : (D : Domain) (M : Meaning D) (ρ : Assign D) (l : List Name) → length (vals D M ρ (as_vars l)) ≡ length l
unfolding vals as_vars
as_vars_length D M ρ [] = refl
as_vars_length D M ρ (a ∷ l) = ap suc (as_vars_length D M ρ l)

-- a drawn function on as many values as it has arguments
drawn_value : (D : Domain) (M : Meaning D) (new : List D.Elem → Name → D.Elem) (vs : List Name) (n k : ℕ) (ds : List D.Elem) (x : Name) → length ds ≡ n → mem x vs ≡ true
    → cond (eqb (length ds) n) (patch function_name function_inj (λ v. new ds v) (λ m. M.func m ds) vs k (function_name (last vs k x))) (M.func (function_name (last vs k x)) ds) ≡ new ds x
drawn_value D M new vs n k ds x e m =
    rw (e, T→ (eqb n n) (eqb_refl n)) (patch_at function_name function_inj (λ v. new ds v) (λ m. M.func m ds) vs k x m)

module _ (D : Domain) (M : Meaning D) (vs : List Name) (g : Formula) where
  -- the values to choose
  chosen : List Name → List D.Elem → Assign D
  chosen args ds = (found D vs (truth D M g) (values_at D args ds)).0

  -- functions change on as many arguments as they are drawn with, and on no other number of them
  pub grow : List Name → Counts → Meaning D
  grow [] k = record
      { const = patch constant_name constant_inj (λ v. chosen [] [] v) M.const vs k.constant; func = M.func; rel = M.rel }
  grow (a ∷ l) k = record {
    const = M.const;
    func = λ n ds. cond (eqb (length ds) (length (a ∷ l)))
        (patch function_name function_inj (λ v. chosen (a ∷ l) ds v) (λ m. M.func m ds) vs k.function n) (M.func n ds);
    rel = M.rel;
  }

  pub grow_alike : (args : List Name) (k : Counts) → AlikeBut D (drawn_symbols args vs (first_number args k)) M (grow args k)
  unfolding grow
  grow_alike [] k = record {
    on_constants = λ n w. constants_kept (λ v. chosen [] [] v) M.const vs k.constant n w;
    on_functions = λ n ds w. refl;
    on_predicates = λ n ds. refl;
  }
  grow_alike (a ∷ l) k = record {
    on_constants = λ n w. refl;
    on_functions = λ n ds w. by_cases (eqb (length ds) (length (a ∷ l)))
        (λ t. rw t (functions_kept a l (λ v. chosen (a ∷ l) ds v) (λ m. M.func m ds) vs k.function n (length ds) t w))
        (λ f. rw f);
    on_predicates = λ n ds. refl;
  }

  -- the term that is put in has the chosen value
  put_value : (args : List Name) (k : Counts) (ρ : Assign D) (x : Name) → mem x vs ≡ true
      → val D (grow args k) ρ (block_put vs args k x) ≡ chosen args (vals D (grow args k) ρ (as_vars args)) x
  unfolding grow val as_vars
  put_value [] k ρ x m =
      rw (put_at vs (skolem_term []) k.constant x m) (patch_at constant_name constant_inj (λ v. chosen [] [] v) M.const vs k.constant x m)
  put_value (a ∷ l) k ρ x m =
      rw (put_at vs (skolem_term (a ∷ l)) k.function x m) (drawn_value D M (λ ds v. chosen (a ∷ l) ds v) vs (length (a ∷ l)) k.function (vals D (grow (a ∷ l) k) ρ (as_vars (a ∷ l))) x (as_vars_length D (grow (a ∷ l) k) ρ (a ∷ l)) m)

  pub step : (args : List Name) (k : Counts) (ρ : Assign D)
      → ((x : Name) → mem x (free g) ≡ true → mem x vs ≡ false → mem x args ≡ true)
      → Clear (block_put vs args k) (bound g) → New k g
      → truth D (grow args k) (sub (block_put vs args k) g) ρ ≡ block D ex vs (truth D M g) ρ
  unfolding val chosen
  step args k ρ covers clear new =
      sub_truth D (grow args k) g (block_put vs args k) ρ clear
      ∙ alike_truth D k (drawn_symbols args vs (first_number args k)) M (grow args k) g h (block_high args vs k) new (grow_alike args k)
      ∙ truth_agree D M g h best.0 (λ x m. by_cases (mem x vs)
      (λ t. put_value args k ρ x t)
      (λ n. rw (put_else vs (skolem_term args) (first_number args k) x n) (sym (best.1 x n ∙ at x m n))))
      ∙ best.2
      ∙ block_reads D ex vs vs (free g) (truth D M g) ρ̂ ρ (truth_agree D M g) (λ x m. refl) at
    where
      h : Assign D
      h x = val D (grow args k) ρ (block_put vs args k x)

      ρ̂ : Assign D
      ρ̂ = values_at D args (vals D (grow args k) ρ (as_vars args))

      best : (σ : Assign D) × Off D vs σ ρ̂ × (truth D M g σ ≡ block D ex vs (truth D M g) ρ̂)
      best = found D vs (truth D M g) ρ̂

      at : (x : Name) → mem x (free g) ≡ true → mem x vs ≡ false → ρ̂ x ≡ ρ x
      at x m n = values_at_one D (grow args k) ρ args x (covers x m n)

skolem_vars : (args : List Name) (j : ℕ) (y : Name) → mem y (term_vars (skolem_term args j)) ≡ mem y args
unfolding term_vars mem
skolem_vars [] j y = refl
skolem_vars (a ∷ l) j y = as_vars_vars (a ∷ l) y

new_con : (args vs : List Name) (k : Counts) (y : Name) → mem y vs ≡ true → (j : ℕ) → (counts_after args (length vs) k).constant ≤ j
    → mem (constant_name j) (term_syms constants (skolem_term args (last vs (first_number args k) y))) ≡ false
unfolding term_syms mem
new_con [] vs k y m j l =
    or-false (same (constant_name j) (constant_name (last vs k.constant y)))
    ∙ differ constant_name constant_inj j (last vs k.constant y) (omega (arith, last_high vs k.constant y m))
new_con (a ∷ b) vs k y m j l = rw (as_vars_syms constants (a ∷ b))

new_fun : (args vs : List Name) (k : Counts) (y : Name) → mem y vs ≡ true → (j : ℕ) → (counts_after args (length vs) k).function ≤ j
    → mem (function_name j) (term_syms functions (skolem_term args (last vs (first_number args k) y))) ≡ false
unfolding term_syms mem
new_fun [] vs k y m j l = refl
new_fun (a ∷ b) vs k y m j l =
    rw (as_vars_syms functions (a ∷ b)) (or-false (same (function_name j) (function_name (last vs k.function y)))
    ∙ differ function_name function_inj j (last vs k.function y) (omega (arith, last_high vs k.function y m)))

pub rises : (args : List Name) (n : ℕ) (k : Counts) → Rises k (counts_after args n k)
rises [] n k = record { constant = omega arith; function = omega arith }
rises (a ∷ l) n k = record { constant = omega arith; function = omega arith }

pub put_new : (args vs : List Name) (k : Counts) (g : Formula) → New k g → New (counts_after args (length vs) k) (sub (block_put vs args k) g)
unfolding New term_syms mem
put_new args vs k g new = (
  (λ j l. sub_syms constants (constant_name j) g (block_put vs args k) (new.0 j (omega (arith, (rises args (length vs) k).constant)))
      (λ y. by_cases (mem y vs) (λ t. rw (put_at vs (skolem_term args) (first_number args k) y t) (new_con args vs k y t j l))
      (λ n. rw (put_else vs (skolem_term args) (first_number args k) y n)))),
  (λ j l. sub_syms functions (function_name j) g (block_put vs args k) (new.1 j (omega (arith, (rises args (length vs) k).function)))
      (λ y. by_cases (mem y vs) (λ t. rw (put_at vs (skolem_term args) (first_number args k) y t) (new_fun args vs k y t j l))
      (λ n. rw (put_else vs (skolem_term args) (first_number args k) y n)))),
)

-- the new terms hold no variable but their arguments
pub put_free : (args vs scope : List Name) (k : Counts) (g : Formula) → In args (without vs scope)
    → ((y : Name) → mem y (free g) ≡ true → mem y vs ≡ false → mem y (without vs scope) ≡ true)
    → In (free (sub (block_put vs args k) g)) (without vs scope)
put_free args vs scope k g i covers x m =
    by_cases (mem x (without vs scope)) (λ t. t) (λ n. clash m (sub_free x g (block_put vs args k) (λ y h.
    by_cases (mem y vs)
    (λ t. rw (put_at vs (skolem_term args) (first_number args k) y t) (skolem_vars args (last vs (first_number args k) y) x
    ∙ by_cases (mem x args) (λ a. clash (i x a) n) (λ e. e)))
    (λ e. rw (put_else vs (skolem_term args) (first_number args k) y e) (by_cases (mem x (term_vars (var y)))
    (λ b. clash (ap (λ z. mem z (without vs scope)) (mem_var y x b) ∙ covers y h e) n) (λ b. b))))))

pub put_clear : (args vs : List Name) (k : Counts) (l : List Name) → ((y : Name) → mem y args ≡ true → mem y l ≡ false) → Clear (block_put vs args k) l
put_clear args vs k l h x y m n =
    by_cases (mem x vs)
    (λ t. clash n (h y (sym (skolem_vars args (last vs (first_number args k) x) y) ∙ (rw (put_at vs (skolem_term args) (first_number args k) x t) at m))))
    (λ e. put_else vs (skolem_term args) (first_number args k) x e)
