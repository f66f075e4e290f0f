-- How stages 2 and 3 end, as the definitions of the conversions have it.
use mathlib.Core.Path.{◌≡◌, refl, ◌∙◌}
use mathlib.Core.Bool.{true, false}
use mathlib.Core.List.{List, [], ◌++◌}
use Prim.Native.Nat.{ℕ, ◌*◌, ◌≤◌}
use native.Mathlib.Omega.{arith}
use lib.Dec.{ltb}
use Rattle.std.specs.Prelude.{Result, Ok, Err}
use lib.ListN.{length}
use Rattle.std.proofs.Common.{append-nil}
use borrow.Author.Tests.{ltb-false, lt-ltb, le-ltb}
use Rattle.definitions.specs.Bytes.{Bytes}
use Rattle.definitions.specs.Syntax.{Quant, Formula, weight}
use Rattle.definitions.specs.Limits.{house, published}
use Rattle.definitions.specs.RuleText.{written}
use Rattle.definitions.specs.Names.{free, bound, widest}
use Rattle.definitions.specs.Truth.{every}
use Rattle.definitions.specs.Simplify.{simplify}
use Rattle.definitions.specs.Prenex.{Prenex, formula, pnf, outward}
use Rattle.definitions.specs.Skolem.{skolemise, skolem_formula, zero_counts}
use Rattle.definitions.specs.Skolem as form
use Rattle.definitions.specs.Negation.{nnf}
use Rattle.definitions.specs.Clauses.{raw, clauses, listing}
use Rattle.definitions.specs.Convert.{Result as Outcome, given, refused_if, too_large, too_long, too_many, stage, through_prenex, as_clauses, convert_tree, to_pnf}
use Rattle.definitions.proofs.Laws.Bools.{by_cases, or_false_left, or_false_right, not_flip}
use Rattle.definitions.specs.Laws.Within.{Within}
use Rattle.definitions.proofs.Laws.Kept.{simplify_each, nnf_each, widest_most, variables_each}
use Rattle.definitions.specs.Laws.Passing.{short, few}
use Rattle.definitions.proofs.Laws.Passing.{good_each, each_stage, simplify_stage}
use Rattle.definitions.proofs.Laws.Outward.{outward_widest}
use Rattle.text.specs.Words.{tokens, code}
use Rattle.text.specs.Tables.{words_of, Holds}
use Rattle.text.specs.Prefixes.{prefix_code, Apart}
use Rattle.negation.specs.Stage.{Negated}
use Rattle.prenex.specs.declared.Prenexed.{Prenexed}
use Rattle.prenex.specs.declared.Unmade.{Unmade as Stopped}
use Rattle.prenex.specs.declared.Fate.{Fate}
use Rattle.prenex.specs.declared.Fate.TheVariants.{Heavy, Long, Unfit}
use Rattle.prenex.specs.Stage.{Fails, Outcome as Outward}
use Rattle.skolem.specs.declared.Skolemised.{Skolemised}
use Rattle.skolem.specs.declared.Unmade.{Unmade}
use Rattle.skolem.specs.declared.Fate.{Fate as Ends}
use Rattle.skolem.specs.declared.Fate.TheVariants as ends
use Rattle.skolem.specs.declared.counters.Counters.{Counters}
use Rattle.skolem.specs.Stage as third
use Rattle.skolem.specs.Stage.{Skolemises}
use Rattle.skolem.specs.Parts.{Parts}
use Rattle.text.specs.declared.table.Full.{Full}
use Rattle.text.specs.declared.table.Table.{Table}
use Rattle.convert.specs.declared.Refusal.TheVariants.{Weight}
use Rattle.convert.specs.Answers.{Answered, unprenexed, unskolemised}
use Rattle.convert.proofs.Shown.{is_refused}
use Rattle.convert.specs.Stages.{Rule, Prenexes, Tame, Narrow}
use Rattle.convert.proofs.Tame.{tame_from, narrow_from, skolemise_tame, matrix_each}

-- stage 2 behind stage 1
pub as_pnf : (T M : Bytes) (r : Result Prenexed Stopped) (f : Formula) → Outward T M r (outward (simplify f)) → Outward T M r (pnf f)
unfolding pnf
as_pnf T M r f o = o

-- stage 2 refuses a rule within the limits for its weight and its names alone
prenex_narrow : (f : Formula) → Within house f → widest (formula (pnf f)) ≤ house.arguments
unfolding pnf
prenex_narrow f w =
    let e = outward_widest (simplify f) in
    omega (arith, e, widest_most (short house) house.arguments (simplify f) (simplify_each (short house) (few house) f (good_each house f w.good)))

prenex_large : (f : Formula) → Within house f → too_large house (formula (pnf f)) ≡ ltb house.weight (weight (formula (pnf f)))
unfolding too_large
prenex_large f w = rw (le-ltb house.arguments (widest (formula (pnf f))) (prenex_narrow f w)) (by_cases (ltb house.weight (weight (formula (pnf f)))) (λ t. rw t) (λ e. rw e))

abbrev second : Formula → Outcome → Outcome
second f r = stage house 2 (formula (pnf f)) r

pub prenex_refused : {T M M' out : Bytes} {W : List ℕ} {f : Formula} {o : Result Prenexed Stopped} (e : Stopped) (r : Outcome) → Prenexes T M W M' o → o ≡ Err e → published house ≤ length M → Rule T W f
    → Answered (through_prenex house f r) out (Err (unprenexed e.fate)) out
prenex_refused {T} {M} {M'} {out} {W} {f} e r s i m u = go e.fate (rw i at s.form m f u)
  where
    go : (e : Fate) → Fails e (pnf f) → Answered (through_prenex house f r) out (Err (unprenexed e)) out
    go Heavy h = is_refused (simplify_stage house f (second f r) u.within ∙ rw (prenex_large f u.within, lt-ltb house.weight (weight (formula (pnf f))) h)) refl
    go Long h = is_refused (simplify_stage house f (second f r) u.within ∙ rw (prenex_large f u.within, le-ltb house.weight (weight (formula (pnf f))) h.0, h.1)) refl
    go Unfit h = absurd h

-- a form whose names pass
short_tame : (f : Formula) → too_long house f ≡ false → Tame f
unfolding too_long
short_tame f h = tame_from (short house) f (not_flip (every (short house) (bound f ++ free f)) false h)

-- stage 2 passes: its form, within the limits, in two tables
pub record Second (T M : Bytes) (p : Prenexed) (f : Formula) (r : Outcome) : Type 0 where
  pub passes : through_prenex house f r ≡ r
  pub light : weight (formula (pnf f)) ≤ house.weight
  pub tame : Tame (formula (pnf f))
  pub apart : Apart T M p.made p.prefix p.matrix (pnf f)

pub prenex_made : {T M M' : Bytes} {W : List ℕ} {f : Formula} {o : Result Prenexed Stopped} {p : Prenexed} (r : Outcome) → Prenexes T M W M' o → o ≡ Ok p → published house ≤ length M → Rule T W f
    → Second T M' p f r
prenex_made {f = f} r s i m u =
    let h = rw i at s.form m f u in
    record {
      passes = simplify_stage house f (second f r) u.within ∙ rw (prenex_large f u.within, le-ltb house.weight (weight (formula (pnf f))) h.0, h.1);
      light = h.0;
      tame = short_tame (formula (pnf f)) h.1;
      apart = h.2;
    }

-- stage 3 from counters at 0: no form, where work has room for the names
pub skolem_refused : {T M M' out : Bytes} {used : ℕ} {k : Counters} {P X : List ℕ} {O₀ Q₀ O Q : Table} {o : Result Skolemised Unmade} {u : Unmade} (p : Prenex) (x : Outcome)
    → Skolemises T M used k P X O₀ Q₀ M' O Q o → o ≡ Err u → k ≡ record { constants = 0; functions = 0 } → published house ≤ length M → used ≤ 25 * house.weight
    → Parts T M used P X p → Answered (stage house 3 (skolem_formula (skolemise p zero_counts)) x) out (Err (unskolemised u.fate)) out
skolem_refused {M = M} {out = out} {used} {u = u} p x s i e m l a = go u.fate (rw (i, e) at s.form p a)
  where
    go : (d : Ends) → third.Fails M used (record { constants = 0; functions = 0 }) d u.counters (skolemise p zero_counts)
        → Answered (stage house 3 (skolem_formula (skolemise p zero_counts)) x) out (Err (unskolemised d)) out
    go ends.Heavy h = is_refused (rw h.0) refl
    go ends.NoRoom h = absurd (h (record { bytes = omega arith; near = omega arith; constants = omega arith; functions = omega arith }))

-- the form that was made: its words, its weight, and its matrix without blocks and with names and functions that pass
pub record Third (T M : Bytes) (O Q : Table) (s : form.Skolemised) : Type 0 where
  pub light : weight (skolem_formula s) ≤ house.weight
  pub narrow : Narrow s.matrix
  pub blocks : tokens T M (words_of O) ≡ prefix_code s.prefix
  pub body : Holds T M Q s.matrix

light_of : (f : Formula) → too_large house f ≡ false → weight f ≤ house.weight
unfolding too_large
light_of f l = ltb-false house.weight (weight f) (or_false_left (ltb house.weight (weight f)) (ltb house.arguments (widest f)) l)

narrow_of : (f : Formula) → too_large house f ≡ false → widest f ≤ house.arguments
unfolding too_large
narrow_of f l = ltb-false house.arguments (widest f) (or_false_right (ltb house.weight (weight f)) (ltb house.arguments (widest f)) l)

pub skolem_made : {T M M' : Bytes} {used : ℕ} {k : Counters} {P X : List ℕ} {O₀ Q₀ O Q : Table} {o : Result Skolemised Unmade} {r : Skolemised} (p : Prenex) (x : Outcome)
    → Skolemises T M used k P X O₀ Q₀ M' O Q o → o ≡ Ok r → k ≡ record { constants = 0; functions = 0 } → Tame (formula p)
    → Parts T M used P X p → (stage house 3 (skolem_formula (skolemise p zero_counts)) x ≡ x) × Third T M' O Q (skolemise p zero_counts)
unfolding too_long
skolem_made {T} {M' = M'} {O = O} {Q} {r = r} p x y i e t a =
    let s = skolemise p zero_counts in
    let h : third.Made T M' O Q r s = rw (i, e) at y.form p a in
    let g = skolemise_tame (short house) p zero_counts t in (
      rw (h.small, variables_each (short house) (λ (n : ℕ). true) (skolem_formula s) g),
      record {
        light = light_of (skolem_formula s) h.small;
        narrow = matrix_each (short house) (few house) s.prefix s.matrix (narrow_from (short house) house.arguments (skolem_formula s) g (narrow_of (skolem_formula s) h.small));
        blocks = h.blocks;
        body = h.body;
      },
    )

-- stage 4 of a matrix, with stage 5 behind it
abbrev pub fifth : Quant → Formula → Outcome
fifth q g = refused_if (too_many house (raw q g)) 8 5 (given (listing (clauses q g)))

fourth : (q : Quant) (m : Formula) → Narrow m → as_clauses house q m ≡ refused_if (ltb house.weight (weight (nnf m))) 7 4 (fifth q (nnf m))
unfolding as_clauses
fourth q m n = each_stage house 4 (nnf m) (fifth q (nnf m)) (nnf_each (short house) (few house) m n)

pub heavy_matrix : (T M : Bytes) {out : Bytes} {W : List ℕ} {t t' : Table} {r : Result Unit Full} {e : Full} (q : Quant) (m : Formula) → Narrow m → tokens T M W ≡ code m → Negated W t t' r → r ≡ Err e
    → Answered (as_clauses house q m) out (Err (Weight 4)) out
heavy_matrix T M q m n h s e = is_refused (fourth q m n ∙ rw (lt-ltb house.weight (weight (nnf m)) (rw e at s.form T M m [] (rw append-nil h)))) refl

pub made_matrix : (T M : Bytes) {W : List ℕ} {t t' : Table} {r : Result Unit Full} {x : Unit} (q : Quant) (m : Formula) → Narrow m → tokens T M W ≡ code m → Negated W t t' r → r ≡ Ok x
    → Holds T M t' (nnf m) × (as_clauses house q m ≡ fifth q (nnf m))
made_matrix T M q m n h s e = let h = rw e at s.form T M m [] (rw append-nil h) in (h.1, fourth q m n ∙ rw (le-ltb house.weight (weight (nnf m)) h.0))

-- a conversion with its stages
pub pnf_tree : (f : Formula) → convert_tree house to_pnf f ≡ through_prenex house f (given (written (formula (pnf f))))
unfolding convert_tree
pnf_tree f = refl
