-- Demand 3: wherever a form is given, in every finite nonempty structure and under every assignment, it stands to the rule as it should.
use Rattle.std.specs.Prelude.{◌≡◌, refl, true, not}
use Rattle.std.proofs.Common.{sym, ◌∙◌, ap}
use Rattle.definitions.specs.Bytes.{Bytes}
use Rattle.definitions.specs.Syntax.{Formula, Quant, all, ex}
use Rattle.definitions.specs.Limits.{Limits}
use Rattle.definitions.specs.RuleText.{written}
use Rattle.definitions.specs.Reading.{read, tree}
use Rattle.definitions.specs.Truth.{truth}
use Rattle.definitions.specs.Simplify.{simplify}
use Rattle.definitions.specs.Negation.{nnf}
use Rattle.definitions.specs.Prenex.{Prenex, all_only, formula, is_prenex_form, is_skolem, no_block, parted, pnf}
use Rattle.definitions.specs.Skolem.{hash_free, skolem_formula, zero_counts}
use Rattle.definitions.specs.Clauses.{clauses}
use Rattle.definitions.specs.Convert.{as_clauses, convert, convert_tree, given, snf_of_prenex, pnf_to_snf, refused_if, snf, snf_to_cnf, snf_to_dnf, through_skolem, to_cnf, to_dnf, to_nnf, to_pnf, to_simplified, to_snf}
use Rattle.definitions.proofs.Laws.Bools.{and_true_left}
use Rattle.definitions.proofs.Laws.Simplify.{simplify_truth}
use Rattle.definitions.proofs.Laws.Negation.{nnf_truth}
use Rattle.definitions.proofs.Laws.Prenex.{outward_no_block, pnf_truth}
use Rattle.definitions.specs.Laws.OneBlock.{New}
use Rattle.definitions.proofs.Laws.Skolem.{drawn_fresh, skolem_iff, skolem_one}
use Rattle.definitions.proofs.Laws.Hashes.{hash_free_new, pnf_new}
use Rattle.definitions.proofs.Laws.Shapes.{close_parted, parted_close, skolemise_no_block, snf_skolem}
use Rattle.definitions.proofs.Laws.Clauses.{clauses_sorted, each_clause_sorted, matrix_truth}
use Rattle.definitions.proofs.Laws.Given.{clauses_passed, clean_passed, given_inj, prenex_passed, shape_passed, skolem_passed, stage_passed, was_read}
use Rattle.definitions.specs.Laws.Demand.{ClauseTruth, SameTruth, SkolemTruth}

pub simplify_given : (L : Limits) (text s : Bytes) → convert L to_simplified text ≡ given s → SameTruth L text s
unfolding convert_tree
simplify_given L text s e =
    let (f, r, c) = was_read L to_simplified text s e in
    let (p, g) = stage_passed L 1 (simplify f) (given (written (simplify f))) s c in
    record { rule = f; form = simplify f; reads = r; writes = sym (given_inj g); same_truth = λ D M ρ. simplify_truth D M f ρ }

pub nnf_given : (L : Limits) (text s : Bytes) → convert L to_nnf text ≡ given s → SameTruth L text s
unfolding convert_tree
nnf_given L text s e =
    let (f, r, c) = was_read L to_nnf text s e in
    let (p, g) = stage_passed L 4 (nnf f) (given (written (nnf f))) s c in
    record { rule = f; form = nnf f; reads = r; writes = sym (given_inj g); same_truth = λ D M ρ. nnf_truth D M f ρ }

pub pnf_given : (L : Limits) (text s : Bytes) → convert L to_pnf text ≡ given s → SameTruth L text s
unfolding convert_tree
pnf_given L text s e =
    let (f, r, c) = was_read L to_pnf text s e in
    let (p, g) = prenex_passed L f (given (written (formula (pnf f)))) s c in
    record { rule = f; form = formula (pnf f); reads = r; writes = sym (given_inj g); same_truth = λ D M ρ. pnf_truth D M f ρ }

pub snf_given : (L : Limits) (text s : Bytes) → convert L to_snf text ≡ given s → SkolemTruth L (λ f. formula (pnf f)) text s
unfolding convert_tree pnf
snf_given L text s e =
    let (f, r, c) = was_read L to_snf text s e in
    let (p, g) = skolem_passed L f (given (written (skolem_formula (snf f)))) s c in
    let new = pnf_new f zero_counts p.clean in
    let bare = outward_no_block (simplify f) in
    record {
      rule = f;
      form = skolem_formula (snf f);
      drawn = (snf f).drawn;
      reads = r;
      writes = sym (given_inj g);
      same_truth = λ D M ρ. pnf_truth D M f ρ;
      new = drawn_fresh (pnf f) zero_counts f (hash_free_new f zero_counts p.clean);
      exactly = λ D M ρ. skolem_iff D M (pnf f) zero_counts ρ bare new;
      one_meaning = λ D M. skolem_one D M (pnf f) zero_counts bare new;
    }

pub pnf_snf_given : (L : Limits) (text s : Bytes) → convert L pnf_to_snf text ≡ given s → SkolemTruth L (λ f. f) text s
unfolding convert_tree is_prenex_form
pnf_snf_given L text s e =
    let (f, r, c) = was_read L pnf_to_snf text s e in
    let (shape, d) = shape_passed (is_prenex_form f) _ s c in
    let (clean, h) = clean_passed (hash_free f) _ s d in
    let (p, g) = stage_passed L 3 (skolem_formula (snf_of_prenex f)) _ s h in
    let new : New zero_counts (formula (parted f)) = rw (close_parted f) (hash_free_new f zero_counts clean) in
    record {
      rule = f;
      form = skolem_formula (snf_of_prenex f);
      drawn = (snf_of_prenex f).drawn;
      reads = r;
      writes = sym (given_inj g);
      same_truth = λ D M ρ. refl;
      new = drawn_fresh (parted f) zero_counts f (hash_free_new f zero_counts clean);
      exactly = λ D M ρ. rw (close_parted f) at (skolem_iff D M (parted f) zero_counts ρ shape new);
      one_meaning = λ D M. rw (close_parted f) at (skolem_one D M (parted f) zero_counts shape new);
    }

set_given : (L : Limits) (q : Quant) (form : Formula → Formula) (text s : Bytes) (f m : Formula) → read L text ≡ tree f → is_skolem (form f) ≡ true
    → m ≡ (parted (form f)).matrix → as_clauses L q m ≡ given s → ClauseTruth L q form text s
unfolding is_skolem is_prenex_form
set_given L q form text s f m r shape e c =
    let p = clauses_passed L q m s c in
    let bare = ap no_block e ∙ and_true_left (is_prenex_form (form f)) (all_only (parted (form f)).prefix) shape in
    record {
      rule = f;
      set = clauses q (nnf m);
      reads = r;
      writes = p.listed;
      is_skolem_form = shape;
      same_truth = λ D M ρ. matrix_truth D M ρ q m bare ∙ ap (λ h. truth D M h ρ) e;
      in_order = clauses_sorted q (nnf m);
      each_in_order = each_clause_sorted q (nnf m);
    }

-- the Skolem form of `cnf` and `dnf` is that of `snf`
from_rule : (L : Limits) (q : Quant) (text s : Bytes) (f : Formula) → read L text ≡ tree f → through_skolem L f (as_clauses L q (snf f).matrix) ≡ given s
    → ClauseTruth L q (λ g. skolem_formula (snf g)) text s
unfolding pnf
from_rule L q text s f r e =
    let (p, c) = skolem_passed L f (as_clauses L q (snf f).matrix) s e in
    set_given L q (λ g. skolem_formula (snf g)) text s f (snf f).matrix r (snf_skolem f)
    (sym (ap (λ (h : Prenex). h.matrix) (parted_close (snf f).prefix (snf f).matrix (skolemise_no_block (pnf f) zero_counts (outward_no_block (simplify f)))))) c

from_skolem : (L : Limits) (q : Quant) (text s : Bytes) (f : Formula) → read L text ≡ tree f
    → refused_if (not (is_skolem f)) 4 0 (as_clauses L q (parted f).matrix) ≡ given s → ClauseTruth L q (λ g. g) text s
from_skolem L q text s f r e =
    let (shape, c) = shape_passed (is_skolem f) (as_clauses L q (parted f).matrix) s e in
    set_given L q (λ g. g) text s f (parted f).matrix r shape refl c

pub cnf_given : (L : Limits) (text s : Bytes) → convert L to_cnf text ≡ given s → ClauseTruth L all (λ f. skolem_formula (snf f)) text s
unfolding convert_tree
cnf_given L text s e = let (f, r, c) = was_read L to_cnf text s e in from_rule L all text s f r c

pub dnf_given : (L : Limits) (text s : Bytes) → convert L to_dnf text ≡ given s → ClauseTruth L ex (λ f. skolem_formula (snf f)) text s
unfolding convert_tree
dnf_given L text s e = let (f, r, c) = was_read L to_dnf text s e in from_rule L ex text s f r c

pub snf_cnf_given : (L : Limits) (text s : Bytes) → convert L snf_to_cnf text ≡ given s → ClauseTruth L all (λ f. f) text s
unfolding convert_tree
snf_cnf_given L text s e = let (f, r, c) = was_read L snf_to_cnf text s e in from_skolem L all text s f r c

pub snf_dnf_given : (L : Limits) (text s : Bytes) → convert L snf_to_dnf text ≡ given s → ClauseTruth L ex (λ f. f) text s
unfolding convert_tree
snf_dnf_given L text s e = let (f, r, c) = was_read L snf_to_dnf text s e in from_skolem L ex text s f r c
