-- Where a conversion gives a text, the rule was read, no stage refused it, and the text is that of the form.
use Rattle.std.specs.Prelude.{◌≡◌, refl, Bool, true, false, not, ℕ}
use Rattle.std.proofs.Common.{sym, arith}
use Rattle.definitions.specs.Bytes.{Bytes}
use Rattle.definitions.specs.Syntax.{Formula, Quant}
use Rattle.definitions.specs.Limits.{Limits}
use Rattle.definitions.specs.Reading.{Reading, large, malformed, read, tree}
use Rattle.definitions.specs.Simplify.{simplify}
use Rattle.definitions.specs.Negation.{nnf}
use Rattle.definitions.specs.Prenex.{formula, pnf}
use Rattle.definitions.specs.Skolem.{hash_free, skolem_formula}
use Rattle.definitions.specs.Clauses.{clauses, listing, raw}
use Rattle.definitions.specs.Convert.{Conversion, Result, as_clauses, convert, convert_reading, convert_tree, given, refused, refused_if, snf, stage, through_prenex, through_skolem, too_large, too_long, too_many}
use Rattle.definitions.specs.Laws.Given.{ClausesPassed, Passed, Prenexed, SkolemPassed}

pub given_inj : {a b : Bytes} → given a ≡ given b → a ≡ b
given_inj e = cc

pub never_given : {n p : ℕ} {s : Bytes} → refused n p ≡ given s → ⊥
never_given e = let z : ◌≡◌ {A = ℕ} 0 1 = cc in omega arith

-- a test that gave no refusal
pub not_refused : (b : Bool) (n p : ℕ) (r : Result) (s : Bytes) → refused_if b n p r ≡ given s → (b ≡ false) × (r ≡ given s)
not_refused true n p r s e = absurd (never_given e)
not_refused false n p r s e = (refl, e)

pub stage_passed : (L : Limits) (k : ℕ) (f : Formula) (r : Result) (s : Bytes) → stage L k f r ≡ given s → Passed L f × (r ≡ given s)
stage_passed L k f r s e =
    let (a, d) = not_refused (too_large L f) 7 k (refused_if (too_long L f) 6 k r) s e in
    let (b, c) = not_refused (too_long L f) 6 k r s d in (record { small = a; short = b }, c)

pub was_read : (L : Limits) (c : Conversion) (text s : Bytes) → convert L c text ≡ given s
    → (f : Formula) × (read L text ≡ tree f) × (convert_tree L c f ≡ given s)
unfolding convert
was_read L c text s e = go (read L text) refl e
  where
    go : (r : Reading) → read L text ≡ r → convert_reading L c r ≡ given s → (f : Formula) × (read L text ≡ tree f) × (convert_tree L c f ≡ given s)
    go (tree f) h e = (f, h, e)
    go (malformed k) h e = absurd (never_given e)
    go (large k) h e = absurd (never_given e)

not_not : (b : Bool) → not b ≡ false → b ≡ true
not_not true e = refl
not_not false e = sym e

pub prenex_passed : (L : Limits) (f : Formula) (r : Result) (s : Bytes) → through_prenex L f r ≡ given s → Prenexed L f × (r ≡ given s)
prenex_passed L f r s e =
    let (a, d) = stage_passed L 1 (simplify f) (stage L 2 (formula (pnf f)) r) s e in
    let (b, c) = stage_passed L 2 (formula (pnf f)) r s d in (record { simple = a; prenex = b }, c)

pub skolem_passed : (L : Limits) (f : Formula) (r : Result) (s : Bytes) → through_skolem L f r ≡ given s → SkolemPassed L f × (r ≡ given s)
skolem_passed L f r s e =
    let (a, d) = not_refused (not (hash_free f)) 5 0 (through_prenex L f (stage L 3 (skolem_formula (snf f)) r)) s e in
    let (b, g) = prenex_passed L f (stage L 3 (skolem_formula (snf f)) r) s d in
    let (c, h) = stage_passed L 3 (skolem_formula (snf f)) r s g in
    (record { clean = not_not (hash_free f) a; prenexed = b; skolem = c }, h)

pub clauses_passed : (L : Limits) (q : Quant) (m : Formula) (s : Bytes) → as_clauses L q m ≡ given s → ClausesPassed L q m s
unfolding as_clauses
clauses_passed L q m s e =
    let (a, d) = stage_passed L 4 (nnf m) (refused_if (too_many L (raw q (nnf m))) 8 5 (given (listing (clauses q (nnf m))))) s e in
    let (b, c) = not_refused (too_many L (raw q (nnf m))) 8 5 (given (listing (clauses q (nnf m)))) s d in
    record { negated = a; few = b; listed = sym (given_inj c) }

-- the shape that `pnf-snf`, `snf-cnf` and `snf-dnf` require
pub shape_passed : (b : Bool) (r : Result) (s : Bytes) → refused_if (not b) 4 0 r ≡ given s → (b ≡ true) × (r ≡ given s)
shape_passed b r s e = let (a, d) = not_refused (not b) 4 0 r s e in (not_not b a, d)

pub clean_passed : (b : Bool) (r : Result) (s : Bytes) → refused_if (not b) 5 0 r ≡ given s → (b ≡ true) × (r ≡ given s)
clean_passed b r s e = let (a, d) = not_refused (not b) 5 0 r s e in (not_not b a, d)
