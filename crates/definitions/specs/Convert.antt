-- The nine conversions: the stages that each passes, the refusals with number, place and order, and what the lent buffers hold afterwards.
use Rattle.std.specs.Prelude.{Bool, not, ◌||◌, cond, ◌++◌, ℕ, leb, ltb, length, drop, replicate}
use Rattle.definitions.specs.Bytes.{Bytes}
use Rattle.definitions.specs.Syntax.{Name, Quant, all, ex, Formula, weight}
use Rattle.definitions.specs.Limits.{Limits, published}
use Rattle.definitions.specs.Names.{free, bound, widest}
use Rattle.definitions.specs.RuleText.{written}
use Rattle.definitions.specs.Reading.{Reading, tree, malformed, large, read}
use Rattle.definitions.specs.Truth.{every}
use Rattle.definitions.specs.Simplify.{simplify}
use Rattle.definitions.specs.Negation.{nnf}
use Rattle.definitions.specs.Prenex.{formula, pnf, parted, is_prenex_form, is_skolem}
use Rattle.definitions.specs.Skolem.{Skolemised, skolemise, skolem_formula, zero_counts, hash_free}
use Rattle.definitions.specs.Clauses.{Raw, raw, clauses, listing}

pub data Conversion : Type 0 where
  to_simplified to_nnf to_pnf to_snf to_cnf to_dnf pnf_to_snf snf_to_cnf snf_to_dnf : Conversion

-- a result's text, or a refusal's number and place
pub data Result : Type 0 where
  given : Bytes → Result
  refused : ℕ → ℕ → Result

abbrev pub refused_if : Bool → ℕ → ℕ → Result → Result
refused_if b number place r = cond b (refused number place) r

-- refusals 7 and 6 look at a stage's result alone, 7 before 6
unfoldable pub too_large : Limits → Formula → Bool
too_large L f = ltb L.weight (weight f) || ltb L.arguments (widest f)

unfoldable pub too_long : Limits → Formula → Bool
too_long L f = not (every (λ (x : Name). leb (length x) L.name) (bound f ++ free f))

abbrev pub stage : Limits → ℕ → Formula → Result → Result
stage L k f r = refused_if (too_large L f) 7 k (refused_if (too_long L f) 6 k r)

-- stages 4 and 5 of a matrix: the blocks are gone
unfoldable pub too_many : Limits → Raw → Bool
too_many L r = ltb L.clauses r.clauses || ltb L.literals r.literals

unfoldable pub as_clauses : Limits → Quant → Formula → Result
as_clauses L q m = stage L 4 (nnf m) (refused_if (too_many L (raw q (nnf m))) 8 5 (given (listing (clauses q (nnf m)))))

-- stages 1 and 2, and 1 to 3 with refusal 5 before them
abbrev pub through_prenex : Limits → Formula → Result → Result
through_prenex L f r = stage L 1 (simplify f) (stage L 2 (formula (pnf f)) r)

abbrev pub snf : Formula → Skolemised
snf f = skolemise (pnf f) zero_counts

abbrev pub through_skolem : Limits → Formula → Result → Result
through_skolem L f r = refused_if (not (hash_free f)) 5 0 (through_prenex L f (stage L 3 (skolem_formula (snf f)) r))

abbrev pub snf_of_prenex : Formula → Skolemised
snf_of_prenex f = skolemise (parted f) zero_counts

unfoldable pub convert_tree : Limits → Conversion → Formula → Result
convert_tree L to_simplified f = stage L 1 (simplify f) (given (written (simplify f)))
convert_tree L to_nnf f = stage L 4 (nnf f) (given (written (nnf f)))
convert_tree L to_pnf f = through_prenex L f (given (written (formula (pnf f))))
convert_tree L to_snf f = through_skolem L f (given (written (skolem_formula (snf f))))
convert_tree L to_cnf f = through_skolem L f (as_clauses L all (snf f).matrix)
convert_tree L to_dnf f = through_skolem L f (as_clauses L ex (snf f).matrix)
convert_tree L pnf_to_snf f =
    refused_if (not (is_prenex_form f)) 4 0 (refused_if (not (hash_free f)) 5 0
    (stage L 3 (skolem_formula (snf_of_prenex f)) (given (written (skolem_formula (snf_of_prenex f))))))
convert_tree L snf_to_cnf f = refused_if (not (is_skolem f)) 4 0 (as_clauses L all (parted f).matrix)
convert_tree L snf_to_dnf f = refused_if (not (is_skolem f)) 4 0 (as_clauses L ex (parted f).matrix)

abbrev pub convert_reading : Limits → Conversion → Reading → Result
convert_reading L c (tree f) = convert_tree L c f
convert_reading L c (malformed k) = refused 2 k
convert_reading L c (large k) = refused 3 k

unfoldable pub convert : Limits → Conversion → Bytes → Result
convert L c text = convert_reading L c (read L text)

-- With the lent buffers: 9 comes before all else, 1 after all else. Accepted, a call gives the text's length.
pub data Answer : Type 0 where
  accepted : ℕ → Answer
  not_given : ℕ → ℕ → Answer

abbrev pub fitted : Result → ℕ → Answer
fitted (given s) room = cond (leb (length s) room) (accepted (length s)) (not_given 1 0)
fitted (refused n p) room = not_given n p

unfoldable pub answer : Limits → Conversion → Bytes → ℕ → ℕ → Answer
answer L c text out-length work-length = cond (ltb work-length (published L)) (not_given 9 0) (fitted (convert L c text) out-length)

-- out holds the text and its old bytes after; a refusal leaves it unchanged
abbrev pub laid : Result → Bytes → Bytes
laid (given s) out = cond (leb (length s) (length out)) (s ++ drop (length s) out) out
laid (refused n p) out = out

unfoldable pub out_after : Limits → Conversion → Bytes → Bytes → ℕ → Bytes
out_after L c text out work-length = cond (ltb work-length (published L)) out (laid (convert L c text) out)

-- work is all zero at return, but unchanged after 9
unfoldable pub work_after : Limits → Bytes → Bytes
work_after L work = cond (ltb (length work) (published L)) work (replicate (length work) 0)
