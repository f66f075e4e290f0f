-- A written table, a stage's result and a rule that was read, as answers.
use mathlib.Core.Path.{◌≡◌, refl, sym, ap, ◌∙◌}
use mathlib.Core.List.{List, []}
use Prim.Native.Nat.{ℕ, ◌<◌, ◌≤◌}
use native.Mathlib.Omega.{arith}
use Rattle.std.specs.Prelude.{Result, Ok, Err, Option, Some, None, ok_or, IsErrAnd}
use lib.ListN.{length, replicate, length-take}
use Rattle.std.proofs.Common.{append-nil}
use borrow.Author.Tests.{lt-ltb, le-ltb}
use Rattle.definitions.specs.Bytes.{Bytes}
use Rattle.definitions.specs.Syntax.{Formula, weight}
use Rattle.definitions.specs.Limits.{house, published}
use Rattle.definitions.specs.RuleText.{written}
use Rattle.definitions.specs.Reading.{Reading, tree, malformed, large, read}
use Rattle.definitions.specs.Simplify.{simplify}
use Rattle.definitions.specs.Negation.{nnf}
use Rattle.definitions.specs.Convert.{to_simplified, to_nnf, Result as Outcome, given, refused, not_given, fitted, laid, convert, convert_tree, convert_reading, answer, out_after, work_after}
use Rattle.definitions.specs.Laws.Within.{Within}
use Rattle.definitions.proofs.Laws.Reading.{read_iff}
use Rattle.definitions.proofs.Laws.Passing.{simplify_stage, nnf_stage}
use Rattle.text.specs.declared.table.Full.{Full}
use Rattle.text.specs.declared.table.Table.{Table}
use Rattle.reader.specs.declared.Flaw.{Flaw}
use Rattle.reader.specs.declared.Flaw.TheVariants.{Malformed, Large}
use Rattle.text.specs.Words.{Token, code}
use Rattle.text.specs.Tables.{words_of, Holds}
use Rattle.writer.specs.Writer.{text_of, Writes, answer_of}
use Rattle.writer.specs.WriterLaws.{text_of_code}
use Rattle.reader.specs.Reader.{Says}
use Rattle.negation.specs.Stage.{Negated}
use Rattle.convert.proofs.Joining.{unmade}
use Rattle.convert.specs.declared.Refusal.{Refusal}
use Rattle.convert.specs.declared.Refusal.TheVariants.{Room, Weight}
use Rattle.convert.specs.Stages.{Rule}
use Rattle.convert.specs.Answers.{meaning, misread, Answered, Meets}

-- one result for another that is equal
pub as_well : {a b : Outcome} {out out' : Bytes} {r : Result ℕ Refusal} → a ≡ b → Answered a out r out' → Answered b out r out'
as_well e h = rw e at h

-- the text of a formula's tokens
pub shown : (f : Formula) {l : List Token} {out out' : Bytes} {w : Option ℕ} {r : Result ℕ Refusal}
    → Writes (text_of l) out out' w → r ≡ ok_or w Room → l ≡ code f → Answered (given (written f)) out r out'
shown f {w = w} d e h = as_well (ap given (ap text_of h ∙ text_of_code f)) (rw e (record { answers = under_its_name w ∙ d.answers; lays = d.leaves }))
  where
    under_its_name : (w : Option ℕ) → meaning (ok_or w Room) ≡ answer_of w
    under_its_name (Some n) = refl
    under_its_name None = refl

-- a refusal, with out as it was
pub is_refused : {a : Outcome} {n p : ℕ} {out : Bytes} {r : Result ℕ Refusal} → a ≡ refused n p → meaning r ≡ not_given n p → Answered a out r out
is_refused e m = rw e (record { answers = m; lays = refl })

-- stage 1 refuses no rule within the limits
pub simplify_fits : {f : Formula} → Within house f → given (written (simplify f)) ≡ convert_tree house to_simplified f
unfolding convert_tree
simplify_fits {f} w = sym (simplify_stage house f (given (written (simplify f))) w)

-- stage 4 refuses a rule within the limits for its weight alone
pub negation_fits : {f : Formula} → Within house f → weight (nnf f) ≤ house.weight → convert_tree house to_nnf f ≡ given (written (nnf f))
unfolding convert_tree
negation_fits {f} w h = nnf_stage house f (given (written (nnf f))) w ∙ rw (le-ltb house.weight (weight (nnf f)) h)

pub negation_heavy : {f : Formula} → Within house f → house.weight < weight (nnf f) → convert_tree house to_nnf f ≡ refused 7 4
unfolding convert_tree
negation_heavy {f} w h = nnf_stage house f (given (written (nnf f))) w ∙ rw (lt-ltb house.weight (weight (nnf f)) h)

-- what was read decides the conversion; the rule that was read is within the limits
pub was_rule : (T : Bytes) (t : Table) → Says (read house T) T (Ok t) → (c : Rattle.definitions.specs.Convert.Conversion)
    → (f : Formula) × Rule T (words_of t) f × (convert house c T ≡ convert_tree house c f)
unfolding convert
was_rule T t says c = go (read house T) refl says
  where
    go : (r : Reading) → read house T ≡ r → Says r T (Ok t) → (f : Formula) × Rule T (words_of t) f × (convert house c T ≡ convert_tree house c f)
    go (tree f) h s = (
      f,
      record {
        within = ((read_iff house T f).0 h).1;
        room = omega (arith, (s.holds T).room, length-take t.used t.nodes);
        words = λ M. (s.holds M).words;
        unmade = unmade T _ s.within;
      },
      ap (convert_reading house c) h,
    )
    go (malformed k) h s = let z : ◌≡◌ {A = ℕ} 0 1 = cc in absurd (omega arith)
    go (large k) h s = let z : ◌≡◌ {A = ℕ} 0 1 = cc in absurd (omega arith)

pub was_none : (T : Bytes) (e : Flaw) {out : Bytes} → Says (read house T) T (Err e) → (c : Rattle.definitions.specs.Convert.Conversion)
    → Answered (convert house c T) out (Err (misread e)) out
unfolding convert
was_none T e {out} says c = go (read house T) says
  where
    go : (r : Reading) → Says r T (Err e) → Answered (convert_reading house c r) out (Err (misread e)) out
    go (tree f) s = absurd s
    go (malformed k) s = let z : e ≡ Malformed k = cc in rw z (is_refused refl refl)
    go (large k) s = let z : e ≡ Large k = cc in rw z (is_refused refl refl)

-- refusal 9, and work of the published size
pub too_short : (c : Rattle.definitions.specs.Convert.Conversion) (text out work : Bytes) {r : Result ℕ Refusal} → length work < published house → meaning r ≡ not_given 9 0 → Meets c text out work r out work
unfolding answer out_after work_after
too_short c text out work h e = record {
  answers = e ∙ rw (lt-ltb (length work) (published house) h);
  lays = rw (lt-ltb (length work) (published house) h);
  clears = rw (lt-ltb (length work) (published house) h);
}

pub long_enough : (c : Rattle.definitions.specs.Convert.Conversion) (text out work : Bytes) {r : Result ℕ Refusal} {out' work' : Bytes} → published house ≤ length work → Answered (convert house c text) out r out'
    → work' ≡ replicate (length work) 0 → Meets c text out work r out' work'
unfolding answer out_after work_after
long_enough c text out work h a z = record {
  answers = a.answers ∙ rw (le-ltb (length work) (published house) h);
  lays = a.lays ∙ rw (le-ltb (length work) (published house) h);
  clears = z ∙ rw (le-ltb (length work) (published house) h);
}

-- what stage 4 made of a rule within the limits
pub heavy_negation : {T out : Bytes} (M : Bytes) {W : List ℕ} {f : Formula} {t t' : Table} {r : Result Unit Full} {e : Full} → Rule T W f → Negated W t t' r → r ≡ Err e
    → Answered (convert_tree house to_nnf f) out (Err (Weight 4)) out
heavy_negation {T} M {f = f} u n e = is_refused (negation_heavy u.within (rw e at n.form T M f [] (rw append-nil (u.words M)))) refl

pub made_negation : {T : Bytes} (M : Bytes) {W : List ℕ} {f : Formula} {t t' : Table} {r : Result Unit Full} {x : Unit} → Rule T W f → Negated W t t' r → r ≡ Ok x
    → Holds T M t' (nnf f) × (given (written (nnf f)) ≡ convert_tree house to_nnf f)
made_negation {T} M {f = f} u n e = let h = rw e at n.form T M f [] (rw append-nil (u.words M)) in (h.1, sym (negation_fits u.within h.0))

-- what a `?` hands on
pub handed : {a : Outcome} {out out' : Bytes} {e : Refusal} (r : Result ℕ Refusal) → IsErrAnd r (λ d. d ≡ e) → Answered a out (Err e) out' → Answered a out r out'
handed (Ok n) h s = absurd h
handed (Err d) h s = rw h s
