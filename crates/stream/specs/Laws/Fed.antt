-- Any cutting of the input gives the same output: what is printed while pieces are fed one after another, and at the end, is what the
-- file program prints for all their bytes.
use Rattle.std.specs.Prelude.{◌≡◌, ◌&&◌, cond, eqb, ltb, take, drop, get_or, set}
use Rattle.std.proofs.Math.Path.{refl}
use Rattle.std.proofs.Common.{sym, ◌∙◌, ap, eqb-true, ltb-true, ltb-false, lt-ltb, length-append, length-set, take-suc-set}
use Rattle.std.proofs.Math.Bool.{true, false}
use mathlib.Core.List.{List, [], ◌∷◌, ◌++◌, append_assoc, append-nil}
use Rattle.std.proofs.Math.Option.{Option, none, some}
use Prim.Native.Nat.{ℕ, zero, suc, ◌≤◌, ◌<◌}
use native.Mathlib.Omega.{arith}
use Rattle.std.proofs.lemmas.Bool.{eqb-false}
use Rattle.std.proofs.Math.ListN.{length}
use Rattle.std.proofs.lemmas.List.{get_or_at}
use Rattle.definitions.specs.Bytes.{Bytes, TAB, LF, null, same}
use Rattle.definitions.specs.Limits.{house}
use Rattle.definitions.specs.Convert.{Conversion, to_simplified, to_nnf, to_pnf, to_snf, to_cnf, to_dnf, pnf_to_snf, snf_to_cnf, snf_to_dnf}
use Rattle.definitions.specs.Program.{cut, do_word, done_word, conversion_word, conversions, conversion_of, field_line, refusal, rules_output, file_output, after_first, of_lines, program}
use Rattle.definitions.proofs.Laws.Bools.{by_cases, and_true_left, and_true_right}
use Rattle.definitions.proofs.Laws.Sets.{same_eq}
use Rattle.definitions.specs.Laws.Pieces.{Clear}
use Rattle.definitions.proofs.Laws.Pieces.{clear_append}
use Rattle.stream.specs.Machine.{room, Machine, matches, complete, second_line, refused_file, first_line, chosen, grown, step, second_step, first_step, due_print, last_print, opened, print_bytes, longest_first, run}
use Rattle.stream.specs.Feeding.{told, streams, begun, behind, through, fed, joined}
use Rattle.stream.specs.Laws.Rules.{line_of, after_line, line_at, pending, cut_line, line_ends, line_matches, rule_begins, line_misses}
use Rattle.stream.specs.Laws.Labels.{line_of_clear, after_line_clear, not_clear}
use Rattle.stream.specs.Laws.Told.{rule_streams, not_last}

-- a refused file stays refused
refused_streams : (s kept : Bytes) → streams (record { state = refused_file; kept = kept }) s ≡ refusal 2 0
unfolding streams step last_print print_bytes
refused_streams [] kept = refl
refused_streams (b ∷ s) kept = refused_streams s kept

-- The second line: nothing is printed until it is known to be a rule line, or the input ends before it.
null_more : (s r : Bytes) (b : ℕ) → null (s ++ (b ∷ r)) ≡ false
null_more [] r b = refl
null_more (x ∷ s) r b = refl

second_ends : (c : Conversion) (k : ℕ) (kept : Bytes) → k < 5 → streams (record { state = second_line c k; kept = kept }) [] ≡ file_output house c (record { before = pending k; rules = [] })
unfolding streams last_print print_bytes rules_output
second_ends c zero kept h = sym (append-nil (field_line done_word (conversion_word c)))
second_ends c (suc zero) kept h = refl
second_ends c (suc (suc zero)) kept h = refl
second_ends c (suc (suc (suc zero))) kept h = refl
second_ends c (suc (suc (suc (suc zero)))) kept h = refl
second_ends c (suc (suc (suc (suc (suc k))))) kept h = absurd (omega arith)

second_rule : (c : Conversion) (kept s : Bytes) → room ≤ length kept → streams (record { state = second_line c 4; kept = kept }) (TAB ∷ s) ≡ file_output house c (line_at 4 (TAB ∷ s))
unfolding streams due_print print_bytes
second_rule c kept s r = rw (rule_begins s, (rule_streams s).label c 0 kept [] r refl refl (omega arith) tt)

second_streams : (s : Bytes) (c : Conversion) (k : ℕ) (kept : Bytes) → k < 5 → room ≤ length kept → streams (record { state = second_line c k; kept = kept }) s ≡ file_output house c (line_at k s)
unfolding streams step second_step
second_streams [] c k kept few r = second_ends c k kept few ∙ ap (file_output house c) (sym (line_ends k (omega arith)))
second_streams (b ∷ s) c k kept few r =
    by_cases (eqb k 4 && eqb b TAB)
    (λ t. rw (eqb-true k 4 (and_true_left (eqb k 4) (eqb b TAB) t), eqb-true b TAB (and_true_right (eqb k 4) (eqb b TAB) t)) (second_rule c kept s r))
    (λ f. by_cases (matches k b)
    (λ t. let less = not_last k b t f in rw (f, t, line_matches k b s t less) (second_streams s c (suc k) kept (omega arith) r))
    (λ n. rw (f, n, line_misses k b s (omega arith) n, null_more (pending k) (line_at (cond (eqb b LF) 0 5) s).before b) (refused_streams s kept)))

-- The first line. One without LF, or of more than eleven bytes before it, names no conversion.
abbrev pub do_line : Conversion → Bytes
do_line c = field_line do_word (conversion_word c)

pub no_conversion : (l : Bytes) → ((c : Conversion) → l ≡ do_line c → ⊥) → (cs : List Conversion) → conversion_of cs l ≡ none
unfolding conversion_of
no_conversion l h [] = refl
no_conversion l h (c ∷ cs) =
    by_cases (same l (do_line c))
    (λ t. absurd (h c (same_eq l (do_line c) t)))
    (λ f. rw f (no_conversion l h cs))

unended_none : (l : Bytes) → Clear LF l → conversion_of conversions l ≡ none
unended_none l h = no_conversion l (λ c e. not_clear (do_word ++ (TAB ∷ conversion_word c)) (rw e at h)) conversions

too_long : (l r : Bytes) (b : ℕ) → length l ≡ 11 → eqb b LF ≡ false → (c : Conversion) → l ++ (b ∷ r) ≡ do_line c → ⊥
too_long l r b n f to_simplified e = eqb-false b LF f (sym (get_or_at l b r 0 11 n) ∙ ap (λ s. get_or s 11 0) e)
too_long l r b n f to_nnf e = omega (arith, length-append l (b ∷ r), ap length e)
too_long l r b n f to_pnf e = omega (arith, length-append l (b ∷ r), ap length e)
too_long l r b n f to_snf e = omega (arith, length-append l (b ∷ r), ap length e)
too_long l r b n f to_cnf e = omega (arith, length-append l (b ∷ r), ap length e)
too_long l r b n f to_dnf e = omega (arith, length-append l (b ∷ r), ap length e)
too_long l r b n f pnf_to_snf e = omega (arith, length-append l (b ∷ r), ap length e)
too_long l r b n f snf_to_cnf e = omega (arith, length-append l (b ∷ r), ap length e)
too_long l r b n f snf_to_dnf e = omega (arith, length-append l (b ∷ r), ap length e)

cut_first : (l : Bytes) (b : ℕ) (s : Bytes) → Clear LF l → cut (l ++ (b ∷ s)) ≡ (l ++ line_of (b ∷ s)) ∷ cut (after_line (b ∷ s))
cut_first [] b s h = cut_line b s
cut_first (x ∷ l) b s h =
    cut_line x (l ++ (b ∷ s))
    ∙ rw (line_of_clear (x ∷ l) (b ∷ s) h, after_line_clear (x ∷ l) (b ∷ s) h)

first_ends : (l : Bytes) → Clear LF l → program house l ≡ refusal 2 0
unfolding program cut line_of after_line
first_ends [] h = refl
first_ends (x ∷ l) h =
    ap (of_lines house) (cut_line x l)
    ∙ ap (λ s. of_lines house (s ∷ cut (after_line (x ∷ l)))) (ap line_of (sym (append-nil (x ∷ l))) ∙ line_of_clear (x ∷ l) [] h ∙ append-nil (x ∷ l))
    ∙ rw (unended_none (x ∷ l) h)

chosen_streams : (o : Option Conversion) (s kept : Bytes) → room ≤ length kept → streams (record { state = chosen o; kept = kept }) s ≡ after_first house o (cut s)
chosen_streams none s kept r = refused_streams s kept
chosen_streams (some c) s kept r = second_streams s c 0 kept (omega arith) r

first_named : (l : Bytes) (b : ℕ) (s : Bytes) → Clear LF l → eqb b LF ≡ true → program house (l ++ (b ∷ s)) ≡ after_first house (conversion_of conversions (l ++ (LF ∷ []))) (cut s)
unfolding program line_of after_line
first_named l b s h t = ap (of_lines house) (cut_first l b s h) ∙ rw t

first_long : (l : Bytes) (b : ℕ) (s : Bytes) → Clear LF l → length l ≡ 11 → eqb b LF ≡ false → program house (l ++ (b ∷ s)) ≡ refusal 2 0
unfolding program line_of
first_long l b s h n f =
    ap (of_lines house) (cut_first l b s h)
    ∙ rw (f, no_conversion (l ++ (b ∷ line_of s)) (too_long l (line_of s) b n f) conversions)

first_streams : (s : Bytes) (size : ℕ) (kept l : Bytes) → room ≤ length kept → take size kept ≡ l → length l ≡ size → size ≤ longest_first → Clear LF l
    → streams (record { state = first_line size; kept = kept }) s ≡ program house (l ++ s)
unfolding streams step first_step last_print print_bytes
first_streams [] size kept l r e n few h = sym (rw (append-nil l) (first_ends l h))
first_streams (b ∷ s) size kept l r e n few h =
    by_cases (eqb b LF)
    (λ t. rw t (rw e (chosen_streams (conversion_of conversions (l ++ (LF ∷ []))) s kept r ∙ sym (first_named l b s h t))))
    (λ f. by_cases (ltb size longest_first)
    (λ t. rw (f, t) (goes_on f (ltb-true size longest_first t) (first_streams s)))
    (λ g. rw (f, g) (refused_streams s kept ∙ sym (first_long l b s h (omega (arith, ltb-false size longest_first g)) f))))
  where
    goes_on : eqb b LF ≡ false → size < longest_first
        → ((size : ℕ) (kept l : Bytes) → room ≤ length kept → take size kept ≡ l → length l ≡ size → size ≤ longest_first → Clear LF l → streams (record { state = first_line size; kept = kept }) s ≡ program house (l ++ s))
        → streams (record { state = first_line (grown size kept); kept = set kept size b }) s ≡ program house (l ++ (b ∷ s))
    goes_on f less ih =
        let fits : size < length kept = omega arith in
        let longer : length (l ++ (b ∷ [])) ≡ suc size = omega (arith, length-append l (b ∷ [])) in
        let taken : take (suc size) (set kept size b) ≡ l ++ (b ∷ []) = take-suc-set kept size b fits ∙ ap (◌++ (b ∷ [])) e in
        rw (lt-ltb size (length kept) fits, sym (append_assoc l (b ∷ []) s))
        (ih (suc size) (set kept size b) (l ++ (b ∷ [])) (omega (arith, length-set kept size b)) taken longer less (clear_append LF l (b ∷ []) h (f, tt)))

pub whole_input : (kept s : Bytes) → room ≤ length kept → streams (begun kept) s ≡ program house s
whole_input kept s r = first_streams s 0 kept [] r refl refl (omega arith) tt

-- running a piece through is one run, and running through what the run has left
pub run_through : (m : Machine) (s : Bytes) → through m s ≡ behind (told (run m s).print) (through (run m s).machine (drop (run m s).read s))
unfolding through run print_bytes
run_through m [] = refl
run_through m (b ∷ s) = by_cases (complete m.state b) (λ t. rw t) (λ f. rw (f, run_through (step m b) s))

pub streams_through : (m : Machine) (p s : Bytes) → streams m (p ++ s) ≡ (through m p).output ++ streams (through m p).machine s
unfolding streams through
streams_through m [] s = refl
streams_through m (b ∷ p) s =
    by_cases (complete m.state b)
    (λ t. rw (t, streams_through (opened m) p s) (sym (append_assoc (told (due_print m)) (through (opened m) p).output (streams (through (opened m) p).machine s))))
    (λ f. rw f (streams_through (step m b) p s))

fed_streams : (m : Machine) (ps : List Bytes) → fed m ps ≡ streams m (joined ps)
unfolding fed joined streams
fed_streams m [] = refl
fed_streams m (p ∷ ps) = rw (fed_streams (through m p).machine ps) (sym (streams_through m p (joined ps)))

pub any_cutting : (kept : Bytes) (ps : List Bytes) → room ≤ length kept → fed (begun kept) ps ≡ program house (joined ps)
any_cutting kept ps r = fed_streams (begun kept) ps ∙ whole_input kept (joined ps) r
