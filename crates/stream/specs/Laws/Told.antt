-- What the machine prints from a label or from a rule's text on: the rule, and then the rules that follow, as the definition cuts them.
-- Each state stands for what is still to be printed, and a byte keeps that.
use Rattle.std.specs.Prelude.{◌≡◌, refl, Bool, ◌&&◌, cond, [], ◌∷◌, ◌++◌, ℕ, zero, suc, ◌-◌, ◌≤◌, ◌<◌, eqb, ltb, length, take, get_or, set}
use Rattle.std.proofs.Common.{sym, ◌∙◌, ap, append_assoc, append-nil, arith, eqb-true, ltb-true, ltb-false, lt-ltb, length-append, take-suc-set}
use Rattle.std.proofs.Math.Bool.{true, false}
use Rattle.std.proofs.lemmas.Bool.{eqb-false}
use Rattle.std.proofs.Math.ListN.{length-set}
use Rattle.definitions.specs.Bytes.{Bytes, TAB, LF}
use Rattle.definitions.specs.Limits.{house}
use Rattle.definitions.specs.RuleText.{simple_name, is_name}
use Rattle.definitions.specs.Convert.{Conversion, convert}
use Rattle.definitions.specs.Program.{Parts, cut, parts, rule_word, field_line, printed, good_label, label, rule_output, rules_output}
use Rattle.definitions.proofs.Laws.Bools.{by_cases, clash, and_true_left, and_true_right}
use Rattle.definitions.specs.Laws.Pieces.{Clear}
use Rattle.definitions.proofs.Laws.Pieces.{clear_append}
use Rattle.stream.specs.Machine.{room, rule_print, rule_tab, matches, next_matched, in_text, in_label, grown, step, text_step, label_step, due_print, last_print, print_bytes, rule_bytes, name_kept, text_kept, longest_label, labelled}
use Rattle.stream.specs.Feeding.{told, streams}
use Rattle.stream.specs.Laws.Rules.{line_of, after_line, line_at, first_rule, pending, line_ends, line_matches, rule_begins, line_misses}
use Rattle.stream.specs.Laws.Held.{Held, held_first, held_byte, held_all, held_but}
use Rattle.stream.specs.Laws.Labels.{line_of_clear, after_line_clear, clear_tab, unended_bad, long_bad, label_is, good_is}

-- what a rule prints
abbrev pub ruled : Bool → Bytes → Conversion → Bytes → Bytes
ruled good name c text = rule_bytes good name (printed (convert house c text))

abbrev pub rules : Conversion → Parts → Bytes
rules c p = rules_output house c p.rules

pub record RuleStreams (s : Bytes) : Type 0 where
  pub text : (c : Conversion) (k label size : ℕ) (good : Bool) (kept name v : Bytes) → k ≤ 5 → room ≤ length kept → (good ≡ true → Held kept label size name (v ++ pending k))
      → streams (record { state = in_text c good k label size; kept = kept }) s ≡ ruled good name c (v ++ (line_at k s).before) ++ rules c (line_at k s)
  pub label : (c : Conversion) (size : ℕ) (kept name : Bytes) → room ≤ length kept → take size kept ≡ name → length name ≡ size → size ≤ longest_label → Clear LF name
      → streams (record { state = in_label c size; kept = kept }) s ≡ rules c (first_rule (rule_tab ++ (name ++ s)))

-- a rule is printed as its whole text would be
rule_told : (good : Bool) (c : Conversion) (name' name x v : Bytes) → (good ≡ true → (name' ≡ name) × (convert house c x ≡ convert house c v))
    → told (rule_print c good name' x) ≡ ruled good name c v
unfolding print_bytes
rule_told true c name' name x v h = rw ((h refl).0, (h refl).1)
rule_told false c name' name x v h = refl

-- a byte that goes on with `rule` TAB but does not complete it
pub not_last : (k b : ℕ) → matches k b ≡ true → (eqb k 4 && eqb b TAB) ≡ false → k < 4
not_last k b m f =
    by_cases (eqb k 4)
    (λ t. let four = eqb-true k 4 t in clash (and_true_right (ltb 4 5) (eqb b TAB) (rw four at m)) (rw four at f))
    (λ n. lower (eqb-false k 4 n) (ltb-true k 5 (and_true_left (ltb k 5) (eqb b (get_or rule_tab k 0)) m)))
  where
    lower : (k ≡ 4 → ⊥) → k < 5 → k < 4
    lower n l = omega arith

pending_byte : (k b : ℕ) → matches k b ≡ true → k < 4 → pending k ++ (b ∷ []) ≡ pending (suc k)
pending_byte zero b e h = rw (eqb-true b 114 e)
pending_byte (suc zero) b e h = rw (eqb-true b 117 e)
pending_byte (suc (suc zero)) b e h = rw (eqb-true b 108 e)
pending_byte (suc (suc (suc zero))) b e h = rw (eqb-true b 101 e)
pending_byte (suc (suc (suc (suc k)))) b e h = absurd (omega arith)

pending_none : (b : Bool) → pending (cond b 0 5) ≡ []
pending_none true = refl
pending_none false = refl

text_ends : (c : Conversion) (k label size : ℕ) (good : Bool) (kept name v : Bytes) → k ≤ 5 → (good ≡ true → Held kept label size name (v ++ pending k))
    → streams (record { state = in_text c good k label size; kept = kept }) [] ≡ ruled good name c (v ++ (line_at k []).before) ++ rules c (line_at k [])
unfolding streams last_print rules_output
text_ends c k label size good kept name v few h =
    rw (line_ends k few)
    (rule_told good c (name_kept kept label) name (text_kept kept label size) (v ++ pending k)
    (λ t. ((h t).named, held_all kept label size name (v ++ pending k) c (h t)))
    ∙ sym (append-nil (ruled good name c (v ++ pending k))))

-- `rule` TAB is complete
text_rule : (c : Conversion) (label size : ℕ) (good : Bool) (kept name v s : Bytes) → room ≤ length kept → RuleStreams s → (good ≡ true → Held kept label size name (v ++ pending 4))
    → streams (record { state = in_text c good 4 label size; kept = kept }) (TAB ∷ s) ≡ ruled good name c (v ++ (line_at 4 (TAB ∷ s)).before) ++ rules c (line_at 4 (TAB ∷ s))
unfolding streams due_print
text_rule c label size good kept name v s r ih h =
    rw (
      rule_begins s,
      append-nil v,
      rule_told good c (name_kept kept label) name (text_kept kept label (size - 4)) v (λ t. ((h t).named, held_but kept label size name v (pending 4) c refl (h t))),
      ih.label c 0 kept [] r refl refl (omega arith) tt,
    )

-- a byte of the text, by whether it goes on with `rule`
module _ (c : Conversion) (k b label size : ℕ) (kept name v s : Bytes) (few : k ≤ 5) (r : room ≤ length kept) (ih : RuleStreams s) where
  misses_text : (v ++ pending k) ++ (b ∷ []) ≡ ((v ++ pending k) ++ (b ∷ [])) ++ pending (cond (eqb b LF) 0 5)
  misses_text = sym (rw (pending_none (eqb b LF)) (append-nil ((v ++ pending k) ++ (b ∷ []))))

  few_again : (t : Bool) → cond t 0 5 ≤ 5
  few_again true = omega arith
  few_again false = omega arith

  text_on : (good : Bool) (kept' : Bytes) (size' : ℕ) → room ≤ length kept' → (good ≡ true → Held kept' label size' name ((v ++ pending k) ++ (b ∷ []))) → (eqb k 4 && eqb b TAB) ≡ false
      → streams (record { state = in_text c good (next_matched k b) label size'; kept = kept' }) s ≡ ruled good name c (v ++ (line_at k (b ∷ s)).before) ++ rules c (line_at k (b ∷ s))
  text_on good kept' size' r' h f =
      by_cases (matches k b)
      (λ t. let less = not_last k b t f in
      rw (t, line_matches k b s t less)
      (ih.text c (suc k) label size' good kept' name v (omega arith) r'
      (λ g. rw (append_assoc v (pending k) (b ∷ []), pending_byte k b t less) at (h g))))
      (λ n. rw (n, line_misses k b s few n)
      (ih.text c (cond (eqb b LF) 0 5) label size' good kept' name ((v ++ pending k) ++ (b ∷ [])) (few_again (eqb b LF)) r' (λ g. rw misses_text at (h g))
      ∙ rw (append_assoc (v ++ pending k) (b ∷ []) (line_at (cond (eqb b LF) 0 5) s).before, append_assoc v (pending k) (b ∷ (line_at (cond (eqb b LF) 0 5) s).before))))

  text_byte : (good : Bool) → (good ≡ true → Held kept label size name (v ++ pending k)) → (eqb k 4 && eqb b TAB) ≡ false
      → streams (step (record { state = in_text c good k label size; kept = kept }) b) s ≡ ruled good name c (v ++ (line_at k (b ∷ s)).before) ++ rules c (line_at k (b ∷ s))
  unfolding step text_step
  text_byte true h f =
      text_on true (set kept size b) (grown size kept) (omega (arith, length-set kept size b)) (λ g. held_byte kept label size name (v ++ pending k) b (h g)) f
  text_byte false h f = text_on false kept size r (λ g. clash g refl) f

-- The label. At its LF it is good just when it is a name; without an LF, or too long, it is bad.
rule_is : (c : Conversion) (head text : Bytes) (p : Parts) → good_label house head ≡ false
    → rules_output house c (record { head = head; text = text } ∷ p.rules) ≡ ruled false [] c [] ++ rules c p
unfolding rules_output rule_output
rule_is c head text p f = rw f

label_ends : (c : Conversion) (size : ℕ) (kept name : Bytes) → Clear LF name → streams (record { state = in_label c size; kept = kept }) [] ≡ rules c (first_rule (rule_tab ++ (name ++ [])))
unfolding streams last_print print_bytes parts cut rules_output line_of after_line
label_ends c size kept name h =
    sym (rw (append-nil name)
    (rule_is c (line_of (rule_tab ++ name)) (parts (cut (after_line (rule_tab ++ name)))).before (parts (cut (after_line (rule_tab ++ name)))) bad
    ∙ rw (after_line_none name h) (append-nil (ruled false [] c []))))
  where
    line_whole : (s : Bytes) → Clear LF s → line_of s ≡ s
    line_whole s k = ap line_of (sym (append-nil s)) ∙ line_of_clear s [] k ∙ append-nil s

    after_line_none : (s : Bytes) → Clear LF s → after_line s ≡ []
    after_line_none s k = ap after_line (sym (append-nil s)) ∙ after_line_clear s [] k

    bad : good_label house (line_of (rule_tab ++ name)) ≡ false
    bad = rw (line_whole (rule_tab ++ name) (clear_tab name h)) (unended_bad (rule_tab ++ name) (clear_tab name h))

label_line : (c : Conversion) (size : ℕ) (kept name s : Bytes) → room ≤ length kept → take size kept ≡ name → length name ≡ size → size ≤ longest_label → Clear LF name → RuleStreams s
    → streams (record { state = labelled c (is_name house simple_name (take size kept)) size; kept = kept }) s ≡ rules c (first_rule (rule_tab ++ (name ++ (LF ∷ s))))
unfolding rules_output rule_output line_of after_line
label_line c size kept name s r e n few h ih =
    let line : line_of (rule_tab ++ (name ++ (LF ∷ s))) ≡ field_line rule_word name = line_of_clear (rule_tab ++ name) (LF ∷ s) (clear_tab name h) in
    let rest : after_line (rule_tab ++ (name ++ (LF ∷ s))) ≡ s = after_line_clear (rule_tab ++ name) (LF ∷ s) (clear_tab name h) in
    let short : length name ≤ longest_label = omega arith in
    rw (line, rest, good_is name h short, label_is name h short, e)
    (let good = is_name house simple_name name in
    ih.text c 0 (cond good size 0) (cond good size 0) good kept name [] (omega arith) r (λ t. rw t (held_first kept name size r few e)))

label_byte : (c : Conversion) (size b : ℕ) (kept name s : Bytes) → room ≤ length kept → take size kept ≡ name → length name ≡ size → size < longest_label → Clear LF name → eqb b LF ≡ false → RuleStreams s
    → streams (record { state = in_label c (grown size kept); kept = set kept size b }) s ≡ rules c (first_rule (rule_tab ++ (name ++ (b ∷ s))))
label_byte c size b kept name s r e n few h f ih =
    let fits : size < length kept = omega arith in
    let longer : length (name ++ (b ∷ [])) ≡ suc size = omega (arith, length-append name (b ∷ [])) in
    let taken : take (suc size) (set kept size b) ≡ name ++ (b ∷ []) = take-suc-set kept size b fits ∙ ap (◌++ (b ∷ [])) e in
    let again : name ++ (b ∷ s) ≡ (name ++ (b ∷ [])) ++ s = sym (append_assoc name (b ∷ []) s) in
    rw (lt-ltb size (length kept) fits, again)
    (ih.label c (suc size) (set kept size b) (name ++ (b ∷ [])) (omega (arith, length-set kept size b)) taken longer few (clear_append LF name (b ∷ []) h (f, tt)))

label_long : (c : Conversion) (b : ℕ) (kept name s : Bytes) → room ≤ length kept → longest_label ≤ length name → Clear LF name → eqb b LF ≡ false → RuleStreams s
    → streams (record { state = in_text c false 5 0 0; kept = kept }) s ≡ rules c (first_rule (rule_tab ++ (name ++ (b ∷ s))))
label_long c b kept name s r long h f ih =
    let clear : Clear LF (name ++ (b ∷ [])) = clear_append LF name (b ∷ []) h (f, tt) in
    let again : name ++ (b ∷ s) ≡ (name ++ (b ∷ [])) ++ s = sym (append_assoc name (b ∷ []) s) in
    let line : line_of (rule_tab ++ ((name ++ (b ∷ [])) ++ s)) ≡ rule_tab ++ ((name ++ (b ∷ [])) ++ line_of s) = line_of_clear (rule_tab ++ (name ++ (b ∷ []))) s (clear_tab (name ++ (b ∷ [])) clear) in
    let rest : after_line (rule_tab ++ ((name ++ (b ∷ [])) ++ s)) ≡ after_line s = after_line_clear (rule_tab ++ (name ++ (b ∷ []))) s (clear_tab (name ++ (b ∷ [])) clear) in
    let bad : good_label house (rule_tab ++ ((name ++ (b ∷ [])) ++ line_of s)) ≡ false = long_bad (name ++ (b ∷ [])) (line_of s) clear (omega (arith, length-append name (b ∷ []))) in
    ih.text c 5 0 0 false kept [] [] (omega arith) r (λ g. clash g refl)
    ∙ sym (rw (again, line, rest) (rule_is c (rule_tab ++ ((name ++ (b ∷ [])) ++ line_of s)) (parts (cut (after_line s))).before (parts (cut (after_line s))) bad))

label_any : (c : Conversion) (size b : ℕ) (kept name s : Bytes) → room ≤ length kept → take size kept ≡ name → length name ≡ size → size ≤ longest_label → Clear LF name → RuleStreams s
    → streams (step (record { state = in_label c size; kept = kept }) b) s ≡ rules c (first_rule (rule_tab ++ (name ++ (b ∷ s))))
unfolding step label_step
label_any c size b kept name s r e n few h ih =
    by_cases (eqb b LF)
    (λ t. rw (t, eqb-true b LF t) (label_line c size kept name s r e n few h ih))
    (λ f. by_cases (ltb size longest_label)
    (λ t. rw (f, t) (label_byte c size b kept name s r e n (ltb-true size longest_label t) h f ih))
    (λ g. rw (f, g) (label_long c b kept name s r (omega (arith, ltb-false size longest_label g)) h f ih)))

pub rule_streams : (s : Bytes) → RuleStreams s
unfolding streams
rule_streams [] = record {
  text = λ c k label size good kept name v few r h. text_ends c k label size good kept name v few h;
  label = λ c size kept name r e n few h. label_ends c size kept name h;
}
rule_streams (b ∷ s) = go (rule_streams s)
  where
    go : RuleStreams s → RuleStreams (b ∷ s)
    go ih = record {
      text = λ c k label size good kept name v few r h.
          by_cases (eqb k 4 && eqb b TAB)
          (λ t. let four = eqb-true k 4 (and_true_left (eqb k 4) (eqb b TAB) t) in
          rw (four, eqb-true b TAB (and_true_right (eqb k 4) (eqb b TAB) t))
          (text_rule c label size good kept name v s r ih (λ g. rw four at (h g))))
          (λ f. rw f (text_byte c k b label size kept name v s few r ih good h f));
      label = λ c size kept name r e n few h. label_any c size b kept name s r e n few h ih;
    }
