-- What the file program prints for a well-made file: the `done` line, and then for each rule its `rule` line and what the conversion gives
-- of its text. Each rule stands for itself: what is printed for it depends on its own text alone.
use Rattle.std.specs.Prelude.{◌≡◌, refl, Bool, true, false, not, List, [], ◌∷◌, ◌++◌, ℕ, eqb, length}
use Rattle.std.proofs.Common.{sym, ◌∙◌, ap, append_assoc, append-nil, arith, le-leb, eqb-true}
use Rattle.std.proofs.Math.Option.{some}
use Rattle.definitions.specs.Bytes.{Bytes, LF, TAB, begins, null, onto, same}
use Rattle.definitions.specs.Limits.{Limits}
use Rattle.definitions.specs.RuleText.{simple_name}
use Rattle.definitions.specs.Convert.{Conversion, convert, pnf_to_snf, snf_to_cnf, snf_to_dnf, to_cnf, to_dnf, to_nnf, to_pnf, to_simplified, to_snf}
use Rattle.definitions.specs.Program.{Rule, conversion_of, conversion_word, conversions, cut, do_word, done_word, field_line, good_label, is_rule, label, of_lines, parts, printed, program, rule_output, rule_word, rules_output, without_end}
use Rattle.definitions.proofs.Laws.Bools.{and_true_left, and_true_right, by_cases, clash}
use Rattle.definitions.proofs.Laws.Sets.{same_refl}
use Rattle.definitions.specs.Laws.Pieces.{Clear}
use Rattle.definitions.proofs.Laws.Pieces.{name_clear}
use Rattle.definitions.specs.Laws.Program.{AllWellMade, WellMade, WrittenRule, ended, file_result, file_text, no_rule, none_left, one_more, rule_text}

-- Cutting into lines.
cut_some : (b : ℕ) (s : Bytes) → null (cut (b ∷ s)) ≡ false
unfolding cut
cut_some b s = by_cases (eqb b LF) (λ t. rw t) (λ f. rw f (go (cut s)))
  where
    go : (ls : List Bytes) → null (onto b ls) ≡ false
    go [] = refl
    go (l ∷ ls) = refl

onto_append : (b : ℕ) (ls ms : List Bytes) → null ls ≡ false → onto b (ls ++ ms) ≡ onto b ls ++ ms
onto_append b [] ms e = clash refl e
onto_append b (l ∷ ls) ms e = refl

cut_append : (s t : Bytes) → ended s ≡ true → cut (s ++ t) ≡ cut s ++ cut t
unfolding cut ended
cut_append [] t e = refl
cut_append (b ∷ []) t e = rw e
cut_append (b ∷ c ∷ s) t e =
    by_cases (eqb b LF)
    (λ h. rw h (ap ((LF ∷ []) ∷◌) (cut_append (c ∷ s) t e)))
    (λ h. rw h (ap (onto b) (cut_append (c ∷ s) t e) ∙ onto_append b (cut (c ∷ s)) (cut t) (cut_some c s)))

joined_lines : List Bytes → Bytes
joined_lines [] = []
joined_lines (l ∷ ls) = l ++ joined_lines ls

joined_onto : (b : ℕ) (ls : List Bytes) → joined_lines (onto b ls) ≡ b ∷ joined_lines ls
unfolding joined_lines
joined_onto b [] = refl
joined_onto b (l ∷ ls) = refl

joined_cut : (s : Bytes) → joined_lines (cut s) ≡ s
unfolding joined_lines cut
joined_cut [] = refl
joined_cut (b ∷ s) =
    by_cases (eqb b LF)
    (λ t. rw (t, joined_cut s, eqb-true b LF t))
    (λ f. rw f (joined_onto b (cut s) ∙ ap (b ∷◌) (joined_cut s)))

-- lines before a rule belong to what stands before it
parts_before : (ls ms : List Bytes) → no_rule ls ≡ true
    → parts (ls ++ ms) ≡ record { before = joined_lines ls ++ (parts ms).before; rules = (parts ms).rules }
unfolding parts no_rule joined_lines
parts_before [] ms e = refl
parts_before (l ∷ ls) ms e =
    rw (opposite_false (is_rule l) (and_true_left (not (is_rule l)) (no_rule ls) e), parts_before ls ms (and_true_right (not (is_rule l)) (no_rule ls) e))
    (ap (λ (s : Bytes). record { before = s; rules = (parts ms).rules }) (sym (append_assoc l (joined_lines ls) (parts ms).before)))
  where
    opposite_false : (b : Bool) → not b ≡ true → b ≡ false
    opposite_false true h = sym h
    opposite_false false h = refl

as_rule : WrittenRule → Rule
as_rule r = record { head = field_line rule_word r.label; text = r.text }

as_rules : List WrittenRule → List Rule
as_rules [] = []
as_rules (r ∷ rs) = as_rule r ∷ as_rules rs

-- a rule line is one line, with its label
cut_clear : (s t : Bytes) → Clear LF s → cut (s ++ (LF ∷ t)) ≡ (s ++ (LF ∷ [])) ∷ cut t
unfolding cut
cut_clear [] t h = refl
cut_clear (b ∷ s) t h = rw (h.0, cut_clear s t h.1)

end_clear : (s : Bytes) → Clear LF s → without_end (s ++ (LF ∷ [])) ≡ s
unfolding without_end
end_clear [] h = refl
end_clear (b ∷ s) h = rw (h.0, end_clear s h.1)

module _ (L : Limits) (r : WrittenRule) (w : WellMade L r) where
  clear : Clear LF r.label
  clear = name_clear LF (omega arith) L simple_name r.label w.named

  clear_line : Clear LF (rule_word ++ (TAB ∷ r.label))
  clear_line = (refl, (refl, (refl, (refl, (refl, clear)))))

  told : label (field_line rule_word r.label) ≡ r.label
  told = end_clear r.label clear

  good : good_label L (field_line rule_word r.label) ≡ true
  unfolding good_label
  good = rw (told, same_refl (field_line rule_word r.label), w.named, end_clear (rule_word ++ (TAB ∷ r.label)) clear_line)
      (le-leb (length (rule_word ++ (TAB ∷ r.label))) L.line w.short)

  one_rule : (c : Conversion) → rule_output L c (as_rule r) ≡ field_line rule_word r.label ++ printed (convert L c r.text)
  unfolding rule_output as_rule
  one_rule c = rw (good, told)

  rule_cut : (t : Bytes) → cut (rule_text r ++ t) ≡ field_line rule_word r.label ∷ (cut r.text ++ cut t)
  rule_cut t =
      ap cut (append_assoc (field_line rule_word r.label) r.text t ∙ append_assoc (rule_word ++ (TAB ∷ r.label)) (LF ∷ []) (r.text ++ t))
      ∙ cut_clear (rule_word ++ (TAB ∷ r.label)) (r.text ++ t) clear_line
      ∙ ap (λ ls. field_line rule_word r.label ∷ ls) (cut_append r.text t w.whole)

file_parts : (L : Limits) (rs : List WrittenRule) → AllWellMade L rs → parts (cut (file_text rs)) ≡ record { before = []; rules = as_rules rs }
unfolding file_text parts cut as_rules as_rule begins
file_parts L [] none_left = refl
file_parts L (r ∷ rs) (one_more w ws) =
    let rest = file_parts L rs ws in
    ap parts (rule_cut L r w (file_text rs))
    ∙ rw (parts_before (cut r.text) (cut (file_text rs)) w.alone, rest, joined_cut r.text, append-nil r.text)

file_rules : (L : Limits) (c : Conversion) (rs : List WrittenRule) → AllWellMade L rs → rules_output L c (as_rules rs) ≡ file_result L c rs
unfolding rules_output as_rules file_result
file_rules L c [] none_left = refl
file_rules L c (r ∷ rs) (one_more w ws) =
    rw (one_rule L r w c, file_rules L c rs ws) (append_assoc (field_line rule_word r.label) (printed (convert L c r.text)) (file_result L c rs))

do_line : (c : Conversion) (t : Bytes) → cut (field_line do_word (conversion_word c) ++ t) ≡ field_line do_word (conversion_word c) ∷ cut t
unfolding cut
do_line to_simplified t = refl
do_line to_nnf t = refl
do_line to_pnf t = refl
do_line to_snf t = refl
do_line to_cnf t = refl
do_line to_dnf t = refl
do_line pnf_to_snf t = refl
do_line snf_to_cnf t = refl
do_line snf_to_dnf t = refl

do_read : (c : Conversion) → conversion_of conversions (field_line do_word (conversion_word c)) ≡ some c
unfolding conversion_of same
do_read to_simplified = refl
do_read to_nnf = refl
do_read to_pnf = refl
do_read to_snf = refl
do_read to_cnf = refl
do_read to_dnf = refl
do_read pnf_to_snf = refl
do_read snf_to_cnf = refl
do_read snf_to_dnf = refl

pub file_printed : (L : Limits) (c : Conversion) (rs : List WrittenRule) → AllWellMade L rs
    → program L (field_line do_word (conversion_word c) ++ file_text rs) ≡ field_line done_word (conversion_word c) ++ file_result L c rs
unfolding program
file_printed L c rs ws =
    ap (of_lines L) (do_line c (file_text rs))
    ∙ rw (do_read c, file_parts L rs ws) (ap (λ s. field_line done_word (conversion_word c) ++ s) (file_rules L c rs ws))
