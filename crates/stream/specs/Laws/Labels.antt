-- Which rule lines have a good label, for a line that is read byte by byte: none without LF, none whose label is too long, and
-- otherwise those whose label is a name.
use Rattle.std.specs.Prelude.{◌≡◌, refl, true, false, ◌&&◌, ◌≤◌, ◌<◌, leb, length}
use Rattle.std.proofs.Common.{◌∙◌, ap, arith, leb-true, le-leb, length-append}
use mathlib.Core.List.{[], ◌∷◌, ◌++◌, append-nil}
use Rattle.definitions.specs.Bytes.{Bytes, LF, same, null}
use Rattle.definitions.specs.Limits.{house}
use Rattle.definitions.specs.RuleText.{letter, simple_name, behind, is_name}
use Rattle.definitions.specs.Program.{field_line, rule_word, without_end, label, good_label}
use Rattle.definitions.proofs.Laws.Bools.{by_cases, clash, and_true_left, and_true_right}
use Rattle.definitions.proofs.Laws.Sets.{same_refl, same_eq}
use Rattle.definitions.specs.Laws.Pieces.{Clear}
use Rattle.stream.specs.Machine.{rule_tab, longest_label}
use Rattle.stream.specs.Laws.Rules.{line_of, after_line}

-- bytes without LF before a line's rest
pub line_of_clear : (s r : Bytes) → Clear LF s → line_of (s ++ r) ≡ s ++ line_of r
unfolding line_of
line_of_clear [] r h = refl
line_of_clear (b ∷ s) r h = rw (h.0, line_of_clear s r h.1)

pub after_line_clear : (s r : Bytes) → Clear LF s → after_line (s ++ r) ≡ after_line r
unfolding after_line
after_line_clear [] r h = refl
after_line_clear (b ∷ s) r h = rw (h.0, after_line_clear s r h.1)

end_clear : (s r : Bytes) → Clear LF s → without_end (s ++ r) ≡ s ++ without_end r
unfolding without_end
end_clear [] r h = refl
end_clear (b ∷ s) r h = rw (h.0, end_clear s r h.1)

pub not_clear {ℓ} : {A : Type ℓ} (s : Bytes) → Clear LF (s ++ (LF ∷ [])) → A
not_clear [] h = clash refl h.0
not_clear (b ∷ s) h = not_clear s h.1

pub clear_tab : (s : Bytes) → Clear LF s → Clear LF (rule_tab ++ s)
clear_tab s h = (refl, (refl, (refl, (refl, (refl, h)))))

name_short : (s : Bytes) → is_name house simple_name s ≡ true → length s ≤ longest_label
unfolding is_name
name_short [] e = omega arith
name_short (x ∷ s) e =
    let short = leb (length (x ∷ s)) longest_label in
    leb-true (length (x ∷ s)) longest_label (and_true_left short (letter x) (and_true_left (short && letter x) (null (behind simple_name s)) e))

-- what a good label is
record Told (l : Bytes) : Type 0 where
  whole : l ≡ field_line rule_word (label l)
  named : is_name house simple_name (label l) ≡ true

told : (l : Bytes) → good_label house l ≡ true → Told l
unfolding good_label
told l e =
    let s = same l (field_line rule_word (label l)) in
    let n = is_name house simple_name (label l) in
    let both = and_true_left (s && n) (leb (length (without_end l)) 1024) e in
    record { whole = same_eq l (field_line rule_word (label l)) (and_true_left s n both); named = and_true_right s n both }

pub unended_bad : (l : Bytes) → Clear LF l → good_label house l ≡ false
unended_bad l h =
    by_cases (good_label house l)
    (λ t. not_clear (rule_tab ++ label l) (rw (told l t).whole at h))
    (λ f. f)

pub long_bad : (s r : Bytes) → Clear LF s → longest_label < length s → good_label house (rule_tab ++ (s ++ r)) ≡ false
long_bad s r h long =
    by_cases (good_label house (rule_tab ++ (s ++ r)))
    (λ t. absurd (omega (arith, name_short (label (rule_tab ++ (s ++ r))) (told (rule_tab ++ (s ++ r)) t).named, ap length (end_clear s r h), length-append s (without_end r))))
    (λ f. f)

module _ (s : Bytes) (h : Clear LF s) (short : length s ≤ longest_label) where
  pub label_is : label (field_line rule_word s) ≡ s
  unfolding without_end
  label_is = end_clear s (LF ∷ []) h ∙ append-nil s

  pub good_is : good_label house (field_line rule_word s) ≡ is_name house simple_name s
  unfolding good_label without_end
  good_is =
      rw (label_is, same_refl (field_line rule_word s))
      (by_cases (is_name house simple_name s) (λ t. rw t (le-leb (length (rule_tab ++ s)) 1024 (omega arith))) (λ f. rw f))
