-- What the file program prints for a well-made file: the `done` line, and then for each rule its `rule` line and what the conversion gives
-- of its text. Each rule stands for itself: what is printed for it depends on its own text alone.
use Rattle.std.specs.Prelude.{◌≡◌, Bool, true, not, ◌&&◌, List, [], ◌∷◌, ◌++◌, ◌≤◌, eqb, length}
use Rattle.definitions.specs.Bytes.{Bytes, LF, TAB}
use Rattle.definitions.specs.Limits.{Limits}
use Rattle.definitions.specs.RuleText.{is_name, simple_name}
use Rattle.definitions.specs.Convert.{Conversion, convert}
use Rattle.definitions.specs.Program.{cut, field_line, is_rule, printed, rule_word}

-- a text that is empty or ends in LF
unfoldable pub ended : Bytes → Bool
ended [] = true
ended (b ∷ []) = eqb b LF
ended (b ∷ c ∷ s) = ended (c ∷ s)

-- no line of it is a rule line
unfoldable pub no_rule : List Bytes → Bool
no_rule [] = true
no_rule (l ∷ ls) = not (is_rule l) && no_rule ls

-- a rule as a site writes it: a label, and a text
pub record WrittenRule : Type 0 where
  pub label : Bytes
  pub text : Bytes

abbrev pub rule_text : WrittenRule → Bytes
rule_text r = field_line rule_word r.label ++ r.text

unfoldable pub file_text : List WrittenRule → Bytes
file_text [] = []
file_text (r ∷ rs) = rule_text r ++ file_text rs

-- its label is a name without `#` or backtick, on a line within the limit, and its text is lines of which none is a rule line
pub record WellMade (L : Limits) (r : WrittenRule) : Type 0 where
  pub named : is_name L simple_name r.label ≡ true
  pub short : length (rule_word ++ (TAB ∷ r.label)) ≤ L.line
  pub whole : ended r.text ≡ true
  pub alone : no_rule (cut r.text) ≡ true

pub data AllWellMade (L : Limits) : List WrittenRule → Type 0 where
  none_left : AllWellMade L []
  one_more : {r : WrittenRule} {rs : List WrittenRule} → WellMade L r → AllWellMade L rs → AllWellMade L (r ∷ rs)

unfoldable pub file_result : Limits → Conversion → List WrittenRule → Bytes
file_result L c [] = []
file_result L c (r ∷ rs) = field_line rule_word r.label ++ (printed (convert L c r.text) ++ file_result L c rs)
