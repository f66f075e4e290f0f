-- The file program, as a function from the bytes of standard input to those of standard output.
use Rattle.std.specs.Prelude.{Bool, ◌&&◌, cond, List, [], ◌∷◌, ◌++◌, ℕ, eqb, leb, length, drop}
use Rattle.std.proofs.Math.Option.{Option, none, some}
use Rattle.definitions.specs.Bytes.{Bytes, TAB, LF, same, null, onto, begins, decimal}
use Rattle.definitions.specs.Limits.{Limits, lent}
use Rattle.definitions.specs.RuleText.{simple_name, is_name}
use Rattle.definitions.specs.Convert.{Conversion, to_simplified, to_nnf, to_pnf, to_snf, to_cnf, to_dnf, pnf_to_snf, snf_to_cnf, snf_to_dnf, Result, given, refused, convert}

-- The words of the house format: `do`, `rule`, `done`, `refused`; and the conversions' names.
abbrev pub do_word : Bytes
do_word = 100 ∷ 111 ∷ []

abbrev pub rule_word : Bytes
rule_word = 114 ∷ 117 ∷ 108 ∷ 101 ∷ []

abbrev pub done_word : Bytes
done_word = 100 ∷ 111 ∷ 110 ∷ 101 ∷ []

abbrev pub refused_word : Bytes
refused_word = 114 ∷ 101 ∷ 102 ∷ 117 ∷ 115 ∷ 101 ∷ 100 ∷ []

-- `simplify` `nnf` `pnf` `snf` `cnf` `dnf` `pnf-snf` `snf-cnf` `snf-dnf`
abbrev pub conversion_word : Conversion → Bytes
conversion_word to_simplified = 115 ∷ 105 ∷ 109 ∷ 112 ∷ 108 ∷ 105 ∷ 102 ∷ 121 ∷ []
conversion_word to_nnf = 110 ∷ 110 ∷ 102 ∷ []
conversion_word to_pnf = 112 ∷ 110 ∷ 102 ∷ []
conversion_word to_snf = 115 ∷ 110 ∷ 102 ∷ []
conversion_word to_cnf = 99 ∷ 110 ∷ 102 ∷ []
conversion_word to_dnf = 100 ∷ 110 ∷ 102 ∷ []
conversion_word pnf_to_snf = 112 ∷ 110 ∷ 102 ∷ 45 ∷ 115 ∷ 110 ∷ 102 ∷ []
conversion_word snf_to_cnf = 115 ∷ 110 ∷ 102 ∷ 45 ∷ 99 ∷ 110 ∷ 102 ∷ []
conversion_word snf_to_dnf = 115 ∷ 110 ∷ 102 ∷ 45 ∷ 100 ∷ 110 ∷ 102 ∷ []

abbrev pub conversions : List Conversion
conversions = to_simplified ∷ to_nnf ∷ to_pnf ∷ to_snf ∷ to_cnf ∷ to_dnf ∷ pnf_to_snf ∷ snf_to_cnf ∷ snf_to_dnf ∷ []

-- word TAB field LF
abbrev pub field_line : Bytes → Bytes → Bytes
field_line w f = w ++ (TAB ∷ (f ++ (LF ∷ [])))

abbrev pub refusal : ℕ → ℕ → Bytes
refusal number place = refused_word ++ (TAB ∷ (decimal number ++ (TAB ∷ (decimal place ++ (LF ∷ [])))))

-- The lines of a text, each with its LF; the last may be without.
unfoldable pub cut : Bytes → List Bytes
cut [] = []
cut (b ∷ s) = cond (eqb b LF) ((LF ∷ []) ∷ cut s) (onto b (cut s))

-- the first line: `do` TAB a conversion, with its LF (so it cannot be over the line limit)
unfoldable pub conversion_of : List Conversion → Bytes → Option Conversion
conversion_of [] l = none
conversion_of (c ∷ cs) l = cond (same l (field_line do_word (conversion_word c))) (some c) (conversion_of cs l)

-- a rule line, whatever follows; its label, where it is good
abbrev pub is_rule : Bytes → Bool
is_rule l = begins (rule_word ++ (TAB ∷ [])) l

unfoldable pub without_end : Bytes → Bytes
without_end [] = []
without_end (b ∷ s) = cond (eqb b LF) [] (b ∷ without_end s)

abbrev pub label : Bytes → Bytes
label l = without_end (drop 5 l)

unfoldable pub good_label : Limits → Bytes → Bool
good_label L l = same l (field_line rule_word (label l)) && is_name L simple_name (label l) && leb (length (without_end l)) L.line

-- A rule: its rule line and the text of its tree, up to the next rule line.
pub record Rule : Type 0 where
  pub head : Bytes
  pub text : Bytes

-- what stands before the first rule line, and the rules
pub record Parts : Type 0 where
  pub before : Bytes
  pub rules : List Rule

unfoldable pub parts : List Bytes → Parts
parts [] = record { before = []; rules = [] }
parts (l ∷ ls) =
    cond (is_rule l)
    (record { before = []; rules = record { head = l; text = (parts ls).before } ∷ (parts ls).rules })
    (record { before = l ++ (parts ls).before; rules = (parts ls).rules })

-- a result as it is printed; 65,536 bytes are lent for it
abbrev pub printed : Result → Bytes
printed (given s) = cond (leb (length s) lent) s (refusal 1 0)
printed (refused n p) = refusal n p

-- `?` stands for a bad label; its tree is not looked at
abbrev pub question : Bytes
question = 63 ∷ []

unfoldable pub rule_output : Limits → Conversion → Rule → Bytes
rule_output L c r =
    cond (good_label L r.head)
    (field_line rule_word (label r.head) ++ printed (convert L c r.text))
    (field_line rule_word question ++ refusal 2 0)

unfoldable pub rules_output : Limits → Conversion → List Rule → Bytes
rules_output L c [] = []
rules_output L c (r ∷ rs) = rule_output L c r ++ rules_output L c rs

-- with no second line the output is the `done` line alone; a second line that is no rule line refuses the file
abbrev pub file_output : Limits → Conversion → Parts → Bytes
file_output L c p = cond (null p.before) (field_line done_word (conversion_word c) ++ rules_output L c p.rules) (refusal 2 0)

abbrev pub after_first : Limits → Option Conversion → List Bytes → Bytes
after_first L none ls = refusal 2 0
after_first L (some c) ls = file_output L c (parts ls)

abbrev pub of_lines : Limits → List Bytes → Bytes
of_lines L [] = refusal 2 0
of_lines L (l ∷ ls) = after_first L (conversion_of conversions l) ls

unfoldable pub program : Limits → Bytes → Bytes
program L input = of_lines L (cut input)
