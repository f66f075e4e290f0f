-- The file program byte by byte: a machine that reads one byte after another, knows where it is in the file, keeps the label and the
-- text of the rule that it is reading, and prints a rule once the line behind it has begun with `rule` TAB. Laws/Fed.antt proves that
-- what it prints for all the bytes of a file is what document 01's program prints.
use Rattle.std.specs.Prelude.{Bool, true, false, ◌&&◌, cond, [], ◌∷◌, ◌++◌, ℕ, suc, ◌-◌, min, eqb, ltb, length, take, drop, get_or, set, Option as Maybe, Some, None}
use Rattle.std.proofs.Math.Option.{Option, none, some}
use Rattle.definitions.specs.Bytes.{Bytes, TAB, LF}
use Rattle.definitions.specs.Limits.{house, published}
use Rattle.definitions.specs.RuleText.{simple_name, is_name}
use Rattle.definitions.specs.Convert.{Conversion, convert, work_after}
use Rattle.definitions.specs.Program.{rule_word, done_word, conversion_word, conversion_of, field_line, refusal, printed, question, conversions}
use Rattle.stream.specs.declared.machine.State.{State}
use Rattle.stream.specs.declared.machine.Early.{Early}
use Rattle.stream.specs.declared.machine.Early.TheVariants as early
use Rattle.convert.specs.declared.Conversion.{Conversion as Named}
use Rattle.convert.specs.Answers.{named}
use Rattle.stream.specs.declared.machine.State.TheVariants.{First, Refused, Second, Label, Text, Skipped, Poised}

-- a conversion that was found, or none
abbrev pub asked : Maybe Named → Option Conversion
asked None = none
asked (Some c) = some (named c)

-- how a rule line begins
abbrev pub rule_tab : Bytes
rule_tab = rule_word ++ (TAB ∷ [])

-- whether b is the next byte of `rule` TAB where `matched` of its bytes stand before; none is where a line has gone another way
abbrev pub matches : ℕ → ℕ → Bool
matches matched b = ltb matched 5 && eqb b (get_or rule_tab matched 0)

-- Where the machine is: in the first line; behind a bad one, where all is skipped; in the second line; in a label; in a rule's text, with
-- whether its label is good and how long that is. `matched` is how many bytes of `rule` TAB the line has begun with; 5 where it has gone
-- another way. The last number of the first line, of a label and of a text is how many bytes are kept. Last, where no rule line can begin
-- and yet the four bytes of `rule` are said to stand before: no run comes to it, and all that is said of machines holds of it too.
pub data Mode : Type 0 where
  first_line : ℕ → Mode
  refused_file : Mode
  second_line : Conversion → ℕ → Mode
  in_label : Conversion → ℕ → Mode
  in_text : Conversion → Bool → ℕ → ℕ → ℕ → Mode
  poised : Conversion → Early → Mode

-- the state of the code in these words
abbrev pub mode : State → Mode
mode (First size) = first_line size
mode Refused = refused_file
mode (Second c matched) = second_line (named c) matched
mode (Label c size) = in_label (named c) size
mode (Text c matched label size) = in_text (named c) true matched label size
mode (Skipped c matched) = in_text (named c) false matched 0 0
mode (Poised c before) = poised (named c) before

-- What the machine holds: its mode, and the lent buffer that keeps the first line, or the label and behind it the text.
pub record Machine : Type 0 where
  pub state : Mode
  pub kept : Bytes

abbrev pub at : State → Bytes → Machine
at s k = record { state = mode s; kept = k }

-- behind a first line: a conversion was chosen, or none
abbrev pub chosen : Option Conversion → Mode
chosen none = refused_file
chosen (some c) = second_line c 0

-- a byte is kept behind the others, where there is room
abbrev pub grown : ℕ → Bytes → ℕ
grown size kept = cond (ltb size (length kept)) (suc size) size

-- the longest first line without its LF, `do` TAB `simplify`; the longest label
abbrev pub longest_first : ℕ
longest_first = 11

abbrev pub longest_label : ℕ
longest_label = 24

-- what has to be lent to keep a rule: a label, as much of its text as can change the answer (Laws/Enough.antt), and `rule`
abbrev pub room : ℕ
room = 34845

-- What a byte makes of the machine. The first line names a conversion, or the file is refused; so is a line that is too long.
unfoldable pub first_step : Bytes → ℕ → ℕ → Machine
first_step kept size b =
    cond (eqb b LF)
    (record { state = chosen (conversion_of conversions (take size kept ++ (LF ∷ []))); kept = kept })
    (cond (ltb size longest_first)
    (record { state = first_line (grown size kept); kept = set kept size b })
    (record { state = refused_file; kept = kept }))

-- the second line has to be a rule line
unfoldable pub second_step : Bytes → Conversion → ℕ → ℕ → Machine
second_step kept c matched b = record { state = cond (matches matched b) (second_line c (suc matched)) refused_file; kept = kept }

-- behind a label, of which so many bytes are kept: of a bad one none
abbrev pub labelled : Conversion → Bool → ℕ → Mode
labelled c good size = in_text c good 0 (cond good size 0) (cond good size 0)

-- a label ends at its LF; one that is too long is bad, whatever follows
unfoldable pub label_step : Bytes → Conversion → ℕ → ℕ → Machine
label_step kept c size b =
    cond (eqb b LF)
    (record { state = labelled c (is_name house simple_name (take size kept)) size; kept = kept })
    (cond (ltb size longest_label)
    (record { state = in_label c (grown size kept); kept = set kept size b })
    (record { state = in_text c false 5 0 0; kept = kept }))

-- a text is kept where its label is good
abbrev pub next_matched : ℕ → ℕ → ℕ
next_matched matched b = cond (matches matched b) (suc matched) (cond (eqb b LF) 0 5)

unfoldable pub text_step : Bytes → Conversion → Bool → ℕ → ℕ → ℕ → ℕ → Machine
text_step kept c good matched label size b =
    cond good
    (record { state = in_text c true (next_matched matched b) label (grown size kept); kept = set kept size b })
    (record { state = in_text c false (next_matched matched b) label size; kept = kept })

-- where no rule line can begin, a byte that doesn't complete `rule` TAB is read as one of that place
abbrev pub early_step : Bytes → Conversion → Early → ℕ → Machine
early_step kept c (early.First size) b = first_step kept size b
early_step kept c early.Refused b = record { state = refused_file; kept = kept }
early_step kept c (early.Label size) b = label_step kept c size b

abbrev pub step_in : Mode → Bytes → ℕ → Machine
step_in (first_line size) kept b = first_step kept size b
step_in refused_file kept b = record { state = refused_file; kept = kept }
step_in (second_line c matched) kept b = second_step kept c matched b
step_in (in_label c size) kept b = label_step kept c size b
step_in (in_text c good matched label size) kept b = text_step kept c good matched label size b
step_in (poised c before) kept b = early_step kept c before b

unfoldable pub step : Machine → ℕ → Machine
step m b = step_in m.state m.kept b

-- What is printed: nothing, the `done` line, a rule with its label and its text, or that the file is refused.
pub data Print : Type 0 where
  no_print refusal_print : Print
  done_print : Conversion → Print
  rule_print : Conversion → Bool → Bytes → Bytes → Print

-- the label that is kept, and the text behind it
abbrev pub name_kept : Bytes → ℕ → Bytes
name_kept kept label = take (min label longest_label) kept

abbrev pub text_kept : Bytes → ℕ → ℕ → Bytes
text_kept kept label end = take (end - label) (drop label kept)

-- `rule` TAB is complete: it begins the first rule, or ends the one before. Of `rule` four bytes are kept.
abbrev pub matched_in : Mode → ℕ
matched_in (first_line size) = 5
matched_in refused_file = 5
matched_in (second_line c matched) = matched
matched_in (in_label c size) = 5
matched_in (in_text c good matched label size) = matched
matched_in (poised c before) = 4

abbrev pub complete : Mode → ℕ → Bool
complete m b = eqb (matched_in m) 4 && eqb b TAB

abbrev pub print_in : Mode → Bytes → Print
print_in (first_line size) kept = no_print
print_in refused_file kept = no_print
print_in (second_line c matched) kept = done_print c
print_in (in_label c size) kept = no_print
print_in (in_text c good matched label size) kept = rule_print c good (name_kept kept label) (text_kept kept label (size - 4))
print_in (poised c before) kept = no_print

unfoldable pub due_print : Machine → Print
due_print m = print_in m.state m.kept

-- behind it a label begins
abbrev pub opened_in : Mode → Mode
opened_in (first_line size) = first_line size
opened_in refused_file = refused_file
opened_in (second_line c matched) = in_label c 0
opened_in (in_label c size) = in_label c size
opened_in (in_text c good matched label size) = in_label c 0
opened_in (poised c before) = in_label c 0

abbrev pub opened : Machine → Machine
opened m = record { state = opened_in m.state; kept = m.kept }

-- what is printed at the end of the input
abbrev pub last_second : Conversion → ℕ → Print
last_second c matched = cond (eqb matched 0) (done_print c) refusal_print

abbrev pub last_early : Conversion → Early → Print
last_early c (early.First size) = refusal_print
last_early c early.Refused = refusal_print
last_early c (early.Label size) = rule_print c false [] []

abbrev pub last_in : Mode → Bytes → Print
last_in (first_line size) kept = refusal_print
last_in refused_file kept = refusal_print
last_in (second_line c matched) kept = last_second c matched
last_in (in_label c size) kept = rule_print c false [] []
last_in (in_text c good matched label size) kept = rule_print c good (name_kept kept label) (text_kept kept label size)
last_in (poised c before) kept = last_early c before

unfoldable pub last_print : Machine → Print
last_print m = last_in m.state m.kept

-- The bytes of a print, where so many are lent for work.
abbrev pub rule_bytes : Bool → Bytes → Bytes → Bytes
rule_bytes good label result = cond good (field_line rule_word label ++ result) (field_line rule_word question ++ refusal 2 0)

abbrev pub result_bytes : Conversion → Bytes → ℕ → Bytes
result_bytes c text work-length = cond (ltb work-length (published house)) (refusal 9 0) (printed (convert house c text))

unfoldable pub print_bytes : Print → ℕ → Bytes
print_bytes no_print w = []
print_bytes refusal_print w = refusal 2 0
print_bytes (done_print c) w = field_line done_word (conversion_word c)
print_bytes (rule_print c good label text) w = rule_bytes good label (result_bytes c text w)

-- only a conversion touches the work buffer
unfoldable pub print_work : Print → Bytes → Bytes
print_work no_print w = w
print_work refusal_print w = w
print_work (done_print c) w = w
print_work (rule_print c good label text) w = cond good (work_after house w) w

-- A run over the bytes of a piece: it stops behind the byte that has something printed, or at the end of the piece.
pub record Run : Type 0 where
  pub machine : Machine
  pub read : ℕ
  pub print : Print

abbrev pub one_more : Run → Run
one_more r = record { machine = r.machine; read = suc r.read; print = r.print }

unfoldable pub run : Machine → Bytes → Run
run m [] = record { machine = m; read = 0; print = no_print }
run m (b ∷ s) = cond (complete m.state b) (record { machine = opened m; read = 1; print = due_print m }) (one_more (run (step m b) s))
