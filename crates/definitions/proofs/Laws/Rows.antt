-- A text as rows of fields: where no field holds a tab or a line feed, cutting the text at line feeds and tabs gives the rows back.
use Rattle.std.specs.Prelude.{◌≡◌, refl, true, List, [], ◌∷◌, ◌++◌, map, ℕ, ltb}
use Rattle.std.proofs.Common.{sym, ◌∙◌, ap, ap₂, arith, ltb-true, ne_eqb}
use Rattle.std.proofs.lemmas.List.{append_cancel_right}
use Rattle.definitions.specs.Bytes.{Bytes, TAB, LF, behind_each, split, decimal}
use Rattle.definitions.specs.Limits.{Limits}
use Rattle.definitions.specs.RuleText.{Manner, is_name}
use Rattle.definitions.specs.Truth.{every}
use Rattle.definitions.proofs.Laws.Bools.{and_true_left, and_true_right}
use Rattle.definitions.specs.Laws.Pieces.{joined, Clear, AllClear}
use Rattle.definitions.proofs.Laws.Pieces.{split_clear, split_joined, clear_append, name_clear, decimal_clear}
use Rattle.definitions.specs.Laws.Rows.{Plain, PlainRow, PlainRows, Row, field, no_field, no_row, plain_row, rows_text}

tabs_clear : {r : Row} → PlainRow r → AllClear TAB r
tabs_clear no_field = tt
tabs_clear (field h k) = (h.no_tab, tabs_clear k)

behind_clear : {r : Row} → PlainRow r → Clear LF (behind_each TAB r)
unfolding behind_each
behind_clear no_field = tt
behind_clear (field {f} {r} h k) = (refl, clear_append LF f (behind_each TAB r) h.no_feed (behind_clear k))

row_clear : {r : Row} → PlainRow r → Clear LF (joined TAB r)
unfolding joined
row_clear no_field = tt
row_clear (field {f} {r} h k) = clear_append LF f (behind_each TAB r) h.no_feed (behind_clear k)

rows_back : {l : List Row} → PlainRows l → map (split TAB) (split LF (rows_text l)) ≡ l ++ (([] ∷ []) ∷ [])
unfolding rows_text split joined
rows_back no_row = refl
rows_back (plain_row {f} {r} {l} h k) =
    ap (map (split TAB)) (split_clear LF (f ++ behind_each TAB r) (rows_text l) (row_clear h)) ∙ ap₂ (◌∷◌) (split_joined TAB f r (tabs_clear h)) (rows_back k)

pub rows_told : {a b : List Row} → PlainRows a → PlainRows b → rows_text a ≡ rows_text b → a ≡ b
rows_told {a} {b} h k e =
    append_cancel_right a b (([] ∷ []) ∷ []) (sym (rows_back h) ∙ ap (λ s. map (split TAB) (split LF s)) e ∙ rows_back k)

-- keywords, numbers and names are plain
pub plain_word : (s : Bytes) → every (λ b. ltb LF b) s ≡ true → Plain s
unfolding every
plain_word [] e = record { no_tab = tt; no_feed = tt }
plain_word (b ∷ s) e =
    let above = ltb-true LF b (and_true_left (ltb LF b) (every (λ b. ltb LF b) s) e) in
    let rest = plain_word s (and_true_right (ltb LF b) (every (λ b. ltb LF b) s) e) in
    record { no_tab = (ne_eqb b TAB (omega arith), rest.no_tab); no_feed = (ne_eqb b LF (omega arith), rest.no_feed) }

pub plain_number : (n : ℕ) → Plain (decimal n)
plain_number n = record { no_tab = decimal_clear TAB (omega arith) n; no_feed = decimal_clear LF (omega arith) n }

pub name_plain : (L : Limits) (m : Manner) (s : Bytes) → is_name L m s ≡ true → Plain s
name_plain L m s e = record { no_tab = name_clear TAB (omega arith) L m s e; no_feed = name_clear LF (omega arith) L m s e }
