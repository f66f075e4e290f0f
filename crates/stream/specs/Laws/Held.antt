-- What the kept buffer holds while a rule's text w goes by: the label, and behind it as much of w as there is room for. The room is
-- enough: what is converted is read as the whole text is.
use Rattle.std.specs.Prelude.{◌≡◌, [], ◌∷◌, ◌++◌, ℕ, suc, ◌+◌, ◌-◌, ◌≤◌, ◌<◌, min, ltb, length, take, drop, set}
use Rattle.std.proofs.Common.{sym, ◌∙◌, ap, arith, ltb-true, ltb-false, length-append, length-take, length-drop, length-set, take-append-drop, take_all, take-suc-set, take-take}
use Rattle.std.proofs.lemmas.List.{drop-set-add, take-set-le, take-append-le}
use Rattle.std.proofs.Math.Seq.{set_out, take-length}
use Rattle.definitions.specs.Bytes.{Bytes}
use Rattle.definitions.specs.Limits.{house}
use Rattle.definitions.specs.Reading.{read}
use Rattle.definitions.specs.Convert.{Conversion, convert, convert_reading}
use Rattle.definitions.proofs.Laws.Bools.{by_cases}
use Rattle.stream.specs.Machine.{grown, name_kept, text_kept, longest_label, room}
use Rattle.stream.specs.Laws.Enough.{enough, read_enough}

pub record Held (kept : Bytes) (label size : ℕ) (name w : Bytes) : Type 0 where
  pub roomy : room ≤ length kept
  pub short : label ≤ longest_label
  pub named : name_kept kept label ≡ name
  pub sized : size ≡ min (label + length w) (length kept)
  pub held : text_kept kept label size ≡ take (size - label) w

-- a text that begins: nothing is kept of it yet
pub held_first : (kept name : Bytes) (label : ℕ) → room ≤ length kept → label ≤ longest_label → take label kept ≡ name → Held kept label label name []
held_first kept name label r s e =
    let least : min label longest_label ≡ label = omega arith in
    let none : label - label ≡ 0 = omega arith in
    record { roomy = r; short = s; named = rw least e; sized = omega arith; held = rw none }

-- one more byte
pub held_byte : (kept : Bytes) (label size : ℕ) (name w : Bytes) (b : ℕ) → Held kept label size name w
    → Held (set kept size b) label (grown size kept) name (w ++ (b ∷ []))
held_byte kept label size name w b h =
    by_cases (ltb size (length kept)) (λ t. rw t (fits (ltb-true size (length kept) t))) (λ f. rw f (full (ltb-false size (length kept) f)))
  where
    longer : length (w ++ (b ∷ [])) ≡ suc (length w)
    longer = omega (arith, length-append w (b ∷ []))

    fits : size < length kept → Held (set kept size b) label (suc size) name (w ++ (b ∷ []))
    fits l =
        let at : size ≡ label + length w = omega (arith, h.sized) in
        let rest : suc size - label ≡ suc (length w) = omega arith in
        let here : size - label ≡ length w = omega arith in
        let place : length w < length (drop label kept) = omega (arith, length-drop label kept) in
        let old : take (length w) (drop label kept) ≡ w = rw here at h.held ∙ take-length w in
        record {
          roomy = omega (arith, length-set kept size b, h.roomy);
          short = h.short;
          named = take-set-le (min label longest_label) kept size b (omega arith) ∙ h.named;
          sized = omega (arith, length-set kept size b, longer);
          held = rw (rest, at, drop-set-add label kept (length w) b, take-suc-set (drop label kept) (length w) b place, old)
              (sym (take_all (suc (length w)) (w ++ (b ∷ [])) (omega (arith, longer))));
        }

    full : length kept ≤ size → Held (set kept size b) label size name (w ++ (b ∷ []))
    full l =
        rw (set_out kept size b l) (record {
          roomy = h.roomy;
          short = h.short;
          named = h.named;
          sized = omega (arith, h.sized, longer);
          held = h.held ∙ sym (take-append-le (size - label) w (b ∷ []) (omega (arith, h.sized)));
        })

-- the first n bytes are read as the whole is, where n is enough or is all
prefix_read : (v : Bytes) (n : ℕ) → (n < length v → enough ≤ n) → read house (take n v) ≡ read house v
prefix_read v n h =
    by_cases (ltb n (length v))
    (λ t. sym (ap (read house) (sym (take-append-drop n v)) ∙ read_enough (take n v) (drop n v) (long (ltb-true n (length v) t))))
    (λ f. ap (read house) (take_all n v (ltb-false n (length v) f)))
  where
    long : n < length v → enough ≤ length (take n v)
    long l = omega (arith, length-take n v, h l)

same_result : (c : Conversion) (x v : Bytes) → read house x ≡ read house v → convert house c x ≡ convert house c v
unfolding convert
same_result c x v e = ap (convert_reading house c) e

-- at the end of the input all of the text is converted
pub held_all : (kept : Bytes) (label size : ℕ) (name w : Bytes) (c : Conversion) → Held kept label size name w
    → convert house c (text_kept kept label size) ≡ convert house c w
held_all kept label size name w c h =
    same_result c (text_kept kept label size) w
    (ap (read house) h.held ∙ prefix_read w (size - label) (λ l. omega (arith, h.sized, h.roomy, h.short)))

-- before a rule line, all but the bytes of the line
pub held_but : (kept : Bytes) (label size : ℕ) (name v p : Bytes) (c : Conversion) → length p ≡ 4 → Held kept label size name (v ++ p)
    → convert house c (text_kept kept label (size - 4)) ≡ convert house c v
held_but kept label size name v p c e h =
    same_result c (text_kept kept label (size - 4)) v (ap (read house) part ∙ prefix_read v (size - 4 - label) (λ l. omega (arith, h.sized, h.roomy, h.short, both)))
  where
    both : length (v ++ p) ≡ length v + 4
    both = omega (arith, length-append v p)

    inside : size - 4 - label ≤ length v
    inside = omega (arith, h.sized, both)

    part : text_kept kept label (size - 4) ≡ take (size - 4 - label) v
    part =
        sym (take-take (size - 4 - label) (size - label) (drop label kept) (omega arith))
        ∙ ap (take (size - 4 - label)) h.held
        ∙ take-take (size - 4 - label) (size - label) (v ++ p) (omega arith)
        ∙ take-append-le (size - 4 - label) v p inside
