-- What is printed, in plain variables: lines are runs of bytes put one behind another, and a conversion's answer says what it has laid.
use mathlib.Core.Path.{◌≡◌, refl, sym, ◌∙◌, ap}
use mathlib.Core.Bool.{Bool, true, false, cond}
use mathlib.Core.List.{[], ◌∷◌, ◌++◌, append_assoc}
use Prim.Native.Nat.{ℕ, zero, suc, ◌+◌, ◌-◌, ◌/◌, ◌^◌, ◌≤◌, ◌<◌, min}
use native.Mathlib.Omega.{arith}
use borrow.Author.Tests.{leb-true, ltb-true, ltb-false, le-ltb, lt-ltb, eq-eqb, ne_eqb}
use lib.Dec.{leb, ltb}
use lib.ListN.{length, take, drop, length-append, length-take, length-drop, take-append-drop}
use lib.Seq.{take_at, drop_at, drop-append-le, drop-drop}
use native.Mathlib.Nat.{zero-add}
use Rattle.definitions.specs.Bytes.{Bytes, TAB, LF, decimal}
use Rattle.definitions.specs.Limits.{house, lent, published}
use Rattle.definitions.specs.Convert.{Conversion, to_simplified, to_nnf, to_pnf, to_snf, to_cnf, to_dnf, pnf_to_snf, snf_to_cnf, snf_to_dnf, Result, given, refused as not_made, Answer, accepted, not_given, fitted, laid, answer, out_after, work_after, convert}
use Rattle.definitions.specs.Program.{conversion_word, done_word, field_line, question, refused_word, refusal, printed}
use Rattle.definitions.proofs.Laws.Bools.{by_cases}
use Rattle.writer.specs.Writer.{Wrote, Puts}
use Rattle.writer.specs.PutLaws.{wrote_none, wrote_both, wrote_is}
use Rattle.writer.specs.DigitLaws.{decimal_one, length_more}
use mathlib.Core.Logic.{◌⊎◌, inl, inr}
use Rattle.convert.specs.declared.Conversion.{Conversion as Named}
use Rattle.stream.specs.declared.machine.State.{State}
use Rattle.stream.specs.declared.machine.State.TheVariants.{First, Refused, Label, Skipped, Poised}
use Rattle.stream.specs.declared.machine.Early.{Early}
use Rattle.stream.specs.declared.machine.Early.TheVariants as early
use Rattle.stream.specs.Machine.{at, due_print, last_print, rule_tab, Print, no_print, refusal_print, done_print, rule_print, result_bytes, name_kept}
use Rattle.stream.specs.Machine.{text_kept, longest_label, print_bytes, print_work, last_second, last_early}
use Rattle.std.specs.Prelude.{Result as Fallible, Ok, Err}
use Rattle.convert.specs.declared.Refusal.{Refusal}
use Rattle.convert.specs.declared.Refusal.TheVariants as refusals
use Rattle.convert.specs.Answers.{refused, number_of, place_of, Meets}
use Rattle.stream.specs.Pushing.{Put, Prints, print_room}

-- a number of 64 bits has at most 20 digits
decimal_short : (k n : ℕ) → n < 10 ^ suc k → length (decimal n) ≤ suc k
decimal_short zero n h = rw (decimal_one n (omega arith)) (omega arith)
decimal_short (suc k) n h =
    by_cases (ltb n 10)
    (λ t. rw (decimal_one n (ltb-true n 10 t)) (omega arith))
    (λ f. omega (arith, length_more n (ltb-false n 10 f), decimal_short k (n / 10) (omega arith)))

twenty : (n : ℕ) → n < 2 ^ 64 → length (decimal n) ≤ 20
twenty n h = decimal_short 19 n (omega arith)

module _ {o₀ o₁ o₂ o₃ : Bytes} where
  pub line_put : {w f : Bytes} {start behind end r : ℕ} → start + (length w + length f) < length o₀
      → Puts o₀ start w o₁ behind → Puts o₁ behind f o₂ end → Puts o₂ end (LF ∷ []) o₃ r → Wrote o₀ start (w ++ (f ++ (LF ∷ []))) o₃ r
  line_put {w} {f} h a b c =
      let p = a.room (omega arith) in
      let q = b.room (omega (arith, p.ends, p.size)) in
      wrote_both p (wrote_both q (c.room (omega (arith, p.ends, p.size, q.ends, q.size))))

  pub refusal_put : {o₄ o₅ : Bytes} {start first second third fourth r number place : ℕ} → start + 50 ≤ length o₀ → number < 2 ^ 64 → place < 2 ^ 64
      → Puts o₀ start (refused_word ++ (TAB ∷ [])) o₁ first → Puts o₁ first (decimal number) o₂ second → Puts o₂ second (TAB ∷ []) o₃ third
      → Puts o₃ third (decimal place) o₄ fourth → Puts o₄ fourth (LF ∷ []) o₅ r → Wrote o₀ start (refusal number place) o₅ r
  refusal_put {number = number} {place} h n₁ n₂ a b c d e =
      let s = twenty number n₁ in
      let t = twenty place n₂ in
      let p = a.room (omega arith) in
      let q = b.room (omega (arith, p.ends, p.size)) in
      let u = c.room (omega (arith, p.ends, p.size, q.ends, q.size)) in
      let v = d.room (omega (arith, p.ends, p.size, q.ends, q.size, u.ends, u.size)) in
      let w = e.room (omega (arith, p.ends, p.size, q.ends, q.size, u.ends, u.size, v.ends, v.size)) in
      wrote_both p (wrote_both q (wrote_both u (wrote_both v w)))

pub word_short : (c : Conversion) → length (conversion_word c) ≤ 8
word_short to_simplified = omega arith
word_short to_nnf = omega arith
word_short to_pnf = omega arith
word_short to_snf = omega arith
word_short to_cnf = omega arith
word_short to_dnf = omega arith
word_short pnf_to_snf = omega arith
word_short snf_to_cnf = omega arith
word_short snf_to_dnf = omega arith

-- a refusal is its number and its place
refused_told : (e : Refusal) → refused e ≡ not_given (number_of (refused e)) (place_of (refused e))
refused_told refusals.Room = refl
refused_told (refusals.Malformed k) = refl
refused_told (refusals.Large k) = refl
refused_told refusals.Shape = refl
refused_told refusals.Hash = refl
refused_told (refusals.Name k) = refl
refused_told (refusals.Weight k) = refl
refused_told refusals.Clauses = refl
refused_told refusals.Work = refl

-- A conversion's answer: a text that was laid, or a refusal, with nothing laid.
record Given (s part y : Bytes) (n : ℕ) : Type 0 where
  size : n ≡ length s
  fits : length s ≤ length part
  laid_is : y ≡ s ++ drop (length s) part

record NotGiven (s part y : Bytes) (n p : ℕ) : Type 0 where
  text : s ≡ refusal n p
  laid_is : y ≡ part

given_is : (b : Bool) (R : Result) (part y : Bytes) (n : ℕ) → length part ≡ lent → accepted n ≡ cond b (not_given 9 0) (fitted R (length part)) → y ≡ cond b part (laid R part)
    → Given (cond b (refusal 9 0) (printed R)) part y n
given_is true R part y n l e h = let z : ◌≡◌ {A = ℕ} 0 1 = cc in absurd (omega arith)
given_is false (not_made m p) part y n l e h = let z : ◌≡◌ {A = ℕ} 0 1 = cc in absurd (omega arith)
given_is false (given s) part y n l e h =
    by_cases (leb (length s) (length part))
    (λ t. rw (← l, t) (record { size = same_size (rw t at e); fits = leb-true (length s) (length part) t; laid_is = rw t at h }))
    (λ f. absurd (never (rw f at e)))
  where
    same_size : accepted n ≡ accepted (length s) → n ≡ length s
    same_size p = cc

    never : accepted n ≡ not_given 1 0 → ⊥
    never p = let z : ◌≡◌ {A = ℕ} 0 1 = cc in omega arith

not_given_is : (b : Bool) (R : Result) (part y : Bytes) (n p : ℕ) → length part ≡ lent → not_given n p ≡ cond b (not_given 9 0) (fitted R (length part)) → y ≡ cond b part (laid R part)
    → NotGiven (cond b (refusal 9 0) (printed R)) part y n p
not_given_is true R part y n p l e h =
    let a : n ≡ 9 = cc in
    let c : p ≡ 0 = cc in
    record { text = rw (a, c); laid_is = h }
not_given_is false (not_made m q) part y n p l e h =
    let a : n ≡ m = cc in
    let c : p ≡ q = cc in
    record { text = rw (a, c); laid_is = h }
not_given_is false (given s) part y n p l e h =
    by_cases (leb (length s) (length part))
    (λ t. absurd (never (rw t at e)))
    (λ f. rw (← l, f) (record { text = same_refusal (rw f at e); laid_is = rw f at h }))
  where
    never : not_given n p ≡ accepted (length s) → ⊥
    never q = let z : ◌≡◌ {A = ℕ} 0 1 = cc in omega arith

    same_refusal : not_given n p ≡ not_given 1 0 → refusal 1 0 ≡ refusal n p
    same_refusal q =
        let a : n ≡ 1 = cc in
        let c : p ≡ 0 = cc in
        rw (a, c)

-- A part of out lies between what is before and behind it; a text that is laid at its front is written to out.
module _ (o part : Bytes) (start k : ℕ) (inside : start + lent ≤ length o) (all : k ≡ lent) (part-is : part ≡ take k (drop start o)) where
  part_length : length part ≡ lent
  part_length = rw part-is (omega (arith, length-take k (drop start o), length-drop start o))

  whole : part ++ drop k (drop start o) ≡ drop start o
  whole = rw part-is (take-append-drop k (drop start o))

  laid_wrote : (s : Bytes) → length s ≤ lent → Wrote o start s (take start o ++ ((s ++ drop (length s) part) ++ drop k (drop start o))) (start + length s)
  laid_wrote s h =
      let rest = drop k (drop start o) in
      let before : length (take start o ++ s) ≡ start + length s = omega (arith, length-append (take start o) s, length-take start o) in
      let shape : take start o ++ ((s ++ drop (length s) part) ++ rest) ≡ (take start o ++ s) ++ (drop (length s) part ++ rest) =
      rw (append_assoc s (drop (length s) part) rest) (sym (append_assoc (take start o) s (drop (length s) part ++ rest))) in
      let behind : drop (length s) part ++ rest ≡ drop (start + length s) o =
      sym (drop-append-le (length s) part rest (omega (arith, part_length))) ∙ ap (drop (length s)) whole ∙ drop-drop (length s) start o in
      rw (shape, behind) (record {
        ends = refl;
        front = take_at (take start o ++ s) (drop (start + length s) o) (start + length s) before;
        back = drop_at (take start o ++ s) (drop (start + length s) o) (start + length s) before;
        size = omega (arith, length-append (take start o ++ s) (drop (start + length s) o), before, length-drop (start + length s) o);
      })

  pub part_back : (y : Bytes) → length y ≡ length part → length (take start o ++ (y ++ drop k (drop start o))) ≡ length o
  part_back y e =
      omega (arith, length-append (take start o) (y ++ drop k (drop start o)), length-append y (drop k (drop start o)), length-take start o, length-drop k (drop start o), length-drop start o, part_length)

  -- a conversion that was lent the part: what it has answered and laid
  module _ {y text w w' : Bytes} {answer : Fallible ℕ Refusal} {c : Conversion} (m : Meets c text part w answer y w') where
    shown : {n : ℕ} → answer ≡ Ok n → Given (result_bytes c text (length w)) part y n
    unfolding Rattle.definitions.specs.Convert.answer out_after
    shown {n} i = given_is (ltb (length w) (published house)) (convert house c text) part y n part_length (rw i at m.answers) m.lays

    not_shown : {e : Refusal} → answer ≡ Err e → NotGiven (result_bytes c text (length w)) part y (number_of (refused e)) (place_of (refused e))
    unfolding Rattle.definitions.specs.Convert.answer out_after
    not_shown {e} i =
        not_given_is (ltb (length w) (published house)) (convert house c text) part y (number_of (refused e)) (place_of (refused e)) part_length
        (sym (refused_told e) ∙ rw i at m.answers) m.lays

    pub given_short : {n : ℕ} → answer ≡ Ok n → n ≤ lent
    given_short i = let s = shown i in omega (arith, s.size, s.fits, part_length)

    pub result_given : {n : ℕ} → answer ≡ Ok n → Wrote o start (result_bytes c text (length w)) (take start o ++ (y ++ drop k (drop start o))) (start + n)
    result_given i =
        let s = shown i in
        rw (s.laid_is, s.size) (laid_wrote (result_bytes c text (length w)) (omega (arith, s.fits, part_length)))

    pub result_refused : {e : Refusal} {r n p : ℕ} {o₂ : Bytes} → answer ≡ Err e → n ≡ number_of (refused e) → p ≡ place_of (refused e)
        → Wrote (take start o ++ (y ++ drop k (drop start o))) start (refusal n p) o₂ r → Wrote o start (result_bytes c text (length w)) o₂ r
    result_refused i a b h =
        let s = not_shown i in
        let same : take start o ++ (y ++ drop k (drop start o)) ≡ o = rw (s.laid_is, whole) (take-append-drop start o) in
        rw s.text (rw (same, a, b) at h)

-- Prints.
module _ {name : Bytes} {m : ℕ} (kept : Bytes) (label : ℕ) (least : m ≡ min label longest_label) (name_is : name ≡ take m (drop 0 kept)) where
  pub name_fits : length name ≤ longest_label
  name_fits = rw name_is (omega (arith, length-take m kept))

  pub line_fits : {o o₁ : Bytes} {start : ℕ} → print_room ≤ length o → Wrote o 0 (rule_tab ++ (name ++ (LF ∷ []))) o₁ start → start + lent ≤ length o₁
  line_fits h p = omega (arith, p.ends, p.size, length-append name (LF ∷ []), name_fits)

  pub rule_good : {o o₁ o₂ w w' text : Bytes} {c : Conversion} {start r n : ℕ} (end : ℕ) → n ≡ end - label → text ≡ take n (drop label kept)
      → Wrote o 0 (rule_tab ++ (name ++ (LF ∷ []))) o₁ start → Wrote o₁ start (result_bytes c text (length w)) o₂ r → w' ≡ work_after house w
      → Put (rule_print c true (name_kept kept label) (text_kept kept label end)) o w r o₂ w'
  unfolding print_bytes print_work
  rule_good end size text-is p q e =
      let n : name_kept kept label ≡ _ = ap (λ k. take k kept) (sym least) ∙ sym name_is in
      let t : text_kept kept label end ≡ _ = ap (λ k. take k (drop label kept)) (sym size) ∙ sym text-is in
      record { wrote_is = rw (n, t) (wrote_both p q); work_is = e }

pub rule_bad : {o o₁ o₂ : Bytes} {start r : ℕ} (c : Conversion) (name text w : Bytes) → Wrote o 0 (rule_tab ++ (question ++ (LF ∷ []))) o₁ start
    → Wrote o₁ start (refusal 2 0) o₂ r → Put (rule_print c false name text) o w r o₂ w
unfolding print_bytes print_work
rule_bad c name text w p q = record { wrote_is = wrote_both p q; work_is = refl }

pub done_put : {o o₁ w : Bytes} {r : ℕ} (c : Conversion) → Wrote o 0 (field_line done_word (conversion_word c)) o₁ r → Put (done_print c) o w r o₁ w
unfolding print_bytes print_work
done_put c p = record { wrote_is = p; work_is = refl }

pub refused_put : {o o₁ w : Bytes} {r : ℕ} → Wrote o 0 (refusal 2 0) o₁ r → Put refusal_print o w r o₁ w
unfolding print_bytes print_work
refused_put p = record { wrote_is = p; work_is = refl }

pub nothing_put : (o w : Bytes) → Put no_print o w 0 o w
unfolding print_bytes print_work
nothing_put o w = record { wrote_is = wrote_none o 0; work_is = refl }

pub prints_put : {p : Print} {o w o' w' : Bytes} {r : ℕ} → print_room ≤ length o → Put p o w r o' w' → Prints p o w r o' w'
prints_put {p} {o} {w} {o'} {w'} {r} h q =
    let roomy = le-ltb (length o) print_room h in
    record {
      wrote_is = rw roomy (q.wrote_is.ends ∙ zero-add (length (print_bytes p (length w))));
      out_is = rw roomy (wrote_is q.wrote_is ∙ rw (zero-add (length (print_bytes p (length w)))));
      work_is = rw roomy q.work_is;
    }

pub prints_none : {p : Print} (o w : Bytes) → length o < print_room → Prints p o w 0 o w
prints_none o w h = let short = lt-ltb (length o) print_room h in record { wrote_is = rw short; out_is = rw short; work_is = rw short }

pub prints_nothing : (o w : Bytes) → Prints no_print o w 0 o w
prints_nothing o w =
    by_cases (ltb (length o) print_room)
    (λ t. prints_none o w (ltb-true (length o) print_room t))
    (λ f. prints_put (ltb-false (length o) print_room f) (nothing_put o w))

pub second_done : {o o₁ w : Bytes} {r : ℕ} (c : Conversion) (k : ℕ) → k ≡ 0 → Wrote o 0 (field_line done_word (conversion_word c)) o₁ r → Put (last_second c k) o w r o₁ w
second_done c k e p = rw (eq-eqb k 0 e) (done_put c p)

pub second_refused : {o o₁ w : Bytes} {r : ℕ} (c : Conversion) (k : ℕ) → (k ≡ 0 → ⊥) → Wrote o 0 (refusal 2 0) o₁ r → Put (last_second c k) o w r o₁ w
second_refused c k e p = rw (ne_eqb k 0 e) (refused_put p)

pub early_refused : {o o₁ : Bytes} {r : ℕ} (c : Conversion) (before : Early) (w : Bytes) → ((n : ℕ) × (before ≡ early.First n)) ⊎ (before ≡ early.Refused)
    → Wrote o 0 (refusal 2 0) o₁ r → Put (last_early c before) o w r o₁ w
early_refused c before w (inl h) p = rw h.1 (refused_put p)
early_refused c before w (inr h) p = rw h (refused_put p)

-- What the states print that print nothing of a rule.
pub nothing_due : (s : State) (kept o w : Bytes)
    → ((n : ℕ) × (s ≡ First n)) ⊎ ((s ≡ Refused) ⊎ (((c : Named) × (n : ℕ) × (s ≡ Label c n)) ⊎ ((c : Named) × (before : Early) × (s ≡ Poised c before))))
    → Prints (due_print (at s kept)) o w 0 o w
unfolding due_print
nothing_due s kept o w (inl h) = rw h.1 (prints_nothing o w)
nothing_due s kept o w (inr (inl h)) = rw h (prints_nothing o w)
nothing_due s kept o w (inr (inr (inl h))) = rw h.2 (prints_nothing o w)
nothing_due s kept o w (inr (inr (inr h))) = rw h.2 (prints_nothing o w)

pub unnamed_last : {o o' w : Bytes} {r : ℕ} (s : State) (kept : Bytes) → print_room ≤ length o → ((c : Conversion) (name text w : Bytes) → Put (rule_print c false name text) o w r o' w)
    → ((c : Named) × (n : ℕ) × (s ≡ Label c n)) ⊎ ((c : Named) × (k : ℕ) × (s ≡ Skipped c k)) → Prints (last_print (at s kept)) o w r o' w
unfolding last_print
unnamed_last s kept h p (inl (c, n, e)) = rw e (prints_put h (p _ _ _ _))
unnamed_last s kept h p (inr (c, k, e)) = rw e (prints_put h (p _ _ _ _))

pub refused_last : {o o' w : Bytes} {r : ℕ} (s : State) (kept : Bytes) → print_room ≤ length o → Wrote o 0 (refusal 2 0) o' r → ((n : ℕ) × (s ≡ First n)) ⊎ (s ≡ Refused)
    → Prints (last_print (at s kept)) o w r o' w
unfolding last_print
refused_last s kept h p (inl (n, e)) = rw e (prints_put h (refused_put p))
refused_last s kept h p (inr e) = rw e (prints_put h (refused_put p))
