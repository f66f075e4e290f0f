-- The text of a source that stands for clauses is the listing of these clauses; so measuring and writing that text is what
-- `Lists` asks for.
use mathlib.Core.Path.{◌≡◌, refl, sym, ap, ◌∙◌}
use mathlib.Core.List.{List, [], ◌∷◌, ◌++◌, map, append_assoc}
use Prim.Native.Nat.{ℕ, suc, ◌+◌, ◌%◌, ◌≤◌, ◌<◌}
use native.Mathlib.Omega.{arith}
use borrow.Author.Tests.{le-leb, lt-leb}
use lib.ListN.{length, get_or, length-map}
use Rattle.definitions.specs.Bytes.{Bytes, LF}
use Rattle.definitions.specs.RuleText.{written}
use Rattle.definitions.specs.Order.{Atom, Literal, pos, opp, Clause}
use Rattle.definitions.specs.Clauses.{atom_formula, literal_word, literal_atom, literals_text, clause_word, counted_line, clauses_text, listing}
use Rattle.text.specs.Words.{tokens}
use Rattle.std.specs.Prelude.{Option, Some, None}
use Rattle.writer.specs.Writer.{text_of, Measured, Wrote}
use Rattle.writer.specs.WriterLaws.{text_of_code}
use Rattle.writer.specs.MeasureLaws.{not_written, all_written}
use Rattle.clauses.specs.Each.{Each, none, more, At, first, later}
use Rattle.clauses.specs.Ranks.{part}
use Rattle.clauses.specs.Sets.{Numbered, positive, negative, Spelled}
use Rattle.listing.specs.declared.source.Source.{Source}
use Rattle.listing.specs.Texts.{each_text, literal_text, clause_text, stored_text, set_text, set_in}
use Rattle.listing.specs.Lists.{Stands, Lists}

same_length : {A B : Type 0} {R : A → B → Type 0} {l : List A} {m : List B} → Each R l m → length l ≡ length m
same_length none = refl
same_length (more p e) = ap suc (same_length e)

-- a place of the second list is one of the first
here : {B : Type 0} {R : ℕ → B → Type 0} {l : List ℕ} {m : List B} {n : ℕ} {a : B} → Each R l m → At m n a → (n < length l) × R (get_or l n 0) a
here {B = B} {R = R} {n = n} {a = a} none k = elim k [ ]
here (more p e) first = (omega arith, p)
here (more p e) (later k) = let h = here e k in (omega (arith, h.0), h.1)

place_below : {A : Type 0} {m : List A} {n : ℕ} {a : A} → At m n a → n < length m
place_below first = omega arith
place_below (later k) = omega (arith, place_below k)

module _ (T M : Bytes) (S store table : List ℕ) (atoms : List Atom) (few : length atoms ≤ 1024) (spelled : Each (Spelled T M S) table atoms) where
  atom_text : (n : ℕ) (a : Atom) → At atoms n a → text_of (tokens T M (part S (get_or table n 0))) ≡ written (atom_formula a)
  atom_text n a k =
      ap text_of (here spelled k).1 ∙ text_of_code (atom_formula a)

  positive_same : (n : ℕ) (a : Atom) → At atoms n a → literal_text T M S table n ≡ literal_word (pos a) ++ (LF ∷ written (atom_formula a))
  unfolding literal_text
  positive_same n a k =
      let small : n < 1024 = omega (arith, place_below k, few) in
      let e : n % 1024 ≡ n = omega arith in
      rw (lt-leb 1024 n small, e) (ap (λ (s : Bytes). literal_word (pos a) ++ (LF ∷ s)) (atom_text n a k))

  negative_same : (n : ℕ) (a : Atom) → At atoms n a → literal_text T M S table (1024 + n) ≡ literal_word (opp a) ++ (LF ∷ written (atom_formula a))
  unfolding literal_text
  negative_same n a k =
      let large : 1024 ≤ 1024 + n = omega arith in
      let e : (1024 + n) % 1024 ≡ n = omega (arith, place_below k, few) in
      rw (le-leb 1024 (1024 + n) large, e) (ap (λ (s : Bytes). literal_word (opp a) ++ (LF ∷ s)) (atom_text n a k))

  literal_same : {x : ℕ} {l : Literal} → Numbered atoms x l → literal_text T M S table x ≡ literal_word l ++ (LF ∷ written (literal_atom l))
  literal_same (positive {n} {a} k) = positive_same n a k
  literal_same (negative {n} {a} k) = negative_same n a k

  literals_same : {c : List ℕ} {ls : Clause} → Each (Numbered atoms) c ls → each_text (literal_text T M S table) c ≡ literals_text ls
  unfolding each_text literals_text
  literals_same none = refl
  literals_same (more {a = l} {m = ls} p e) =
      rw (literal_same p, literals_same e) (append_assoc (literal_word l) (LF ∷ written (literal_atom l)) (literals_text ls))

  clause_same : {c : List ℕ} {ls : Clause} → Each (Numbered atoms) c ls
      → clause_text T M S table c ≡ counted_line clause_word (length ls) ++ literals_text ls
  unfolding clause_text
  clause_same e = rw (same_length e, literals_same e)

  clauses_same : (index : List ℕ) {cs : List Clause} → Each (Each (Numbered atoms)) (map (part store) index) cs
      → each_text (stored_text T M S table store) index ≡ clauses_text cs
  unfolding each_text clauses_text
  clauses_same [] none = refl
  clauses_same (w ∷ index) (more {a = ls} {m = cs} p e) =
      rw (clause_same p, clauses_same index e)
      (append_assoc (counted_line clause_word (length ls)) (literals_text ls) (clauses_text cs))

  set_same : (index : List ℕ) {cs : List Clause} → Each (Each (Numbered atoms)) (map (part store) index) cs → set_text T M S table store index ≡ listing cs
  unfolding set_text listing
  set_same index e = rw (sym (length-map index (part store)) ∙ same_length e, clauses_same index e)

pub listing_same : (s : Source) {cs : List Clause} → Stands s cs → set_in s ≡ listing cs
listing_same s d = set_same s.spellings.text.now s.spellings.made.now s.words.now s.literals.now s.atoms.now d.atoms d.few d.spelled s.index.now d.listed

module _ (s : Source) {o : Bytes} {r : Option ℕ} (m : Measured (set_in s) (length o) r) where
  pub not_listed : r ≡ None → Lists s o o None
  not_listed q = record { listed = λ cs d. not_written (rw (listing_same s d) at m) q; kept = λ z. refl }

  pub all_listed : {n k : ℕ} {o₁ : Bytes} → r ≡ Some n → Wrote o 0 (set_in s) o₁ k → Lists s o o₁ (Some n)
  all_listed {n} q w =
      record { listed = λ cs d. all_written (rw (listing_same s d) at m) q (rw (listing_same s d) at w); kept = λ z. absurd (never z) }
    where
      never : Some n ≡ None → ⊥
      never z = let y : ◌≡◌ {A = ℕ} 0 1 = cc in omega arith
