-- The first line of a file, in plain variables.
use mathlib.Core.Path.{◌≡◌, refl, sym, ◌∙◌, ap}
use mathlib.Core.Bool.{Bool, true, false}
use mathlib.Core.List.{List, [], ◌∷◌, ◌++◌}
use Prim.Native.Nat.{ℕ, suc, ◌+◌, ◌-◌, ◌<◌}
use native.Mathlib.Omega.{arith}
use lib.Dec.{eqb}
use Rattle.std.specs.List.{starts_with}
use Rattle.std.proofs.lemmas.Bool.Decides.{Decides-eqb}
use Rattle.std.proofs.lemmas.Slice.Eq.{starts_is}
use native.Mathlib.Numerals.{add-one}
use Rattle.std.proofs.lemmas.Slice.{between_to_end}
use lib.ListN.{length, take, drop, get_or, get_or-map}
use lib.Seq.{drop-cons}
use Rattle.std.proofs.Math.Option.{none, some}
use Rattle.definitions.specs.Bytes.{Bytes, LF, TAB, same}
use Rattle.definitions.specs.Convert.{to_simplified}
use Rattle.definitions.specs.Program.{do_word, conversion_word, conversions, conversion_of}
use Rattle.convert.specs.declared.Conversion.{Conversion as Named}
use Rattle.convert.specs.declared.Conversion.TheVariants.{Simplify, Nnf, Pnf, Snf, Cnf, Dnf, PnfSnf, SnfCnf, SnfDnf}
use Rattle.convert.specs.Answers.{named}
use Rattle.definitions.proofs.Laws.Bools.{same_truth, by_cases, clash}
use Rattle.definitions.proofs.Laws.Sets.{same_eq, same_refl}

-- A first line names a conversion just when it is so without its LF.
snoc_eq : (x y : Bytes) (a : ℕ) → x ++ (a ∷ []) ≡ y ++ (a ∷ []) → x ≡ y
snoc_eq [] [] a e = refl
snoc_eq [] (b ∷ []) a e = absurd (omega (arith, ap length e))
snoc_eq [] (b ∷ c ∷ y) a e = absurd (omega (arith, ap length e))
snoc_eq (b ∷ []) [] a e = absurd (omega (arith, ap length e))
snoc_eq (b ∷ c ∷ x) [] a e = absurd (omega (arith, ap length e))
snoc_eq (b ∷ x) (c ∷ y) a e =
    let p : b ≡ c = cc in
    let q : x ++ (a ∷ []) ≡ y ++ (a ∷ []) = cc in
    rw (p, snoc_eq x y a q)

same_snoc : (x y : Bytes) (a : ℕ) → same (x ++ (a ∷ [])) (y ++ (a ∷ [])) ≡ same x y
same_snoc x y a =
    same_truth (same (x ++ (a ∷ [])) (y ++ (a ∷ []))) (same x y)
    (λ t. rw (snoc_eq x y a (same_eq (x ++ (a ∷ [])) (y ++ (a ∷ [])) t)) (same_refl y))
    (λ t. rw (same_eq x y t) (same_refl (y ++ (a ∷ []))))

-- the conversion at a place, and those behind it
abbrev nine : List Named
nine = Simplify ∷ Nnf ∷ Pnf ∷ Snf ∷ Cnf ∷ Dnf ∷ PnfSnf ∷ SnfCnf ∷ SnfDnf ∷ []

module _ (line : Bytes) (place : ℕ) {r : Bool} (h : place < 9) (e : r ≡ same line (do_word ++ (TAB ∷ conversion_word (named (get_or nine place Simplify))))) where
  opens : drop place conversions ≡ named (get_or nine place Simplify) ∷ drop (suc place) conversions
  opens = rw (sym (get_or-map named nine place Simplify)) (drop-cons conversions place to_simplified h)

  pub named_here : r ≡ true → some (named (get_or nine place Simplify)) ≡ conversion_of (drop place conversions) (line ++ (LF ∷ []))
  unfolding conversion_of
  named_here t = sym (rw (opens, same_snoc line (do_word ++ (TAB ∷ conversion_word (named (get_or nine place Simplify)))) LF, sym e ∙ t))

  pub named_behind : r ≡ false → conversion_of (drop place conversions) (line ++ (LF ∷ [])) ≡ conversion_of (drop (place + 1) conversions) (line ++ (LF ∷ []))
  unfolding conversion_of
  named_behind f = rw (add-one place, opens, same_snoc line (do_word ++ (TAB ∷ conversion_word (named (get_or nine place Simplify)))) LF, sym e ∙ f)

pub named_none : (line : Bytes) → conversion_of [] line ≡ none
unfolding conversion_of
named_none line = refl

-- a line that begins with `do` TAB, and one that does not
module _ (line w : Bytes) {r : Bool} (e : r ≡ starts_with eqb line (do_word ++ (TAB ∷ []))) where
  pub after_do : {b : Bool} → r ≡ true → b ≡ same (take (length line - 3) (drop 3 line)) w → b ≡ same line (do_word ++ (TAB ∷ w))
  unfolding same
  after_do t h =
      let s : line ≡ do_word ++ (TAB ∷ drop 3 line) = (starts_is Decides-eqb line (do_word ++ (TAB ∷ [])) r e).0 t in
      h ∙ rw (between_to_end line 3 (length line) (omega arith)) (sym (ap (λ l. same l (do_word ++ (TAB ∷ w))) s))

  pub no_do : r ≡ false → r ≡ same line (do_word ++ (TAB ∷ w))
  no_do f =
      by_cases (same line (do_word ++ (TAB ∷ w)))
      (λ t. clash ((starts_is Decides-eqb line (do_word ++ (TAB ∷ [])) r e).1 w (same_eq line (do_word ++ (TAB ∷ w)) t)) f)
      (λ g. f ∙ sym g)
