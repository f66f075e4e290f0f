-- What the test of a lent array's length tells.
use Rattle.std.specs.Prelude.{◌≡◌, Bool, true, false, not, List, ℕ, eqb, length}
use Rattle.std.proofs.Common.{sym, ◌∙◌, eqb-true}
use Rattle.std.proofs.lemmas.Bool.{eqb-false}
use Rattle.definitions.specs.Limits.{house}
use Rattle.definitions.proofs.Laws.Bools.{not_flip}

pub is_whole : (S : List ℕ) {b : Bool} → b ≡ eqb (length S) house.weight → not b ≡ false → length S ≡ house.weight
is_whole S {b = b} e h = eqb-true (length S) house.weight (sym e ∙ not_flip b false h)

pub never_short : {A : Type 0} (S : List ℕ) {b : Bool} → b ≡ eqb (length S) house.weight → not b ≡ true → length S ≡ house.weight → A
never_short S {b = b} e h l = absurd (eqb-false (length S) house.weight (sym e ∙ not_flip b true h) l)
