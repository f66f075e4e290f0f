-- Looking for a name among words.
use Rattle.std.specs.Prelude.{◌≡◌, refl, ◌||◌, List, [], ◌∷◌, ℕ}
use Rattle.std.specs.List.{list_any}
use Rattle.std.proofs.Common.{ap}
use Rattle.definitions.specs.Bytes.{Bytes, same}
use Rattle.definitions.specs.Names.{mem}
use Rattle.text.specs.Words.{spell}
use Rattle.substitution.specs.Runs.{spells}

pub found : (T M : Bytes) (word : ℕ) (ws : List ℕ) → list_any (λ w. same (spell T M word) (spell T M w)) ws ≡ mem (spell T M word) (spells T M ws)
unfolding mem
found T M word [] = refl
found T M word (w ∷ ws) = ap (same (spell T M word) (spell T M w) ||◌) (found T M word ws)
