-- The places of refusals: a text without a line is refused at line 1; a place is a line of the text, counted from 1, where what follows
-- the last LF counts as one; and a refusal stays the same whatever stands behind its line.
use Rattle.std.specs.Prelude.{ℕ, ◌≤◌}
use Rattle.definitions.specs.Reading.{Reading, tree, malformed, large}

-- the place is at least a and at most z
abbrev pub Placed : ℕ → ℕ → Reading → Type 0
Placed a z (tree f) = Unit {0}
Placed a z (malformed k) = (a ≤ k) × (k ≤ z)
Placed a z (large k) = (a ≤ k) × (k ≤ z)

-- it is refused, at one of the lines up to the z-th
abbrev pub RefusedBy : ℕ → Reading → Type 0
RefusedBy z (tree f) = ⊥
RefusedBy z (malformed k) = k ≤ z
RefusedBy z (large k) = k ≤ z
