-- The domain 0 .. n, of any size from 1 on: the laws speak of all of these.
use Rattle.std.specs.Prelude.{◌≡◌, true, ℕ, ltb}

abbrev pub Below : ℕ → Type 0
Below n = (i : ℕ) × (ltb i n ≡ true)
