-- The code's counters as the counts of the definitions.
use Rattle.std.specs.Prelude.{cond, ℕ, ◌+◌, ltb}
use Rattle.definitions.specs.Skolem.{Counts}
use Rattle.skolem.specs.declared.counters.Counters.{Counters}

-- the last number that a name is made of
abbrev pub last_number : ℕ
last_number = 65535

abbrev pub above : ℕ → ℕ
above n = cond (ltb last_number n) n (n + 1)

abbrev pub counts_of : Counters → Counts
counts_of k = record { constant = k.constants; function = k.functions }
