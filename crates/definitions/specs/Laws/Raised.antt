-- Demand 3, last sentence: raised limits, or a longer out buffer, never turn a form that was given into anything else.
use Rattle.std.specs.Prelude.{◌≡◌, ℕ, ◌≤◌, length}
use Rattle.definitions.specs.Bytes.{Bytes}
use Rattle.definitions.specs.Limits.{Limits}
use Rattle.definitions.specs.Convert.{Conversion, convert, given}

-- An accepted call: the form was given, and fitted.
pub record Accepted (L : Limits) (c : Conversion) (text : Bytes) (room n : ℕ) : Type 0 where
  pub bytes : Bytes
  pub was_given : convert L c text ≡ given bytes
  pub size : length bytes ≡ n
  pub fits : n ≤ room
