-- A run that is copied to the front of another.
use Rattle.std.specs.Prelude.{◌≡◌, List, length, take, drop}

-- O' is O with as much of S at its front as there is room for
pub record Copied {A : Type 0} (O S O' : List A) : Type 0 where
  pub size : length O' ≡ length O
  pub front : take (length S) O' ≡ take (length O) S
  pub back : drop (length S) O' ≡ drop (length S) O
