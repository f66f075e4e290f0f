-- A number has at most 20 digits.
use native.Mathlib.Omega.{arith}
use Rattle.listing.proofs.sizes.line.Goals as goal

pub overflow_add-size : goal.overflow_add-size
overflow_add-size c = omega arith

pub overflow_add-size-2 : goal.overflow_add-size-2
overflow_add-size-2 c = omega arith
