use Rattle.std.proofs.Common.{refl, arith}
use Rattle.reader.specs.Levels.{due_of}
use Rattle.reader.proofs.Stack.new.Goals as goal

pub returns : goal.returns
unfolding due_of
returns c = (record { room = omega arith; some_left = λ h. omega arith }, refl)
