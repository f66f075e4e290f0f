-- `simplify::settle` meets its contract.
use Rattle.std.proofs.Common.{arith, refl}
use Rattle.text.specs.Words.{code}
use Rattle.definitions.specs.Syntax.{top, bot}
use Rattle.simplify.specs.Parts.{settled}
use Rattle.simplify.proofs.Moving.{becomes_itself, becomes_constant}
use Rattle.simplify.proofs.settle.Goals as goal

pub returns-in-Other : goal.returns-in-Other
unfolding settled
returns-in-Other c = rw c.in-Other.is (becomes_itself (omega arith) (omega arith) (omega arith) (λ f. refl) c.shift.ensures)

pub returns-in-Turned : goal.returns-in-Turned
unfolding settled
returns-in-Turned c = rw c.in-Turned.is c.turn.ensures

pub returns-in-Top : goal.returns-in-Top
unfolding settled code
returns-in-Top c =
    rw c.in-Top.is (becomes_constant (omega arith) (omega arith) (omega arith) 0 top refl (λ T M. refl) (λ T M f e. refl) c.put.ensures)

pub returns-in-Bottom : goal.returns-in-Bottom
unfolding settled code
returns-in-Bottom c =
    rw c.in-Bottom.is (becomes_constant (omega arith) (omega arith) (omega arith) 1 bot refl (λ T M. refl) (λ T M f e. refl) c.put-in-Bottom.ensures)
