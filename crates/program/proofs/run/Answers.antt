-- What the pieces have written, and then what is printed last.
use Rattle.std.proofs.Common.{arith, length-take}
use Rattle.std.proofs.lemmas.Result.{on_ok_weaker}
use Rattle.stream.specs.Laws.Moving.{prints_within, prints_told}
use Rattle.program.proofs.Writing.{written_all}
use Rattle.program.proofs.run.Goals as goal

pub slice_bounds-out-end : goal.slice_bounds-out-end
slice_bounds-out-end g c = prints_within c.finish-wrote.ensures c.finish-wrote.auto.out

pub slice_bounds-write_all-end : goal.slice_bounds-write_all-end
slice_bounds-write_all-end g c =
    omega (arith, length-take c.finish-wrote.result c.finish-wrote.new.out, prints_within c.finish-wrote.ensures c.finish-wrote.auto.out)

pub returns : goal.returns
returns g c =
    on_ok_weaker c.write_all.result
    (λ a input l h. written_all _ (c.in_ok-state.ensures input l h (omega arith) (omega arith) (omega arith)) (rw (prints_told c.finish-wrote.ensures (omega arith) (omega arith)) at a))
    c.write_all.ensures.bytes
