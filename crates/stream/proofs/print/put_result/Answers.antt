-- The conversion lays its result in the part of out that it is lent, or lays nothing, and then the refusal is written there.
use native.Mathlib.Omega.{arith}
use mathlib.Core.Path.{refl}
use Prim.Native.Nat.{◌+◌, ◌-◌}
use Rattle.stream.proofs.PrintLaws.{part_back, given_short, result_given, result_refused}
use Rattle.stream.proofs.print.put_result.Goals as goal

pub overflow_add-result : goal.overflow_add-result
overflow_add-result c =
    let a = c.args in omega (arith, c.requires, given_short a.out.now _ a.start (a.start + 65536 - a.start) c.requires (omega arith) refl c.convert.ensures c.in-Ok.is)

pub returns-in-Ok : goal.returns-in-Ok
returns-in-Ok c =
    (let a = c.args in result_given a.out.now _ a.start (a.start + 65536 - a.start) c.requires (omega arith) refl c.convert.ensures c.in-Ok.is, c.convert.ensures.clears)

pub put_refusal-requires : goal.put_refusal-requires
put_refusal-requires c =
    let a = c.args in let l = part_back a.out.now _ a.start (a.start + 65536 - a.start) c.requires (omega arith) refl c.convert.new.out c.convert.auto.out in omega (arith, l, c.requires)

pub returns-in-Err : goal.returns-in-Err
returns-in-Err c =
    (let a = c.args in result_refused a.out.now _ a.start (a.start + 65536 - a.start) c.requires (omega arith) refl c.convert.ensures c.in-Err.is c.number.ensures c.place.ensures c.put_refusal.ensures, c.convert.ensures.clears)
