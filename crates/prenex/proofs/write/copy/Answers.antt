-- The loop keeps `Copying`: the words from `at` up to i stand behind the matrix.
use mathlib.Core.Path.{◌≡◌}
use Prim.Native.Nat.{◌+◌}
use native.Mathlib.Omega.{arith}
use Rattle.prenex.proofs.Appending.{run_at, copying_on, copying_extends, copying_done}
use Rattle.prenex.proofs.write.copy.Goals as goal

pub loop-word-preserved : goal.loop-word-preserved
loop-word-preserved c =
    let e = run_at c.args.src.now c.args.at _ c.loop-word.word-index c.loop-word-test.true in
    let i = c.loop-word.invariant in
    let z : c.args.at + (c.loop-word.word-index + 1) ≡ c.args.at + c.loop-word.word-index + 1 = omega arith in
    rw z
    (copying_on i _ (omega arith) (omega arith) (omega (arith, i.count)) c.plain.ensures.0 (rw e at c.plain.ensures.1))

pub returns : goal.returns
returns c = (
  copying_extends c.loop-word.invariant (omega (arith, c.loop-word.invariant.count)),
  λ T l rest p r e. copying_done c.loop-word.invariant r (omega arith) p,
)
