-- The loop keeps `Grows`: each turn that finds the name taken adds a backtick of the slot.
use native.Mathlib.Omega.{arith}
use mathlib.Core.Path.{sym, ◌∙◌}
use Rattle.prenex.proofs.Growing.{grows_on, grown, too_long}
use Rattle.prenex.proofs.rename.fresh.Goals as goal

pub returns-then-not-taken : goal.returns-then-not-taken
returns-then-not-taken c = λ at h r s. grown (c.loop-spellings.invariant at h r s) h r (omega arith) (sym c.taken.ensures ∙ c.if-not-taken.true)

pub loop-spellings-preserved : goal.loop-spellings-preserved
loop-spellings-preserved c = λ at h r s. grows_on (c.loop-spellings.invariant at h r s) h r (omega arith) (sym c.taken.ensures ∙ c.if-not-taken.false)

pub returns : goal.returns
returns c = λ at h r s. too_long (c.loop-spellings.invariant at h r s) h r (omega (arith, c.loop-spellings-test.false))
