use Rattle.std.proofs.Common.{refl, arith}
use Rattle.text.proofs.Copies.{one_more, all_copied, whole_copied}
use Rattle.text.proofs.runs.copy.Goals as goal

pub loop-i-init : goal.loop-i-init
loop-i-init g c = record { inside = omega arith; size = refl; front = refl; back = refl }

pub loop-i-preserved : goal.loop-i-preserved
loop-i-preserved g c =
    one_more c.args.to.now c.args.from.now c.loop-i.i c.loop-i.to c.loop-i.invariant c.index-from-i.result c.index-from-i.is (omega arith) (omega arith)

pub returns-clause-copies : goal.returns-clause-copies
returns-clause-copies g c = all_copied c.args.to.now c.args.from.now c.loop-i.i c.loop-i.to c.loop-i.invariant (omega arith) (λ h. omega arith)

pub returns-clause-whole : goal.returns-clause-whole
returns-clause-whole g c = λ e. whole_copied c.args.to.now c.args.from.now c.loop-i.to (returns-clause-copies g c) e
