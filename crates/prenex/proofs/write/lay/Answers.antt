-- The name, and the backticks behind it.
use native.Mathlib.Omega.{arith}
use Rattle.prenex.proofs.Laying.{slot_laid}
use Rattle.prenex.proofs.write.lay.Goals as goal

pub returns : goal.returns
returns c =
    slot_laid c.args.made.now c.args.from c.args.name.now c.requires.0 c.requires.1 (omega arith) (omega arith) (c.copy.ensures.whole (omega arith))
    (c.fill.ensures.after (λ y e. e))
