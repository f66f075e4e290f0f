-- `substitution::sift` meets its contract. The loop's invariant: of the words read so far those that stay are kept, and the others are as they were.
use Rattle.std.proofs.Common.{arith, sym, ◌∙◌}
use Rattle.substitution.proofs.Sifting.{sifting_starts, word_goes, word_stays, sifted}
use Rattle.substitution.proofs.sift.Goals as goal

pub loop-next-init : goal.loop-next-init
loop-next-init c = sifting_starts

pub returns : goal.returns
returns c = sifted c.loop-next.invariant (omega arith)

pub loop-next-preserved-then-among : goal.loop-next-preserved-then-among
loop-next-preserved-then-among c = word_goes c.loop-next.invariant (omega arith) (omega arith) (sym c.if-among.true ∙ c.among.ensures)

pub loop-next-preserved : goal.loop-next-preserved
loop-next-preserved c = word_stays c.loop-next.invariant (omega arith) (omega arith) (sym c.if-among.false ∙ c.among.ensures)
