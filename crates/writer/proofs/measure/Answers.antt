-- One word takes its piece off what is left.
use native.Mathlib.Omega.{arith}
use mathlib.Core.Path.{ap}
use lib.ListN.{length}
use Rattle.writer.specs.MeasureLaws.{too_long, short_enough}
use Rattle.writer.proofs.Runs.{past, word_length}
use Rattle.writer.proofs.measure.Goals as goal

pub returns-then-more-room : goal.returns-then-more-room
returns-then-more-room c =
    let s = c.args.spellings in
    let l = c.loop-word in
    let n = word_length s c.args.words.now l.word-index l.left c.due-next.result (omega arith) (c.due-next.ensures s.text.now s.made.now) in
    too_long _ _ (omega (arith, n))

pub loop-word-preserved : goal.loop-word-preserved
loop-word-preserved c =
    let s = c.args.spellings in
    let l = c.loop-word in
    let n = word_length s c.args.words.now l.word-index l.left c.due-next.result (omega arith) (c.due-next.ensures s.text.now s.made.now) in
    (omega arith, omega (arith, n))

pub returns : goal.returns
returns c =
    let l = c.loop-word in
    let e = ap length (past c.args.spellings c.args.words.now l.left l.word-index (omega arith)) in
    short_enough _ _ _ (omega (arith, e)) (omega (arith, e))
