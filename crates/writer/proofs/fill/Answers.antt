-- One word's piece goes over from what is left to what is written.
use native.Mathlib.Omega.{arith}
use Rattle.writer.proofs.Runs.{body_room, filling_on, filling_end}
use Rattle.writer.proofs.fill.Goals as goal

pub put_body-next-requires : goal.put_body-next-requires
put_body-next-requires c =
    let l = c.loop-word in
    body_room c.args.spellings c.args.words.now l.word-index l.left (omega arith) l.invariant c.requires

pub loop-word-preserved : goal.loop-word-preserved
loop-word-preserved c =
    let s = c.args.spellings in
    let l = c.loop-word in
    filling_on s c.args.words.now l.word-index l.left c.due-left.result (omega arith) (c.due-left.ensures s.text.now s.made.now)
    c.requires c.put_body-next.ensures c.put_end-next.ensures l.invariant

pub returns : goal.returns
returns c =
    let l = c.loop-word in
    filling_end c.args.spellings c.args.words.now l.left l.word-index (omega arith) l.invariant
