-- Each push reads at least one byte of the piece, and the loop keeps that feeding what is left of it ends where feeding all of it does.
use Rattle.std.proofs.Common.{arith, sym, ◌∙◌}
use Rattle.stream.specs.Laws.Moving.{push_moves, push_stays, push_goes_on, push_writes, through_none, through_silent}
use Rattle.program.proofs.Writing.{written_more, written_done}
use Rattle.program.proofs.feed.Goals as goal

pub loop-from-smaller : goal.loop-from-smaller
loop-from-smaller g c = omega (arith, push_moves c.push-pushed.ensures c.loop-from-test.true)

pub loop-from-preserved : goal.loop-from-preserved
loop-from-preserved g c =
    let l = c.loop-from in
    let q = c.push-pushed.ensures in
    record {
      ends = l.invariant.ends ∙ push_goes_on q;
      inside = push_stays q l.invariant.inside;
      holds = λ r w. written_more _ (l.invariant.holds r w) (push_writes q (omega (arith, l.auto.out, r)) (l.auto.work ∙ w)) c.in_ok-write_all.ensures.bytes;
    }

pub returns-clause-moves : goal.returns-clause-moves
returns-clause-moves g c = let l = c.loop-from in sym (l.invariant.ends ∙ through_none _ _ _ c.loop-from-test.false)

pub returns-clause-writes : goal.returns-clause-writes
returns-clause-writes g c =
    let l = c.loop-from in
    λ r w. written_done (rw (through_silent _ _ _ c.loop-from-test.false) at (l.invariant.holds r w))
