-- The line is written, and then each text behind it.
use native.Mathlib.Omega.{arith}
use lib.ListN.{length}
use Rattle.definitions.specs.Clauses.{clauses_word, counted_line}
use Rattle.writer.specs.PutLaws.{wrote_both, head_room, rest_room}
use Rattle.listing.specs.Texts.{each_text, stored_in, set_text}
use Rattle.listing.proofs.Loops.{wrote_start, wrote_room, wrote_on, wrote_end}
use Rattle.listing.proofs.puts.listing.Goals as goal

pub line-next-requires : goal.line-next-requires
unfolding set_text
line-next-requires c =
    let a = c.args in
    head_room 0 (counted_line clauses_word (length a.source.index.now)) (each_text (stored_in a.source) a.source.index.now) (omega (arith, c.requires))

pub loop-word-init : goal.loop-word-init
unfolding set_text
loop-word-init c = wrote_start (stored_in c.args.source) c.args.source.index.now c.line-next.new.out c.line-next.result

pub clause-next-requires : goal.clause-next-requires
unfolding set_text
clause-next-requires c =
    let a = c.args in
    let f = stored_in a.source in
    rw c.numbers.ensures (wrote_room f a.source.index.now c.loop-word.word-index c.loop-word.invariant (omega arith)
    (rest_room (each_text f a.source.index.now) (omega (arith, c.requires)) c.line-next.ensures))

pub loop-word-preserved : goal.loop-word-preserved
unfolding set_text
loop-word-preserved c =
    let a = c.args in
    wrote_on (stored_in a.source) a.source.index.now c.loop-word.word-index c.loop-word.invariant (omega arith) (rw c.numbers.ensures at c.clause-next.ensures)

pub returns : goal.returns
unfolding set_text
returns c =
    let a = c.args in
    wrote_both c.line-next.ensures (wrote_end (stored_in a.source) a.source.index.now c.loop-word.word-index c.loop-word.invariant (omega arith))
