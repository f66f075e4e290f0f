-- The line is written, and then each text behind it.
use native.Mathlib.Omega.{arith}
use lib.ListN.{length}
use Rattle.definitions.specs.Clauses.{clause_word, counted_line}
use Rattle.writer.specs.PutLaws.{wrote_both, head_room, rest_room}
use Rattle.listing.specs.Texts.{each_text, literal_in, clause_text}
use Rattle.listing.proofs.Loops.{wrote_start, wrote_room, wrote_on, wrote_end}
use Rattle.listing.proofs.puts.clause.Goals as goal

pub line-next-requires : goal.line-next-requires
unfolding clause_text
line-next-requires c =
    let a = c.args in
    head_room a.at (counted_line clause_word (length a.numbers.now)) (each_text (literal_in a.source) a.numbers.now) c.requires

pub loop-number-init : goal.loop-number-init
unfolding clause_text
loop-number-init c = wrote_start (literal_in c.args.source) c.args.numbers.now c.line-next.new.out c.line-next.result

pub literal-next-requires : goal.literal-next-requires
unfolding clause_text
literal-next-requires c =
    let a = c.args in
    let f = literal_in a.source in
    (wrote_room f a.numbers.now c.loop-number.number-index c.loop-number.invariant (omega arith)
    (rest_room (each_text f a.numbers.now) c.requires c.line-next.ensures))

pub loop-number-preserved : goal.loop-number-preserved
unfolding clause_text
loop-number-preserved c =
    let a = c.args in
    wrote_on (literal_in a.source) a.numbers.now c.loop-number.number-index c.loop-number.invariant (omega arith) c.literal-next.ensures

pub returns : goal.returns
unfolding clause_text
returns c =
    let a = c.args in
    wrote_both c.line-next.ensures (wrote_end (literal_in a.source) a.numbers.now c.loop-number.number-index c.loop-number.invariant (omega arith))
