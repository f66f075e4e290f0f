-- The word, TAB, the number and LF, one behind another.
use mathlib.Core.List.{[], ◌∷◌, ◌++◌}
use Rattle.definitions.specs.Bytes.{TAB, LF, decimal}
use Rattle.writer.specs.PutLaws.{wrote_both, head_room, rest_room, puts_both}
use Rattle.listing.proofs.puts.line.Goals as goal

pub returns : goal.returns
returns c =
    let a = c.args in
    let room = c.requires in
    let w = c.put_run-named.ensures.room (head_room a.at a.word.now _ room) in
    let after = rest_room (TAB ∷ (decimal a.n ++ (LF ∷ []))) room w in
    let v = c.put_byte-tabbed.ensures.room (head_room _ (TAB ∷ []) _ after) in
    wrote_both w (wrote_both v (puts_both (rest_room (decimal a.n ++ (LF ∷ [])) after v) c.put_decimal-counted.ensures c.put_byte.ensures))
