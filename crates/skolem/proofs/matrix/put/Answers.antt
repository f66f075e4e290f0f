-- No room, too many arguments, or one word more.
use mathlib.Core.List.{[]}
use Rattle.skolem.proofs.FillLaws.{no_room, too_wide, put_one}
use Rattle.skolem.proofs.matrix.put.Goals as goal
use Rattle.skolem.proofs.matrix.put.Goals.{then-used-out-via-then-used-out, then-used-out-via-else-used-out+then-arguments-gt-ARGUMENTS}

pub returns-then-used-out : goal.returns-then-used-out
returns-then-used-out c =
    let a = c.args in elim c.then-used-out.branch [
      | then-used-out-via-then-used-out w ↦ no_room a.out.now a.used a.word w.if-used-out.true
      | then-used-out-via-else-used-out+then-arguments-gt-ARGUMENTS w ↦ too_wide a.out.now a.used a.word (w.arguments.ensures.0 [] []) w.if-arguments-gt-ARGUMENTS.true
    ]

pub returns : goal.returns
returns c = put_one c.if-used-out.false (c.arguments.ensures.0 [] []) c.if-arguments-gt-ARGUMENTS.false
