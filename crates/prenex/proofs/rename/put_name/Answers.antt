-- The loop keeps `Puts`: the words up to i are done, those behind are as they were.
use native.Mathlib.Omega.{arith}
use mathlib.Core.Path.{◌≡◌, ◌∙◌}
use lib.ListN.{length, get_or}
use Rattle.std.proofs.lemmas.List.{set-get_or}
use Rattle.prenex.proofs.Words.{spelled_is}
use Rattle.prenex.proofs.Putting.{puts_on, puts_off, puts_end}
use Rattle.prenex.proofs.rename.put_name.Goals as goal
use Rattle.prenex.proofs.rename.put_name.Goals.{then-same_variable, else-same_variable}

pub loop-word-preserved : goal.loop-word-preserved
loop-word-preserved c =
    let s = c.args.spellings in
    let e = c.same_variable.ensures ∙ spelled_is s.text.now s.made.now c.args.old (get_or c.loop-word.words c.loop-word.word-index 0) in
    elim c.if-same_variable.branch [
      | then-same_variable w ↦ rw w.words-is (puts_on c.loop-word.invariant (omega arith) c.requires e w.if-same_variable.true)
      | else-same_variable w ↦ rw (w.words-is, set-get_or c.loop-word.words c.loop-word.word-index 0) (puts_off c.loop-word.invariant (omega arith) e w.if-same_variable.false)
    ]

pub returns : goal.returns
returns c =
    let z : c.loop-word.word-index ≡ length c.args.words.now = omega arith in
    let p = rw z at c.loop-word.invariant in
    (puts_end p, p.known)
