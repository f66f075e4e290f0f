-- A name is in one of three runs: each is asked in turn.
use mathlib.Core.Path.{sym, ◌∙◌}
use Rattle.definitions.proofs.Laws.Bools.{clash}
use Rattle.text.specs.Words.{tokens}
use Rattle.text.specs.Prefixes.{names}
use Rattle.prenex.proofs.Words.{in_first, in_second, in_third}
use Rattle.prenex.proofs.rename.taken.Goals as goal
use Rattle.prenex.proofs.rename.taken.Goals.{then-occurs, else-occurs}

pub returns-then-occurs-2 : goal.returns-then-occurs-2
returns-then-occurs-2 c =
    let T = c.args.spellings.text.now in
    let M = c.args.spellings.made.now in
    let b = names (tokens T M c.args.mine.now) in
    let d = names (tokens T M c.args.others.now) in
    elim c.if-occurs.branch [
      | then-occurs w ↦ in_first _ _ b d c.occurs.ensures w.if-occurs.true w.value-is
      | else-occurs w ↦ in_second _ _ _ d c.occurs.ensures w.if-occurs.false w.occurs-else-occurs.ensures w.value-is c.if-occurs-2.true
    ]

pub returns-else-occurs-2 : goal.returns-else-occurs-2
returns-else-occurs-2 c =
    elim c.if-occurs.branch [
      | then-occurs w ↦ clash w.if-occurs.true (sym w.value-is ∙ c.if-occurs-2.false)
      | else-occurs w ↦ in_third _ _ _ _ c.occurs.ensures w.if-occurs.false w.occurs-else-occurs.ensures
          (sym w.value-is ∙ c.if-occurs-2.false) c.occurs-else-occurs-2.ensures
    ]
