-- Each word's test, and all of them.
use mathlib.Core.Path.{◌∙◌}
use Rattle.std.proofs.Common.{rules, tests}
use Rattle.std.proofs.lemmas.Iterator.{YieldsList-from_slice}
use Rattle.std.proofs.lemmas.Iterator.Search.{any_from_yields_List}
use Rattle.prenex.specs.Renaming.{is_spelled}
use Rattle.prenex.proofs.Words.{some_spelled}
use Rattle.prenex.proofs.rename.occurs.Goals as goal

pub returns : goal.returns
returns c =
    let s = c.args.spellings in
    let w = c.args.words.now in
    any_from_yields_List (is_spelled s.text.now s.made.now c.args.word) _ _ _ c.any.ensures.ran (YieldsList-from_slice w cc) (λ x b q k. search (rules, tests))
    ∙ some_spelled s.text.now s.made.now c.args.word w
