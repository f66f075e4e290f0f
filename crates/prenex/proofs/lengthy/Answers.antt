-- Each word's test, and all of them.
use mathlib.Core.Path.{◌∙◌}
use Rattle.std.proofs.Common.{rules, tests}
use Rattle.std.proofs.lemmas.Iterator.{YieldsList-from_slice}
use Rattle.std.proofs.lemmas.Iterator.Search.{any_from_yields_List}
use Rattle.prenex.specs.Stage.{long_variable}
use Rattle.prenex.proofs.Lengths.{some_long}
use Rattle.prenex.proofs.lengthy.Goals as goal

pub returns : goal.returns
returns c =
    let s = c.args.spellings in
    let w = c.args.words.now in
    any_from_yields_List (long_variable s.text.now s.made.now) _ _ _ c.any.ensures.ran (YieldsList-from_slice w cc) (λ x b q k. search (rules, tests))
    ∙ some_long s.text.now s.made.now w
