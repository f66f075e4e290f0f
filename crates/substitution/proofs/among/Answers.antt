-- `substitution::among` meets its contract.
use Rattle.std.proofs.Common.{rules, tests, ◌∙◌}
use Rattle.std.proofs.lemmas.Iterator.{YieldsList-from_slice}
use Rattle.std.proofs.lemmas.Iterator.Search.{any_from_yields_List}
use Rattle.definitions.specs.Bytes.{same}
use Rattle.text.specs.Words.{spell}
use Rattle.substitution.proofs.Finding.{found}
use Rattle.substitution.proofs.among.Goals as goal

pub returns : goal.returns
returns c =
    any_from_yields_List (λ w. same (spell c.args.spellings.text.now c.args.spellings.made.now c.args.word) (spell c.args.spellings.text.now c.args.spellings.made.now w)) _ _ _ c.any.ensures.ran
    (YieldsList-from_slice _ c.iter.ensures.rest) (λ x b q k. search (rules, tests))
    ∙ found c.args.spellings.text.now c.args.spellings.made.now c.args.word _
