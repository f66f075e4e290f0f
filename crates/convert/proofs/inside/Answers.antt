-- What was read decides: a refusal with its line, or the rule's form.
use mathlib.Core.Path.{sym}
use Rattle.convert.proofs.Shown.{as_well, handed, was_none, was_rule}
use Rattle.convert.proofs.inside.Goals as goal

pub returns-in_err-read_into : goal.returns-in_err-read_into
returns-in_err-read_into c = λ m. handed _ c.from_residual.ensures.1 (was_none _ _ (rw c.in_err-read_into.was at c.read_into.ensures.says) _)

pub returns : goal.returns
returns c =
    λ m.
    let t = was_rule _ _ (rw c.in_ok-read_into.was at c.read_into.ensures.says) _ in
    as_well (sym t.2) (c.staged.ensures m t.0 (rw c.words.ensures t.1))
