use Rattle.std.proofs.Common.{sym, ◌∙◌}
use Rattle.text.proofs.Comparing.{ends_differ}
use Rattle.text.proofs.names.differ_behind.Goals as goal

pub returns-in-Some-Some : goal.returns-in-Some-Some
returns-in-Some-Some c d =
    ends_differ c.args.a.now c.args.b.now c.in-Some-Some.last.now c.in-Some-Some.other.now 8
    c.in-Some-Some.ensures.cases.1.same c.in-Some-Some.ensures'.cases.1.same (sym c.ne.ensures ∙ d)
