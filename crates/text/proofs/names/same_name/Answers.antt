use Rattle.std.proofs.Common.{◌∙◌}
use Rattle.text.proofs.Comparing.{equal_bytes}
use Rattle.text.proofs.names.same_name.Goals as goal

pub returns-then-not-differ_behind : goal.returns-then-not-differ_behind
returns-then-not-differ_behind c = c.eq.ensures ∙ equal_bytes c.args.a.now c.args.b.now
