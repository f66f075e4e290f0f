-- The label and the text are parts of what is kept; the rule line is written before the result.
use native.Mathlib.Omega.{arith}
use Rattle.stream.proofs.PrintLaws.{name_fits, line_fits, rule_good}
use Rattle.stream.proofs.print.put_rule.Goals as goal

pub put_line-start-requires : goal.put_line-start-requires
put_line-start-requires c =
    let a = c.args in omega (arith, c.requires, name_fits a.kept.now a.label c.min.ensures c.clip-name.ensures)

pub put_result-requires : goal.put_result-requires
put_result-requires c =
    let a = c.args in line_fits a.kept.now a.label c.min.ensures c.clip-name.ensures c.requires c.put_line-start.ensures

pub returns : goal.returns
returns c =
    let r = c.put_result.ensures in let a = c.args in rule_good a.kept.now a.label c.min.ensures c.clip-name.ensures a.end c.saturating_sub.ensures c.clip-text.ensures c.put_line-start.ensures r.0 r.1
