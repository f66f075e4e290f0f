-- A rule line with `?`, and a refusal behind it.
use native.Mathlib.Omega.{arith}
use Rattle.stream.proofs.PrintLaws.{rule_bad}
use Rattle.stream.proofs.print.put_unnamed.Goals as goal

pub put_refusal-requires : goal.put_refusal-requires
put_refusal-requires c = let p = c.put_line-start.ensures in omega (arith, c.requires, p.ends, p.size)

pub returns : goal.returns
returns c = λ d n t w. rule_bad d n t w c.put_line-start.ensures c.put_refusal.ensures
