-- What is due behind a word, by the same tests as `after` makes on its token.
use native.Mathlib.Omega.{arith}
use Rattle.writer.proofs.Tokens.{after_due, after_unknown, after_block, after_other}
use Rattle.writer.proofs.due.Goals as goal

pub returns-then-left-gt0 : goal.returns-then-left-gt0
returns-then-left-gt0 c = λ T M. grind (arith, after_due)

pub returns-in_default : goal.returns-in_default
returns-in_default c = λ T M. grind (arith, after_unknown)

pub returns-in-All : goal.returns-in-All
returns-in-All c = λ T M. grind (arith, after_block T M c.args.word c.args.left (omega arith) c.in-Some.ensures c.in-All.is)

pub returns-in_default-kind : goal.returns-in_default-kind
returns-in_default-kind c =
    λ T M. grind (arith, after_other T M c.args.word c.args.left (omega arith) c.in-Some.ensures c.in_default-kind.not-All c.in_default-kind.not-Exists)
