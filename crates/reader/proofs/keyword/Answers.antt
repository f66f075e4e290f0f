use Rattle.std.proofs.Common.{rules}
use Rattle.text.specs.declared.kind.Kind.TheVariants.{Top, Bottom, Not, And, Or, Implies, Iff, Equals, All, Exists, Predicate, Function, Variable, Constant}
use Rattle.reader.proofs.Keywords.{named}
use Rattle.reader.proofs.keyword.Goals as goal

pub returns-in-top : goal.returns-in-top
returns-in-top c = named _ Top (search rules)

pub returns-in-bot : goal.returns-in-bot
returns-in-bot c = named _ Bottom (search rules)

pub returns-in-not : goal.returns-in-not
returns-in-not c = named _ Not (search rules)

pub returns-in-and : goal.returns-in-and
returns-in-and c = named _ And (search rules)

pub returns-in-or : goal.returns-in-or
returns-in-or c = named _ Or (search rules)

pub returns-in-imp : goal.returns-in-imp
returns-in-imp c = named _ Implies (search rules)

pub returns-in-iff : goal.returns-in-iff
returns-in-iff c = named _ Iff (search rules)

pub returns-in-eq : goal.returns-in-eq
returns-in-eq c = named _ Equals (search rules)

pub returns-in-all : goal.returns-in-all
returns-in-all c = named _ All (search rules)

pub returns-in-ex : goal.returns-in-ex
returns-in-ex c = named _ Exists (search rules)

pub returns-in-pred : goal.returns-in-pred
returns-in-pred c = named _ Predicate (search rules)

pub returns-in-fun : goal.returns-in-fun
returns-in-fun c = named _ Function (search rules)

pub returns-in-var : goal.returns-in-var
returns-in-var c = named _ Variable (search rules)

pub returns-in-con : goal.returns-in-con
returns-in-con c = named _ Constant (search rules)
