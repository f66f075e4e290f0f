-- `Search::note` meets its contract.
use Rattle.std.proofs.Common.{arith, rules, sym, ◌∙◌}
use Rattle.substitution.proofs.Adding.{no_variable, unasked_variable, known_variable, new_variable}
use Rattle.substitution.proofs.Search.note.Goals as goal

pub returns-then-not-has_kind : goal.returns-then-not-has_kind
returns-then-not-has_kind c = no_variable (λ k. search rules)

pub returns-then-not-among : goal.returns-then-not-among
returns-then-not-among c = unasked_variable (search rules) (sym c.if-not-among.true ∙ c.among.ensures)

pub returns-then-among : goal.returns-then-among
returns-then-among c = known_variable (search rules) (sym c.if-not-among.false ∙ c.among.ensures) (sym c.if-among.true ∙ c.among-2.ensures)

pub returns : goal.returns
returns c = new_variable (search rules) (sym c.if-not-among.false ∙ c.among.ensures) (omega arith) (sym c.if-among.false ∙ c.among-2.ensures)
