-- A variable becomes the term that it belongs to.
use borrow.Author.Tests.{eqb-true}
use mathlib.Core.Path.{sym, ◌∙◌}
use Rattle.skolem.proofs.FillLaws.{variable_becomes}
use Rattle.skolem.proofs.matrix.Terms.put_entry.Goals as goal

pub returns-then-has_kind : goal.returns-then-has_kind
returns-then-has_kind c =
    let s = c.args.self in
    rw (variable_becomes s.spellings.text.now s.spellings.made.now s.scope.now s.prefix.now s.heads.now c.args.word (eqb-true _ _ (sym c.has_kind.ensures ∙ c.if-has_kind.true)), ← c.head.ensures)
    c.put_term.ensures
