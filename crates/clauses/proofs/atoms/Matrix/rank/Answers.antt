use mathlib.Core.Path.{◌∙◌}
use Rattle.clauses.specs.Search.{at_place}
use Rattle.clauses.proofs.Searching.{within, sought}
use Rattle.clauses.proofs.atoms.Matrix.rank.Goals as goal

pub returns-clause-safe : goal.returns-clause-safe
returns-clause-safe c = rw c.unwrap_or.ensures (within _ _ c.find.ensures.bound)

pub returns-clause-does : goal.returns-clause-does
returns-clause-does c =
    let a = c.args in let m = a.self in
    λ f. c.unwrap_or.ensures ∙ sought (at_place m.spellings.text.now m.spellings.made.now m.words.now a.at) _ _ (c.find.ensures.does f)
