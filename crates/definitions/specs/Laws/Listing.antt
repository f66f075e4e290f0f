-- A listing tells its clauses: two clause sets with one listing are one, where no name holds a tab or a line feed.
-- A listing is rows of fields. Cutting it at line feeds and tabs gives the rows back; and the counts in the rows say where each part ends.
use mathlib.Core.List.{List, [], ◌∷◌}
use Rattle.definitions.specs.Syntax.{Term, var, con, app, Terms, nil, cons}
use Rattle.definitions.specs.Order.{Atom, rel, same_as, pos, opp, Clause}
use Rattle.definitions.specs.Laws.Rows.{Plain}

-- No name in terms, atoms, literals or clauses holds a tab or a line feed.
unfoldable mutual
  pub PlainTerm : Term → Type 0
  PlainTerm (var x) = Plain x
  PlainTerm (con c) = Plain c
  PlainTerm (app f ts) = Plain f × PlainTerms ts

  pub PlainTerms : Terms → Type 0
  PlainTerms nil = Unit {0}
  PlainTerms (cons t ts) = PlainTerm t × PlainTerms ts

unfoldable pub PlainAtom : Atom → Type 0
PlainAtom (rel p ts) = Plain p × PlainTerms ts
PlainAtom (same_as t u) = PlainTerm t × PlainTerm u

unfoldable pub PlainClause : Clause → Type 0
PlainClause [] = Unit {0}
PlainClause (pos a ∷ c) = PlainAtom a × PlainClause c
PlainClause (opp a ∷ c) = PlainAtom a × PlainClause c

unfoldable pub PlainClauses : List Clause → Type 0
PlainClauses [] = Unit {0}
PlainClauses (c ∷ cs) = PlainClause c × PlainClauses cs
