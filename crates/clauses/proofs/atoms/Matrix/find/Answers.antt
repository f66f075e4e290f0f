use Rattle.std.proofs.Common.{rules, refl, ℕ, ◌≡◌}
use Rattle.std.proofs.lemmas.Fn.{always_returns_same}
use Rattle.clauses.specs.Search.{at_place}
use Rattle.clauses.proofs.Orderings.{turned, turned_is}
use Rattle.clauses.proofs.Searching.{searched}
use Rattle.clauses.proofs.atoms.Matrix.find.Goals as goal

pub returns-clause-does : goal.returns-clause-does
returns-clause-does c =
    let a = c.args in let m = a.self in
    let ord = λ (w : ℕ). turned (at_place m.spellings.text.now m.spellings.made.now m.words.now a.at w) in
    λ f. searched (at_place m.spellings.text.now m.spellings.made.now m.words.now a.at) a.atoms.now f ord (λ w. refl) c.binary_search_by.result
    c.binary_search_by.ensures.bound
    (c.binary_search_by.ensures.position ord (always_returns_same _ (λ b r. r ≡ ord b.0.now) _ (λ b r f' k. (search (rules, turned_is), search rules))))
