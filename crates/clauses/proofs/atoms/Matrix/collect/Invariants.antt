use Prim.Native.Nat.{◌+◌, ◌≤◌}
use mathlib.Core.Path.{◌≡◌}
use mathlib.Core.List.{List, map}
use lib.ListN.{length, drop}
use Rattle.definitions.specs.Order.{Atom, set_of}
use Rattle.text.specs.Tables.{words_of}
use Rattle.text.specs.Words.{kind_of_word}
use Rattle.clauses.specs.Each.{Each}
use Rattle.clauses.specs.Ranks.{cmp_parts, lead, spots}
use Rattle.clauses.specs.Sets.{Spelled}
use Rattle.clauses.proofs.atoms.Matrix.collect.Given as goal

abbrev pub invariant-loop-at : goal.invariant-loop-at
invariant-loop-at l =
    (l.at ≤ l.end) × (l.end ≤ length l.self.words.now) × (l.atoms.used + l.at ≤ length l.self.words.now)
    × (length l.atoms.nodes ≡ length l.fn.atoms.nodes)
    × (l.end ≡ l.at + lead (map kind_of_word (drop l.at l.self.words.now)))
    × ((found : List Atom) → Each (Spelled l.self.spellings.text.now l.self.spellings.made.now l.self.words.now) (spots l.at (map kind_of_word (drop l.at l.self.words.now))) found
    → words_of l.atoms ≡ set_of (cmp_parts l.self.spellings.text.now l.self.spellings.made.now l.self.words.now) (spots l.at (map kind_of_word (drop l.at l.self.words.now))))
