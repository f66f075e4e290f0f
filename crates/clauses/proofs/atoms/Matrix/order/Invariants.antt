use Prim.Native.Nat.{◌+◌, ◌*◌, ◌≤◌}
use mathlib.Core.Path.{◌≡◌}
use lib.ListN.{length, drop}
use Rattle.text.specs.Names.{ordering}
use Rattle.text.specs.Words.{tokens}
use Rattle.clauses.specs.Ranks.{cmp_places, cmp_tokens}
use Rattle.clauses.proofs.atoms.Matrix.order.Given as goal

abbrev pub invariant-loop-s : goal.invariant-loop-s
invariant-loop-s l =
    (l.left ≤ 1 + 63 * length l.yielded)
    × (cmp_places l.self.spellings.text.now l.self.spellings.made.now l.self.words.now l.a l.b
    ≡ cmp_tokens (tokens l.self.spellings.text.now l.self.spellings.made.now (drop (length l.yielded) (drop l.a l.self.words.now)))
    (tokens l.self.spellings.text.now l.self.spellings.made.now (drop (length l.yielded) (drop l.b l.self.words.now))) l.left (ordering l.same))
