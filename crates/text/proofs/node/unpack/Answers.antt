-- The word has a kind, which is the one at its number's place.
use native.Mathlib.Omega.{arith}
use borrow.Author.Tests.{le-leb}
use Prim.Native.Nat.{◌%◌}
use Rattle.text.specs.NodeLaws.{kind_known, number_small}
use Rattle.text.proofs.node.unpack.Goals as goal

pub returns : goal.returns
returns c =
    let h = c.in_ok-kind in
    rw (le-leb (c.args.word % 16) 13 (omega (arith, h.ensures, number_small h.kind)), ← (kind_known h.kind h.ensures))
