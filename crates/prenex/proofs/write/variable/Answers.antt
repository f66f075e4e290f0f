-- The name goes into the place's slot, or is too long for it.
use native.Mathlib.Omega.{arith}
use mathlib.Core.Path.{ap, ◌∙◌}
use mathlib.Core.List.{List}
use Prim.Native.Nat.{ℕ, ◌*◌}
use lib.ListN.{length, set}
use lib.Seq.{paste}
use Rattle.prenex.specs.Tables.{padded}
use Rattle.prenex.proofs.Laying.{lays}
use Rattle.prenex.proofs.write.variable.Goals as goal

pub returns : goal.returns
returns c =
    let a = c.args in
    let e = rw c.size.ensures at c.clip-name.ensures in
    lays a.text.now a.made.now a.prefix.now a.word _ c.requires.0 c.requires.1 (ap length e) (omega (arith, c.if-name-ge-SLOT.false))
    (c.lay.ensures ∙ ap (λ (x : List ℕ). paste a.made.now (25 * a.prefix.now.used) (padded x) 25) e)
    (ap (set a.prefix.now.nodes a.prefix.now.used) (omega (arith, c.from.ensures)))
