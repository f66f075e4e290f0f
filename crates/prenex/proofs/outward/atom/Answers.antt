-- What is copied ends where the formula does.
use native.Mathlib.Omega.{arith}
use mathlib.Core.List.{[]}
use Rattle.text.specs.Weights.{words_weight}
use Rattle.prenex.proofs.outward.atom.Goals as goal

pub returns : goal.returns
returns c =
    let y = c.copy.ensures in
    (y.0, λ T f rest p r. y.1 T _ rest p r (omega (arith, c.in_ok-next.ensures.ends T [] f rest r.stream, words_weight f)))
