-- The invariant: the set has the clauses from k on.
use native.Mathlib.Omega.{arith}
use mathlib.Core.Path.{refl, ◌∙◌}
use Rattle.clauses.specs.Plans.{made}
use Rattle.clauses.proofs.Growing.{gathered_none, gathered_more, short_enough}
use Rattle.clauses.proofs.sets.gather.Goals as goal

pub loop-k-init : goal.loop-k-init
loop-k-init c = (omega arith, omega arith, refl, refl, refl, λ a rest x e t. gathered_none _ (made a) c.args.n refl e)

pub loop-k-preserved : goal.loop-k-preserved
loop-k-preserved c =
    let l = c.loop-k in (
      omega arith,
      omega arith,
      c.grow-used.ensures.safe.2 ∙ l.invariant.2,
      c.grow-used.ensures.sizes.0 ∙ l.invariant.3,
      c.grow-used.ensures.sizes.1 ∙ l.invariant.4,
      λ a rest x e t. gathered_more _ _ l.used c.grow-used.result (made a) l.k (omega arith) (omega arith)
          (short_enough c.args.plan.now a rest (omega arith) x _) t (l.invariant.5 a rest x e t) (c.grow-used.ensures.does a rest x (omega arith) (omega arith)),
    )
