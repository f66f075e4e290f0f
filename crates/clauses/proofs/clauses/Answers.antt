-- The counts decide; where they are within the limits, the atoms are collected, the plan gets their ranks, and its clauses are gathered.
use native.Mathlib.Omega.{arith}
use mathlib.Core.Path.{◌≡◌, ap, ◌∙◌}
use lib.ListN.{take}
use lib.Seq.{take_all}
use Rattle.std.proofs.lemmas.Slice.{between-put_mid}
use Rattle.text.specs.Tables.{words_of}
use Rattle.clauses.specs.Laying.{marked}
use Rattle.clauses.proofs.Laying.{rest_of}
use Rattle.clauses.proofs.Whole.{over_clauses, over_literals, set_given}
use Rattle.clauses.proofs.clauses.Goals.{then-many-gt-CLAUSES-via-then-many-gt-CLAUSES, then-many-gt-CLAUSES-via-else-many-gt-CLAUSES+then-literals-gt-LITERALS}
use Rattle.clauses.proofs.clauses.Goals as goal

pub returns-then-many-gt-CLAUSES-clause-stage : goal.returns-then-many-gt-CLAUSES-clause-stage
returns-then-many-gt-CLAUSES-clause-stage c =
    let a = c.args in let o = c.lay_out-p in
    let root = rw (rest_of o.new.plan o.result (omega arith)) at c.first-root.ensures in
    λ f l h r.
    let all : take c.min.result a.words.now ≡ a.words.now = take_all c.min.result a.words.now (omega (arith, c.min.ensures)) in
    let laid = rw all at o.ensures.1 in
    elim c.then-many-gt-CLAUSES.branch [
      | then-many-gt-CLAUSES-via-then-many-gt-CLAUSES w ↦
          over_clauses a.spellings.text.now a.spellings.made.now a.words.now f l h r (marked a.conjunctive)
          _ laid _ root (omega (arith, c.clauses-many.ensures.0))
      | then-many-gt-CLAUSES-via-else-many-gt-CLAUSES+then-literals-gt-LITERALS w ↦
          over_literals a.spellings.text.now a.spellings.made.now a.words.now f l h r (marked a.conjunctive)
          _ laid _ root (omega (arith, w.literals.ensures.0))
    ]

pub returns-clause-stage : goal.returns-clause-stage
returns-clause-stage c =
    let a = c.args in let o = c.lay_out-p in let k = c.collect in
    let root = rw (rest_of o.new.plan o.result (omega arith)) at c.first-root.ensures in
    let labelled = rw (rest_of o.new.plan o.result (omega arith)) at (rw c.words.ensures at c.label.ensures.1) in
    λ f l h r.
    let all : take c.min.result a.words.now ≡ a.words.now = take_all c.min.result a.words.now (omega (arith, c.min.ensures)) in
    set_given a.spellings.text.now a.spellings.made.now a.words.now f l h r (marked a.conjunctive)
    _ (rw all at o.ensures.1) _ root
    (omega (arith, c.clauses-many.ensures.0)) (omega (arith, c.literals.ensures.0)) k.new.atoms.nodes k.new.atoms.used
    (rw all at k.ensures.safe.0) (rw all at k.ensures.does) c.label.new.plan (rw all at labelled)
    _ (ap words_of c.gather.ensures.safe.1) (λ b rest x e t. c.gather.ensures.does b rest
    (between-put_mid o.result _ o.new.plan c.label.new.plan 1024 (omega arith) (omega (arith, c.label.ensures.0)) ∙ x) (c.clauses-many.ensures.0 ∙ e) t)
