use Rattle.clauses.specs.Ranks.{rank, relabelled}
use Rattle.clauses.specs.Search.{Findable}
use Rattle.clauses.proofs.Collecting.{Mapped}
use Rattle.clauses.proofs.plan.label.Given as goal

abbrev pub invariant-loop-word : goal.invariant-loop-word
invariant-loop-word l =
    Mapped (Findable l.matrix.spellings.text.now l.matrix.spellings.made.now l.matrix.words.now l.atoms)
    (relabelled (rank l.matrix.spellings.text.now l.matrix.spellings.made.now l.matrix.words.now l.atoms)) l.initial.plan l.word-index l.plan
