use Rattle.clauses.proofs.set.Set.empty.Goals as goal

pub returns : goal.returns
returns c = rw c.empty.ensures
