use Rattle.convert.proofs.Shown.{shown}
use Rattle.convert.proofs.stages.show.Goals as goal

pub returns : goal.returns
returns c = λ f h. shown f c.write.ensures c.ok_or.ensures.value h
