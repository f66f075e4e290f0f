-- Three runs of bytes, one behind another.
use Rattle.stream.proofs.PrintLaws.{line_put}
use Rattle.stream.proofs.print.put_line.Goals as goal

pub returns : goal.returns
returns c = line_put c.requires c.put_run-behind.ensures c.put_run-end.ensures c.put_byte.ensures
