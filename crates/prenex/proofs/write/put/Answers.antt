-- One word, if there is room.
use native.Mathlib.Omega.{arith}
use Rattle.prenex.proofs.Appending.{put_extends, put_written}
use Rattle.prenex.proofs.write.put.Goals as goal

pub returns : goal.returns
returns c = (put_extends (omega arith) (omega arith) c.args.word c.requires.1, put_written (omega arith) (omega arith) c.args.word c.requires.1)
