use native.Mathlib.Omega.{arith}
use Rattle.skolem.proofs.WordLaws.{push_full, push_one}
use Rattle.skolem.proofs.scope.Scope.push.Goals as goal

pub returns-then-self-lt-MOST : goal.returns-then-self-lt-MOST
returns-then-self-lt-MOST c = let s = c.args.self.now in push_one s.words s.used c.args.word (omega arith) (omega arith)

pub returns-else-self-lt-MOST : goal.returns-else-self-lt-MOST
returns-else-self-lt-MOST c = let s = c.args.self.now in push_full s.words s.used c.args.word (omega arith) (omega arith)
