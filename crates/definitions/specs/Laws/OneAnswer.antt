-- What a call promises leaves one answer: two outcomes that meet the promise are the same; and the versions that document 01 shuts out
-- do not meet it: the one that refuses everything, the one with a constant result, the one that writes nothing, and the one that goes to
-- prenex and copies it onward.
use Rattle.std.specs.Prelude.{◌≡◌, length}
use Rattle.definitions.specs.Bytes.{Bytes}
use Rattle.definitions.specs.Limits.{Limits}
use Rattle.definitions.specs.Convert.{Answer, Conversion, answer, out_after, work_after}

-- what a call leaves behind: its answer, and what the two lent buffers hold
pub record Outcome : Type 0 where
  pub answer : Answer
  pub out : Bytes
  pub work : Bytes

-- the promise of the nine conversions
pub record Meets (L : Limits) (c : Conversion) (text out work : Bytes) (r : Outcome) : Type 0 where
  pub answers : r.answer ≡ answer L c text (length out) (length work)
  pub lays : r.out ≡ out_after L c text out (length work)
  pub clears : r.work ≡ work_after L work
