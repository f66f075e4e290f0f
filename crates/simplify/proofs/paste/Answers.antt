-- `simplify::paste` meets its contract.
use Rattle.std.specs.Prelude.{◌≡◌, ◌+◌, ◌-◌, refl, length}
use Rattle.std.proofs.Common.{arith}
use Rattle.std.proofs.lemmas.Slice.{put_mid-paste}
use Rattle.simplify.proofs.Moving.{pasted}
use Rattle.simplify.proofs.paste.Goals as goal

pub returns : goal.returns
returns c =
    let n = length c.args.words.now in
    let k : n ≡ c.args.at + n - c.args.at = omega arith in
    let whole = c.copy.ensures.whole (omega arith) in
    rw (put_mid-paste c.args.at (c.args.at + n - c.args.at) c.args.out.now c.copy.new.to c.args.words.now n whole k refl) (pasted (omega arith))
