-- Stage 1 keeps the words out of the made names, so stage 2 can have them.
use mathlib.Core.Path.{sym, ◌∙◌}
use mathlib.Core.List.{[], append-nil}
use native.Mathlib.Omega.{arith}
use lib.ListN.{length-take}
use Rattle.definitions.specs.Simplify.{simplify}
use Rattle.text.specs.Words.{code}
use Rattle.convert.proofs.Joining.{unmade_zeros}
use Rattle.convert.proofs.Passed.{as_pnf}
use Rattle.convert.proofs.stages.outward.Goals as goal

pub returns : goal.returns
returns c =
    let p = rw c.words.ensures at c.prenex_into.ensures.stage in
    let s = c.simplify.ensures in
    let t = c.simplify.new.out in
    record {
      size = p.size;
      count = p.count;
      form = λ m f u.
          as_pnf _ _ _ f
          (p.form (omega (arith, m)) (omega (arith, s.room, length-take t.used t.nodes)) c.args.made.now (simplify f) []
          ((s.form u.room f (u.words _)).words ∙ sym (append-nil (code (simplify f))))
          (λ i l. (s.origin u.unmade (rw c.empty-simple.ensures (unmade_zeros 1024))).each i));
    }
