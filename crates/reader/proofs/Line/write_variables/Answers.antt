-- Between two fields the words that stand in the table are those of the first variables: what is left of the fields is what is left to write.
use Rattle.std.proofs.Common.{◌≡◌, suc, ◌+◌, ◌-◌, length-set, arith}
use Rattle.reader.proofs.Fields.{half_end, field_short, fields_left, variable_more}
use Rattle.reader.proofs.Line.write_variables.Goals as goal

pub word-requires : goal.word-requires
word-requires c =
    let l = c.loop-n in
    let f = c.find-end.ensures in
    let z : c.args.table.now.used + c.args.count - l.n ≡ suc (c.args.table.now.used + c.args.count - (l.n + 1)) = omega arith in
    omega (arith, field_short _ l.from _ _ (rw z at l.invariant.left) f.0 (f.1, f.2))

pub loop-n-preserved : goal.loop-n-preserved
loop-n-preserved c =
    let l = c.loop-n in
    let f = c.find-end.ensures in
    let z : c.args.table.now.used + c.args.count - l.n ≡ suc (c.args.table.now.used + c.args.count - (l.n + 1)) = omega arith in
    let k = rw z at l.invariant.left in
    record {
      whole = simp length-set l.invariant.whole;
      left = fields_left _ l.from _ _ k f.0 (f.1, f.2);
      half = λ T ts i x. variable_more _ l.from _ _ k f.0 (f.1, f.2) _ _ l.n _ T _ i (omega arith) (omega arith) c.word.ensures
          (rw z at (l.invariant.half T ts i x));
    }

pub returns-clause-writes : goal.returns-clause-writes
returns-clause-writes c =
    let l = c.loop-n in
    let e : l.n ≡ c.args.table.now.used + c.args.count = omega arith in
    let z : c.args.table.now.used + c.args.count - l.n ≡ 0 = omega arith in
    λ T ts i x. half_end T _ _ (rw (z, e) at (l.invariant.half T ts i x))
