use Rattle.std.proofs.Common.{◌≡◌, ◌≤◌, ◌-◌, ◌+◌, length, drop}
use Rattle.definitions.specs.Bytes.{split}
use Rattle.reader.specs.Lines.{block_fits}
use Rattle.reader.proofs.Fields.{fits_after}
use Rattle.reader.proofs.variables.Given as goal

abbrev pub invariant-loop-n : goal.invariant-loop-n
invariant-loop-n l = record {
  inside : l.from ≤ length l.s;
  fits : block_fits (split 9 (drop l.start l.s)) ≡ fits_after (l.n - 1) (split 9 (drop l.from l.s));
  number : length (split 9 (drop l.start l.s)) ≡ l.n - 1 + length (split 9 (drop l.from l.s));
}
