use Rattle.std.proofs.Common.{◌≡◌, ◌-◌, List, ◌++◌, map, length, take}
use Rattle.definitions.specs.Bytes.{Bytes}
use Rattle.text.specs.Words.{Token, var_token}
use Rattle.reader.specs.Lines.{Lies, names_from, Fields}
use Rattle.reader.specs.Levels.{Written}
use Rattle.reader.proofs.Fields.{Half}
use Rattle.reader.proofs.Line.write_variables.Given as goal

abbrev pub invariant-loop-n : goal.invariant-loop-n
invariant-loop-n l = record {
  whole : length l.table.nodes ≡ 1024;
  left : Fields l.self.bytes.now l.from (l.full - l.n);
  half : (T : Bytes) (ts : List Token) → Lies T l.self.at l.self.bytes.now → Written T l.initial.table ts
      → Half T (take l.n l.table.nodes) (ts ++ map var_token (names_from l.self.bytes.now l.start l.count))
      (map var_token (names_from l.self.bytes.now l.from (l.full - l.n)));
}
