-- Feeding the machine: the input comes in pieces, and what is printed for them all, and at the end, is one text. Laws/Fed.antt proves
-- that it is what the file program prints for the bytes of all the pieces, however they were cut.
use Rattle.std.specs.Prelude.{cond, List, [], ◌∷◌, ◌++◌}
use Rattle.definitions.specs.Bytes.{Bytes}
use Rattle.definitions.specs.Limits.{house, published}
use Rattle.stream.specs.Machine.{Machine, Print, first_line, complete, step, due_print, last_print, opened, print_bytes}

-- the machine before the first byte
abbrev pub begun : Bytes → Machine
begun kept = record { state = first_line 0; kept = kept }

-- with the published size for work
abbrev pub told : Print → Bytes
told p = print_bytes p (published house)

-- Feeding. A piece is run through: each time that something is printed the run goes on behind that byte.
pub record Through : Type 0 where
  pub machine : Machine
  pub output : Bytes

abbrev pub behind : Bytes → Through → Through
behind o t = record { machine = t.machine; output = o ++ t.output }

unfoldable pub through : Machine → Bytes → Through
through m [] = record { machine = m; output = [] }
through m (b ∷ s) = cond (complete m.state b) (behind (told (due_print m)) (through (opened m) s)) (through (step m b) s)

-- pieces, one after another, and then the end of the input
unfoldable pub fed : Machine → List Bytes → Bytes
fed m [] = told (last_print m)
fed m (p ∷ ps) = (through m p).output ++ fed (through m p).machine ps

unfoldable pub joined : List Bytes → Bytes
joined [] = []
joined (p ∷ ps) = p ++ joined ps

-- all that a machine prints for the bytes that are still to come
unfoldable pub streams : Machine → Bytes → Bytes
streams m [] = told (last_print m)
streams m (b ∷ s) = cond (complete m.state b) (told (due_print m) ++ streams (opened m) s) (streams (step m b) s)
