-- The promises of the two functions that a program calls: a push reads on in a piece until something is printed or the piece ends, and
-- finish prints what is left at the end of the input. What they print lies at the front of out, and out's old bytes behind it.
use Rattle.std.specs.Prelude.{◌≡◌, cond, ◌++◌, ℕ, ◌+◌, ltb, length, drop}
use Rattle.definitions.specs.Bytes.{Bytes}
use Rattle.writer.specs.Writer.{Wrote}
use Rattle.stream.specs.declared.Pushed.{Pushed}
use Rattle.stream.specs.Machine.{Machine, Print, print_bytes, print_work, run, at}

-- what has to be lent for out: a rule line of at most 30 bytes, and the 65,536 for a result
abbrev pub print_room : ℕ
print_room = 65566

-- where out is shorter nothing is printed
pub record Prints (p : Print) (out work : Bytes) (wrote : ℕ) (out' work' : Bytes) : Type 0 where
  pub wrote_is : wrote ≡ cond (ltb (length out) print_room) 0 (length (print_bytes p (length work)))
  pub out_is : out' ≡ cond (ltb (length out) print_room) out (print_bytes p (length work) ++ drop (length (print_bytes p (length work))) out)
  pub work_is : work' ≡ cond (ltb (length out) print_room) work (print_work p work)

-- a print at the front of out, where there is room
pub record Put (p : Print) (out work : Bytes) (wrote : ℕ) (out' work' : Bytes) : Type 0 where
  pub wrote_is : Wrote out 0 (print_bytes p (length work)) out' wrote
  pub work_is : work' ≡ print_work p work

-- A push: the machine has run over the bytes of the piece from `from` on, until something was printed.
pub record Pushes (m : Machine) (piece : Bytes) (from : ℕ) (out work : Bytes) (r : Pushed) (kept' out' work' : Bytes) : Type 0 where
  pub machine : at r.state kept' ≡ (run m (drop from piece)).machine
  pub next : r.next ≡ from + (run m (drop from piece)).read
  pub prints : Prints (run m (drop from piece)).print out work r.wrote out' work'
