-- What a call from C or Rust promises: an answer in two numbers, and what the lent buffers hold afterwards.
use Rattle.std.specs.Prelude.{◌≡◌, ℕ, length}
use Rattle.definitions.specs.Bytes.{Bytes}
use Rattle.definitions.specs.Limits.{house}
use Rattle.definitions.specs.Convert.{Conversion, answer, out_after, work_after}
use Rattle.convert.specs.Answers.{number_of, place_of}

pub record Calls (c : Conversion) (text out work : Bytes) (number place : ℕ) (out' work' : Bytes) : Type 0 where
  pub numbers : number ≡ number_of (answer house c text (length out) (length work))
  pub places : place ≡ place_of (answer house c text (length out) (length work))
  pub lays : out' ≡ out_after house c text out (length work)
  pub clears : work' ≡ work_after house work
