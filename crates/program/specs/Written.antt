-- What a writer was given of a text that is to be written: the writer holds a first part, and `rest` is still to come. Of a writer whose
-- bytes are not known nothing is said.
use Rattle.std.specs.Prelude.{◌≡◌, ◌++◌, Option}
use Rattle.std.specs.Io.KnownBytes.{Appends}
use Rattle.definitions.specs.Bytes.{Bytes}

pub record Written (old now : Option Bytes) (rest all : Bytes) : Type 0 where
  pub front : Bytes
  pub whole : all ≡ front ++ rest
  pub held : Appends old now front
