-- A text is written part by part.
use Rattle.std.specs.Prelude.{◌≡◌, refl, [], ◌++◌, Option, Some, None}
use Rattle.std.proofs.Common.{sym, ◌∙◌, append_assoc, append-nil}
use Rattle.std.specs.Io.KnownBytes.{Appends}
use Rattle.definitions.specs.Bytes.{Bytes}
use Rattle.program.specs.Written.{Written}

appends_none : (o : Option Bytes) → Appends o o []
appends_none None = tt
appends_none (Some x) = sym (append-nil x)

appends_both : (o p q : Option Bytes) (x y : Bytes) → Appends o p x → Appends p q y → Appends o q (x ++ y)
appends_both None p q x y a b = tt
appends_both (Some s) None q x y a b = absurd a
appends_both (Some s) (Some t) None x y a b = absurd b
appends_both (Some s) (Some t) (Some u) x y a b = b ∙ rw a (append_assoc s x y)

pub written_first : (o : Option Bytes) (all : Bytes) → Written o o all all
written_first o all = record { front = []; whole = refl; held = appends_none o }

pub written_more : {o p q : Option Bytes} {rest more all : Bytes} (part : Bytes) → Written o p rest all → rest ≡ part ++ more → Appends p q part → Written o q more all
written_more {o} {p} {q} {rest} {more} {all} part w e a =
    record { front = w.front ++ part; whole = w.whole ∙ rw e (sym (append_assoc w.front part more)); held = appends_both o p q w.front part w.held a }

pub written_done : {o p : Option Bytes} {all : Bytes} → Written o p [] all → Appends o p all
written_done w = rw (w.whole, append-nil w.front) w.held

pub written_all : {o p : Option Bytes} {all part : Bytes} (q : Option Bytes) → Written o p part all → Appends p q part → Appends o q all
written_all {o} {p} {all} {part} q w a = rw w.whole (appends_both o p q w.front part w.held a)
