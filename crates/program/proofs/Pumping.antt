-- Pieces that a source gives are fed one after another: what the sink has gained, and what is still to be printed for the rest.
use Rattle.std.specs.Prelude.{◌≡◌, refl, [], ◌∷◌, ℕ, ◌+◌, ◌<◌, ◌≤◌, length, Option, Some, None}
use Rattle.std.proofs.Common.{◌∙◌, ap, arith, length-append}
use Rattle.std.specs.Io.KnownBytes.{Appends, Consumes, IsAtEnd}
use Rattle.definitions.specs.Bytes.{Bytes}
use Rattle.definitions.specs.Limits.{house}
use Rattle.definitions.specs.Program.{program}
use Rattle.stream.specs.declared.machine.State.{State}
use Rattle.stream.specs.Machine.{Machine, at, mode, first_line, room, last_print}
use Rattle.stream.specs.Feeding.{told, through, streams}
use Rattle.stream.specs.Laws.Fed.{whole_input, streams_through}
use Rattle.program.specs.Written.{Written}
use Rattle.program.proofs.Writing.{written_first, written_more}

-- after so many turns `rest` is left of the input
pub record Pumped (left : Option Bytes) (turn : ℕ) (old now : Option Bytes) (m : Machine) (input : Bytes) : Type 0 where
  pub rest : Bytes
  pub left_is : left ≡ Some rest
  pub fewer : length rest + turn ≤ length input
  pub wrote : Written old now (streams m rest) (program house input)

pub pumped_first : {left : Option Bytes} (o : Option Bytes) (s : State) (kept input : Bytes) → room ≤ length kept → mode s ≡ first_line 0 → left ≡ Some input → Pumped left 0 o o (at s kept) input
pumped_first o s kept input r e l = record {
  rest = input;
  left_is = l;
  fewer = omega arith;
  wrote = rw (e, whole_input kept input r) (written_first o (program house input));
}

pub pumped_more : {left : Option Bytes} {turn : ℕ} {old now next : Option Bytes} {m n : Machine} {input : Bytes} (then : Option Bytes) (part : Bytes) → Pumped left turn old now m input → Consumes left then part → 0 < length part
    → Appends now next (through m part).output → n ≡ (through m part).machine → Pumped then (turn + 1) old next n input
pumped_more {turn = turn} {old} {now} {next} {m} {n} {input} then part p c l a e = go then (rw p.left_is at c)
  where
    go : (then : Option Bytes) → Consumes (Some p.rest) then part → Pumped then (turn + 1) old next n input
    go None c = absurd c
    go (Some ys) c = record {
      rest = ys;
      left_is = refl;
      fewer = omega (arith, p.fewer, ap length c, length-append part ys);
      wrote = written_more (through m part).output p.wrote (rw (c, e) (streams_through m part ys)) a;
    }

-- nothing is left
nothing_left : {old now : Option Bytes} (m : Machine) (input : Bytes) {rest : Bytes} → rest ≡ [] → Written old now (streams m rest) (program house input) → Written old now (told (last_print m)) (program house input)
unfolding streams
nothing_left m input e w = rw e at w

pub pumped_end : {left : Option Bytes} {turn : ℕ} {old now : Option Bytes} {m : Machine} {input : Bytes} (then : Option Bytes) → Pumped left turn old now m input → Consumes left then [] → IsAtEnd then
    → Written old now (told (last_print m)) (program house input)
pumped_end {m = m} {input} then p c e = nothing_left m input (go then (rw p.left_is at c) e) p.wrote
  where
    go : (then : Option Bytes) → Consumes (Some p.rest) then [] → IsAtEnd then → p.rest ≡ []
    go None c e = absurd c
    go (Some ys) c e = c ∙ e

pub pumped_out : {left : Option Bytes} {turn : ℕ} {old now : Option Bytes} {m : Machine} {input : Bytes} → Pumped left turn old now m input → length input ≤ turn → Written old now (told (last_print m)) (program house input)
pumped_out {m = m} {input} p l = nothing_left m input (empty p.rest (omega (arith, p.fewer))) p.wrote
  where
    empty : (s : Bytes) → length s ≤ 0 → s ≡ []
    empty [] h = refl
    empty (b ∷ s) h = absurd (omega arith)
