-- The loop of a push: what it has still to do is what the run from the piece's start has, so the two come to one end.
use mathlib.Core.Path.{◌≡◌, refl, sym, ◌∙◌, ap}
use mathlib.Core.Bool.{true, false}
use mathlib.Core.List.{◌∷◌}
use Prim.Native.Nat.{ℕ, ◌+◌, ◌≤◌, ◌<◌, max}
use native.Mathlib.Numerals.{add-one}
use native.Mathlib.Omega.{arith}
use lib.Dec.{leb}
use borrow.Author.Tests.{leb-true, leb-false}
use Rattle.definitions.proofs.Laws.Bools.{by_cases}
use lib.ListN.{length, drop, get_or, drop_of_length-le}
use lib.Seq.{drop-cons}
use Rattle.definitions.specs.Bytes.{Bytes}
use Rattle.stream.specs.declared.machine.State.{State}
use Rattle.stream.specs.Machine.{Machine, at, mode, complete, opened, step, run, due_print}
use Rattle.stream.specs.Pushing.{Prints, Pushes}
use Rattle.stream.proofs.PrintLaws.{prints_nothing}

pub record Running (m : Machine) (piece : Bytes) (from : ℕ) (s : State) (kept : Bytes) (i : ℕ) : Type 0 where
  pub machine : (run m (drop from piece)).machine ≡ (run (at s kept) (drop i piece)).machine
  pub read : from + (run m (drop from piece)).read ≡ i + (run (at s kept) (drop i piece)).read
  pub print : (run m (drop from piece)).print ≡ (run (at s kept) (drop i piece)).print

pub running_first : (s : State) (piece : Bytes) (from : ℕ) (kept : Bytes) → Running (at s kept) piece from s kept from
running_first s piece from kept = record { machine = refl; read = refl; print = refl }

module _ {m : Machine} {piece : Bytes} {from : ℕ} {s : State} {kept : Bytes} {i : ℕ} (r : Running m piece from s kept i) where
  next_byte : i < length piece → drop i piece ≡ get_or piece i 0 ∷ drop (i + 1) piece
  next_byte l = drop-cons piece i 0 l ∙ ap (λ n. get_or piece i 0 ∷ drop n piece) (sym (add-one i))

  pub running_step : {s' : State} {kept' : Bytes} → i < length piece → complete (mode s) (get_or piece i 0) ≡ false → at s' kept' ≡ step (at s kept) (get_or piece i 0)
      → Running m piece from s' kept' (i + 1)
  unfolding run
  running_step l g h = record {
    machine = rw h (rw (next_byte l, g) at r.machine);
    read = rw h (omega (arith, rw (next_byte l, g) at r.read));
    print = rw h (rw (next_byte l, g) at r.print);
  }

  pub running_ends : (out work : Bytes) (n : ℕ) → length piece ≤ i → n ≡ max from (length piece) → (from ≤ length piece → i ≤ length piece)
      → Pushes m piece from out work (record { state = s; next = n; wrote = 0 }) kept out work
  unfolding run
  running_ends out work n l e most =
      let none = drop_of_length-le piece l in
      record {
        machine = sym (rw none at r.machine);
        next = by_cases (leb from (length piece))
            (λ t. omega (arith, most (leb-true from (length piece) t), rw none at r.read))
            (λ f. let past : length piece ≤ from = omega (arith, leb-false from (length piece) f) in omega (arith, rw none at r.read, rw (drop_of_length-le piece past) at r.read));
        prints = rw (rw none at r.print) (prints_nothing out work);
      }

  pub running_prints : {out work out' work' : Bytes} {s' : State} {n : ℕ} → i < length piece → complete (mode s) (get_or piece i 0) ≡ true
      → Prints (due_print (at s kept)) out work n out' work' → at s' kept ≡ opened (at s kept)
      → Pushes m piece from out work (record { state = s'; next = i + 1; wrote = n }) kept out' work'
  unfolding run
  running_prints l g p q = record {
    machine = q ∙ sym (rw (next_byte l, g) at r.machine);
    next = omega (arith, rw (next_byte l, g) at r.read);
    prints = rw (rw (next_byte l, g) at r.print) p;
  }
