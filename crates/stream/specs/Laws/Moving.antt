-- What a program that moves the bytes needs of a push: it reads at least one byte of what is left and no more than that, what it prints
-- lies within out, and feeding goes on where it stopped.
use Rattle.std.specs.Prelude.{◌≡◌, refl, false, [], ◌∷◌, ◌++◌, ℕ, ◌≤◌, ◌<◌, ltb, length, take, drop}
use Rattle.std.proofs.Common.{◌∙◌, ap, arith, le-ltb, take_at, length-append, length-drop, drop_of_length-le, drop-drop}
use Rattle.definitions.specs.Bytes.{Bytes}
use Rattle.definitions.specs.Limits.{house, published}
use Rattle.definitions.proofs.Laws.Bools.{by_cases}
use Rattle.stream.specs.declared.Pushed.{Pushed}
use Rattle.stream.specs.Machine.{Machine, Print, at, complete, step, run, print_bytes}
use Rattle.stream.specs.Feeding.{told, through}
use Rattle.stream.specs.Pushing.{Prints, Pushes, print_room}
use Rattle.stream.specs.Laws.Fed.{run_through}

run_some : (m : Machine) (s : Bytes) → 0 < length s → 0 < (run m s).read
unfolding run
run_some m [] h = absurd (omega arith)
run_some m (b ∷ s) h = by_cases (complete m.state b) (λ t. rw t (omega arith)) (λ f. rw f (omega arith))

run_within : (m : Machine) (s : Bytes) → (run m s).read ≤ length s
unfolding run
run_within m [] = omega arith
run_within m (b ∷ s) = by_cases (complete m.state b) (λ t. rw t (omega arith)) (λ f. rw f (omega (arith, run_within (step m b) s)))

pub prints_within : {p : Print} {out work out' work' : Bytes} {n : ℕ} → Prints p out work n out' work' → length out' ≡ length out → n ≤ length out'
prints_within {p} {out} {work} {out'} {work'} {n} q e =
    by_cases (ltb (length out) print_room)
    (λ t. omega (arith, rw t at q.wrote_is))
    (λ f. let s = print_bytes p (length work) in omega (arith, rw f at q.wrote_is, ap length (rw f at q.out_is), length-append s (drop (length s) out), length-drop (length s) out))

-- where there is room, with the published size for work, it is the whole print
pub prints_told : {p : Print} {out work out' work' : Bytes} {n : ℕ} → Prints p out work n out' work' → print_room ≤ length out → length work ≡ published house → take n out' ≡ told p
prints_told {p} {out} {work} q h w =
    let roomy : ltb (length out) print_room ≡ false = le-ltb (length out) print_room h in
    let s = print_bytes p (length work) in
    rw (rw roomy at q.wrote_is, rw roomy at q.out_is) (take_at s (drop (length s) out) (length s) refl ∙ ap (print_bytes p) w)

module _ {m : Machine} {piece out work kept' out' work' : Bytes} {from : ℕ} {r : Pushed} (p : Pushes m piece from out work r kept' out' work') where
  pub push_moves : from < length piece → from < r.next
  push_moves h = omega (arith, p.next, run_some m (drop from piece) (omega (arith, length-drop from piece)))

  pub push_stays : from ≤ length piece → r.next ≤ length piece
  push_stays h = omega (arith, p.next, run_within m (drop from piece), length-drop from piece)

  -- what a push has printed lies at the front of out
  pub push_writes : print_room ≤ length out → length work ≡ published house
      → (through m (drop from piece)).output ≡ take r.wrote out' ++ (through (at r.state kept') (drop r.next piece)).output
  push_writes h w =
      ap (λ t. t.output) (run_through m (drop from piece))
      ∙ rw (p.machine, p.next, prints_told p.prints h w)
      (ap (λ s. told (run m (drop from piece)).print ++ (through (run m (drop from piece)).machine s).output) (drop-drop (run m (drop from piece)).read from piece))

  pub push_goes_on : (through m (drop from piece)).machine ≡ (through (at r.state kept') (drop r.next piece)).machine
  push_goes_on =
      ap (λ t. t.machine) (run_through m (drop from piece))
      ∙ rw (p.machine, p.next) (ap (λ s. (through (run m (drop from piece)).machine s).machine) (drop-drop (run m (drop from piece)).read from piece))

pub through_none : (m : Machine) (piece : Bytes) (n : ℕ) → length piece ≤ n → (through m (drop n piece)).machine ≡ m
unfolding through
through_none m piece n h = rw (drop_of_length-le piece h)

pub through_silent : (m : Machine) (piece : Bytes) (n : ℕ) → length piece ≤ n → (through m (drop n piece)).output ≡ []
unfolding through
through_silent m piece n h = rw (drop_of_length-le piece h)
