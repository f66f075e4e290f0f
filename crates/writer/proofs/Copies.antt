-- A part of a slice that a run is copied over: it stands between what was before and behind it.
use native.Mathlib.Omega.{arith}
use mathlib.Core.Path.{◌≡◌, refl}
use Prim.Native.Nat.{ℕ, ◌+◌, ◌≤◌}
use lib.ListN.{length, length-append, length-take, length-drop}
use borrow.Rule.Slice.PartMut.{put_mid}
use Rattle.std.proofs.lemmas.Slice.{take-put_mid, drop-put_mid}
use Rattle.definitions.specs.Bytes.{Bytes}
use Rattle.writer.specs.Writer.{Wrote, Puts}
use Rattle.writer.specs.PutLaws.{puts}

wrote_part : (o s : Bytes) (at k : ℕ) → k ≡ length s → at + length s ≤ length o → Wrote o at s (put_mid at k o s) (at + length s)
wrote_part o s at k e h =
    record {
      ends = refl;
      front = take-put_mid at k o s (at + length s) refl (omega arith);
      back = drop-put_mid at k o s (at + length s) (omega arith) (omega arith) (omega arith);
      size = simp (length-append, length-take, length-drop) (omega arith);
    }

pub puts_part : (o s : Bytes) (at k : ℕ) (l : Bytes) → l ≡ s → k ≡ length s → at + length s ≤ length o → Puts o at s (put_mid at k o l) (at + length s)
puts_part o s at k l d e h = rw d (puts h (wrote_part o s at k e h))
