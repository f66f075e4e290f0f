-- The parts one behind another, in the order in which `body` has them: the keyword, then the name, then the count.
use native.Mathlib.Omega.{arith}
use mathlib.Core.Path.{◌≡◌, ap}
use mathlib.Core.List.{◌++◌}
use Prim.Native.Nat.{ℕ, ◌+◌, ◌≤◌}
use lib.ListN.{length, length-append}
use Rattle.definitions.specs.Bytes.{Bytes}
use Rattle.writer.specs.Writer.{Wrote, Puts}
use Rattle.writer.specs.PutLaws.{wrote_both, head_room, rest_room}
use Rattle.writer.proofs.Tokens.{body_due, body_unknown, body_plain, body_counted, body_named}
use Rattle.writer.proofs.put_body.Goals as goal

-- what is put first, and the room behind it
module _ {b first o o₁ : Bytes} {at n : ℕ} (rest : Bytes) (e : b ≡ first ++ rest) (room : at + length b ≤ length o) (p : Puts o at first o₁ n) where
  begun : Wrote o at first o₁ n
  begun = p.room (head_room at first rest (rw e at room))

  behind : n + length rest ≤ length o₁
  behind = rest_room rest (rw e at room) begun

  whole : {o₂ : Bytes} {m : ℕ} → Wrote o₁ n rest o₂ m → Wrote o at b o₂ m
  whole w = rw e (wrote_both begun w)

pub put_name-requires : goal.put_name-requires
put_name-requires c =
    let a = c.args in
    omega (arith, ap length (body_due a.spellings a.word a.left c.if-left-gt0.true))

pub returns-then-left-gt0 : goal.returns-then-left-gt0
returns-then-left-gt0 c =
    let a = c.args in
    rw (body_due a.spellings a.word a.left c.if-left-gt0.true) c.put_name.ensures

pub put_name-requires-in_default : goal.put_name-requires-in_default
put_name-requires-in_default c =
    let a = c.args in
    omega (arith, ap length (body_unknown a.spellings a.word a.left c.if-left-gt0.false c.in_default.ensures))

pub returns-in_default : goal.returns-in_default
returns-in_default c =
    let a = c.args in
    rw (body_unknown a.spellings a.word a.left c.if-left-gt0.false c.in_default.ensures) c.put_name-in_default.ensures

pub put_name-named-requires : goal.put_name-named-requires
put_name-named-requires c =
    let a = c.args in
    let e = body_counted a.spellings a.word a.left c.if-left-gt0.false c.in-Some.ensures c.keyword.ensures.0 c.in-Predicate.is in
    let room = simp length-append at (behind _ e c.requires c.put_run-next.ensures) in
    omega arith

pub put_count-requires : goal.put_count-requires
put_count-requires c =
    let a = c.args in
    let e = body_counted a.spellings a.word a.left c.if-left-gt0.false c.in-Some.ensures c.keyword.ensures.0 c.in-Predicate.is in
    rw c.count.ensures.0 (rest_room _ (behind _ e c.requires c.put_run-next.ensures) c.put_name-named.ensures)

pub put_name-requires-in-Variable : goal.put_name-requires-in-Variable
put_name-requires-in-Variable c =
    let a = c.args in
    let e = body_named a.spellings a.word a.left c.if-left-gt0.false c.in-Some.ensures c.keyword.ensures.0 c.in-Variable.is in
    behind _ e c.requires c.put_run-next.ensures

pub returns-in-Predicate : goal.returns-in-Predicate
returns-in-Predicate c =
    let a = c.args in
    let e = body_counted a.spellings a.word a.left c.if-left-gt0.false c.in-Some.ensures c.keyword.ensures.0 c.in-Predicate.is in
    whole _ e c.requires c.put_run-next.ensures (wrote_both c.put_name-named.ensures (rw c.count.ensures.0 at c.put_count.ensures))

pub returns-in-Variable : goal.returns-in-Variable
returns-in-Variable c =
    let a = c.args in
    let e = body_named a.spellings a.word a.left c.if-left-gt0.false c.in-Some.ensures c.keyword.ensures.0 c.in-Variable.is in
    whole _ e c.requires c.put_run-next.ensures c.put_name-in-Variable.ensures

pub returns-in_default-kind : goal.returns-in_default-kind
returns-in_default-kind c =
    let a = c.args in
    let n = c.in_default-kind in
    let e = body_plain a.spellings a.word a.left c.if-left-gt0.false c.in-Some.ensures c.keyword.ensures.0
    n.not-Predicate n.not-Function n.not-Variable n.not-Constant in
    rw e (c.put_run-next.ensures.room (omega (arith, ap length e)))
