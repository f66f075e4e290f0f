-- With room the three pieces stand one behind another, and the word points at them.
use native.Mathlib.Omega.{arith}
use Rattle.skolem.proofs.NamingLaws.{pieces, name_made}
use Rattle.skolem.proofs.heads.name.Goals as goal

pub overflow_mul-word : goal.overflow_mul-word
overflow_mul-word c =
    let w = pieces c.put_byte-hash.ensures c.put_byte-digits.ensures c.put_decimal-end.ensures (omega arith) c.if-number-gt-LAST.false in omega (arith, w.short)

pub overflow_add-word-2 : goal.overflow_add-word-2
overflow_add-word-2 c =
    let w = pieces c.put_byte-hash.ensures c.put_byte-digits.ensures c.put_decimal-end.ensures (omega arith) c.if-number-gt-LAST.false in omega (arith, w.short)

pub overflow_add-word-3 : goal.overflow_add-word-3
overflow_add-word-3 c =
    let w = pieces c.put_byte-hash.ensures c.put_byte-digits.ensures c.put_decimal-end.ensures (omega arith) c.if-number-gt-LAST.false in omega (arith, w.short)

pub returns : goal.returns
returns c =
    name_made (omega arith) (omega arith) c.if-number-gt-LAST.false (pieces c.put_byte-hash.ensures c.put_byte-digits.ensures c.put_decimal-end.ensures (omega arith) c.if-number-gt-LAST.false)
