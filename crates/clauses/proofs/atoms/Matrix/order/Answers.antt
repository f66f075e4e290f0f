-- The invariant: the comparison of the two atoms is that of what stands behind the words so far, where `left` terms are due and `same` is the
-- answer if they all are the same.
use native.Mathlib.Omega.{arith}
use mathlib.Core.Path.{◌≡◌, sym, ◌∙◌}
use lib.ListN.{drop, length}
use Rattle.std.proofs.lemmas.List.{length_push}
use Rattle.std.proofs.lemmas.Slice.Zip.{zip_turn, zip_end}
use Rattle.text.specs.Names.{ordering}
use Rattle.text.specs.Words.{tokens}
use Rattle.clauses.proofs.Orderings.{of_both}
use Rattle.clauses.proofs.Tokens.{none_due, one_ends, decided, goes_on}
use Rattle.clauses.proofs.atoms.Matrix.order.Goals as goal

pub returns-then-is_ne : goal.returns-then-is_ne
returns-then-is_ne c =
    let l = c.loop-s in let m = c.args.self in let p = c.in-Some in
    let S = drop c.args.a m.words.now in let R = drop c.args.b m.words.now in
    let z = zip_turn S R l.yielded c.into_iter-s-iterator.result l.s-iterator c.next.new.self c.next.result (rw (c.into_iter-s-iterator.ensures.into_iter_gives, c.zip-s-items.ensures.first, c.iter.ensures.rest, c.from.ensures))
    (rw (c.into_iter-s-iterator.ensures.into_iter_gives, c.zip-s-items.ensures.second.0, c.from-2.ensures)) l.yielded_by
    (p.field-0-0, p.field-0-1) p.is c.next.ensures.steps in
    decided m.spellings.text.now m.spellings.made.now S R (length l.yielded) l.left (ordering l.same) (omega arith) z.0 z.1
    _ _ (z.2 0) (z.3 0) _ c.word_order-order.ensures (sym c.is_ne.ensures ∙ c.if-is_ne.true) ∙ sym l.invariant.1

pub loop-s-preserved : goal.loop-s-preserved
loop-s-preserved c =
    let l = c.loop-s in let m = c.args.self in let p = c.in-Some in
    let S = drop c.args.a m.words.now in let R = drop c.args.b m.words.now in
    let z = zip_turn S R l.yielded c.into_iter-s-iterator.result l.s-iterator c.next.new.self c.next.result (rw (c.into_iter-s-iterator.ensures.into_iter_gives, c.zip-s-items.ensures.first, c.iter.ensures.rest, c.from.ensures))
    (rw (c.into_iter-s-iterator.ensures.into_iter_gives, c.zip-s-items.ensures.second.0, c.from-2.ensures)) l.yielded_by
    (p.field-0-0, p.field-0-1) p.is c.next.ensures.steps in
    let more = length_push l.yielded (p.field-0-0, p.field-0-1) in (
      omega (arith, more),
      rw more (l.invariant.1 ∙ goes_on m.spellings.text.now m.spellings.made.now S R (length l.yielded) l.left (ordering l.same) (omega arith) z.0 z.1
          _ _ (z.2 0) (z.3 0) _ c.word_order-order.ensures _ _ _ (ordering c.then-same.result) (sym c.is_ne.ensures ∙ c.if-is_ne.false) (c.behind-m.ensures.0 _ _)
          (c.behind-n.ensures.0 _ _) c.due-left.ensures.0 (of_both _ _ _ _ _ c.cmp.ensures c.then-same.ensures)),
    )

pub returns-in-None : goal.returns-in-None
returns-in-None c =
    let l = c.loop-s in let m = c.args.self in
    let S = drop c.args.a m.words.now in let R = drop c.args.b m.words.now in
    one_ends m.spellings.text.now m.spellings.made.now S R (length l.yielded) l.left (ordering l.same)
    (zip_end S R l.yielded c.into_iter-s-iterator.result l.s-iterator c.next.new.self c.next.result (rw (c.into_iter-s-iterator.ensures.into_iter_gives, c.zip-s-items.ensures.first, c.iter.ensures.rest, c.from.ensures))
    (rw (c.into_iter-s-iterator.ensures.into_iter_gives, c.zip-s-items.ensures.second.0, c.from-2.ensures)) l.yielded_by c.in-None.is c.next.ensures.steps)
    ∙ sym l.invariant.1

pub returns-then-left-eq0 : goal.returns-then-left-eq0
returns-then-left-eq0 c =
    let l = c.loop-s in let m = c.args.self in let z : l.left ≡ 0 = omega arith in
    sym (l.invariant.1 ∙ rw z (none_due (tokens m.spellings.text.now m.spellings.made.now (drop (length l.yielded) (drop c.args.a m.words.now)))
    (tokens m.spellings.text.now m.spellings.made.now (drop (length l.yielded) (drop c.args.b m.words.now))) (ordering l.same)))
