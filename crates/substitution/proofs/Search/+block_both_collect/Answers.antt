-- `Search::collect`, `both` and `block` meet their contracts: the run at a node is the run below it. What is left of the words falls with
-- each call of `collect`.
use Rattle.std.proofs.Common.{arith, rules, sym, ◌∙◌}
use Rattle.definitions.specs.Names.{free}
use Rattle.text.specs.Shapes.{shaped, shaped_constant, shaped_binary, shaped_block, no_shape}
use Rattle.substitution.specs.Keeping.{keeps_on}
use Rattle.substitution.proofs.Collecting.{collects_none, collects_on, at_node, no_node, two_sides, block_past, block_collects}
use Rattle.substitution.proofs.Search.+block_both_collect.Goals as goal

pub block-returns-then-many-self-clause-does : goal.block-returns-then-many-self-clause-does
block-returns-then-many-self-clause-does t c = block_past (omega arith) c.if-many-self.true

pub block-returns-clause-does : goal.block-returns-clause-does
block-returns-clause-does t c =
    λ vs f h. block_collects c.args.many (omega arith) c.collect-next.ensures.safe c.sift.ensures vs f h (c.collect-next.ensures.does f)

pub both-returns-clause-safe : goal.both-returns-clause-safe
both-returns-clause-safe t c = let a = c.collect-middle.ensures.safe in let b = c.collect.ensures.safe in
    record { keeps = keeps_on a.keeps b.keeps; forth = omega (arith, a.forth, b.forth); inside = b.inside; room = b.room }

pub both-returns-clause-does : goal.both-returns-clause-does
both-returns-clause-does t c = λ a b. collects_on (c.collect-middle.ensures.does a) (c.collect.ensures.does b)

pub collect-returns-then-at-self-clause-does : goal.collect-returns-then-at-self-clause-does
collect-returns-then-at-self-clause-does t c = no_node c.if-at-self.true

pub collect-returns-in-Some-Not-clause-does : goal.collect-returns-in-Some-Not-clause-does
unfolding free
collect-returns-in-Some-Not-clause-does t c = at_node (omega arith) (shaped 2 (search rules) c.collect.ensures.does)

pub collect-returns-in-Some-And-clause-does : goal.collect-returns-in-Some-And-clause-does
unfolding free
collect-returns-in-Some-And-clause-does t c =
    at_node (omega arith) (shaped_binary (search rules) (search rules) (λ o e. c.both.ensures.does))

pub collect-returns-in-Some-Equals-clause-does : goal.collect-returns-in-Some-Equals-clause-does
unfolding free
collect-returns-in-Some-Equals-clause-does t c = at_node (omega arith) (shaped 7 (search rules) (two_sides c.terms.ensures.does))

pub collect-returns-in-Some-All-clause-does : goal.collect-returns-in-Some-All-clause-does
unfolding free
collect-returns-in-Some-All-clause-does t c =
    at_node (omega arith) (shaped_block (search rules) (search rules) (λ q e vs h a. c.block.ensures.does vs a (h ∙ sym c.count.ensures.0)))

pub collect-returns-in-Some-Predicate-clause-does : goal.collect-returns-in-Some-Predicate-clause-does
unfolding free
collect-returns-in-Some-Predicate-clause-does t c =
    at_node (omega arith) (shaped 10 (search rules) (λ p ts h. c.terms-in-Some-Predicate.ensures.does ts (h ∙ sym c.count-in-Some-Predicate.ensures.0)))

pub collect-returns-in-Some-Top-clause-does : goal.collect-returns-in-Some-Top-clause-does
unfolding free
collect-returns-in-Some-Top-clause-does t c = at_node (omega arith) (shaped_constant (search rules) collects_none collects_none)

pub collect-returns-in-Some-Function-clause-does : goal.collect-returns-in-Some-Function-clause-does
collect-returns-in-Some-Function-clause-does t c = at_node (omega arith) (no_shape (search rules))

pub collect-returns-in-Some-Function-2-clause-does : goal.collect-returns-in-Some-Function-2-clause-does
collect-returns-in-Some-Function-2-clause-does t c = at_node (omega arith) (no_shape (search rules))
