-- `Source::reduce`, `opposite`, `joined` and `block` meet their contracts: parts first, then the node. What is left of the words falls with
-- each call of `reduce`.
use Rattle.std.proofs.Common.{arith, rules, refl, sym, ◌∙◌, []}
use Rattle.definitions.specs.Syntax.{count, nil}
use Rattle.definitions.specs.Simplify.{simplify}
use Rattle.text.specs.Words.{sign, code, terms_code, sides}
use Rattle.text.specs.Shapes.{shaped, shaped_constant, shaped_binary, shaped_block, no_shape}
use Rattle.simplify.proofs.Binding.{small_unmade}
use Rattle.simplify.proofs.Reducing.{at_node, behind, no_node, reduces_as, block_too_long, equation_code, two_sides, turned_safe, joined_safe, joined_reduces, block_safe, block_reduces}
use Rattle.simplify.proofs.Source.+block_joined_opposite_reduce.Goals as goal

pub block-returns-then-many-self-clause-does : goal.block-returns-then-many-self-clause-does
block-returns-then-many-self-clause-does t c = λ q vs f e n. block_too_long (omega arith) c.if-many-self.true vs f n

pub block-returns-clause-safe : goal.block-returns-clause-safe
block-returns-clause-safe t c = block_safe refl (omega arith) c.reduce-next.ensures.safe c.free_among.ensures c.words.ensures c.bind.ensures

pub block-returns-clause-does : goal.block-returns-clause-does
block-returns-clause-does t c =
    λ q vs g e n. block_reduces refl (omega arith) c.reduce-next.ensures.safe c.free_among.ensures c.words.ensures c.bind.ensures (omega arith) q vs g (simplify g) e n (c.reduce-next.ensures.does g)

pub joined-returns-clause-safe : goal.joined-returns-clause-safe
joined-returns-clause-safe t c =
    joined_safe c.args.out.now c.put-first.ensures c.reduce-next.ensures.safe c.reduce-next-2.ensures.safe c.tidy.ensures (small_unmade c.args.kind)

pub joined-returns-clause-does : goal.joined-returns-clause-does
joined-returns-clause-does t c =
    λ o f g e. joined_reduces c.args.out.now c.put-first.ensures c.reduce-next.ensures.safe c.reduce-next-2.ensures.safe c.tidy.ensures o f g (simplify f) (simplify g) (omega arith) e (c.reduce-next.ensures.does f) (c.reduce-next-2.ensures.does g)

pub opposite-returns-clause-safe : goal.opposite-returns-clause-safe
opposite-returns-clause-safe t c = turned_safe c.reduce-next.ensures.safe c.turn.ensures

pub reduce-returns-then-at-self-clause-does : goal.reduce-returns-then-at-self-clause-does
reduce-returns-then-at-self-clause-does t c = no_node c.if-at-self.true

pub reduce-returns-in-Some-Top-clause-does : goal.reduce-returns-in-Some-Top-clause-does
unfolding simplify code terms_code count
reduce-returns-in-Some-Top-clause-does t c =
    at_node (omega arith) (shaped_constant (search rules) (c.copy.ensures.does _ _ (sign 0 0 []) nil refl) (c.copy.ensures.does _ _ (sign 1 0 []) nil refl))

pub reduce-returns-in-Some-Not-clause-does : goal.reduce-returns-in-Some-Not-clause-does
unfolding simplify
reduce-returns-in-Some-Not-clause-does t c = at_node (omega arith) (shaped 2 (search rules) (λ f. behind (omega arith) (c.opposite.ensures.does f)))

pub reduce-returns-in-Some-And-clause-does : goal.reduce-returns-in-Some-And-clause-does
unfolding simplify
reduce-returns-in-Some-And-clause-does t c =
    at_node (omega arith) (shaped_binary (search rules) (search rules) (λ o e f g. behind (omega arith) (c.joined.ensures.does o f g (e ∙ search rules))))

pub reduce-returns-in-Some-Equals-clause-does : goal.reduce-returns-in-Some-Equals-clause-does
reduce-returns-in-Some-Equals-clause-does t c =
    at_node (omega arith) (shaped 7 (search rules) (λ a b. reduces_as (equation_code a b) (c.copy-in-Some-Equals.ensures.does _ _ (sign 7 0 []) (sides a b) (two_sides a b))))

pub reduce-returns-in-Some-All-clause-does : goal.reduce-returns-in-Some-All-clause-does
unfolding simplify
reduce-returns-in-Some-All-clause-does t c =
    at_node (omega arith) (shaped_block (search rules) (search rules) (λ q e vs n f. behind (omega arith) (c.block.ensures.does q vs f (e ∙ search rules) (n ∙ sym c.count.ensures.0))))

pub reduce-returns-in-Some-Predicate-clause-does : goal.reduce-returns-in-Some-Predicate-clause-does
unfolding simplify code
reduce-returns-in-Some-Predicate-clause-does t c =
    at_node (omega arith) (shaped 10 (search rules) (λ p ts n. c.copy-in-Some-Predicate.ensures.does _ _ (sign 10 (count ts) p) ts (n ∙ sym c.count-in-Some-Predicate.ensures.0)))

pub reduce-returns-in-Some-Function-clause-does : goal.reduce-returns-in-Some-Function-clause-does
reduce-returns-in-Some-Function-clause-does t c = at_node (omega arith) (no_shape (search rules))
