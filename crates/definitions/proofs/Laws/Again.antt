-- Simplifying again changes nothing; so the Rust's second calls (`this.formula.simplify()`, `FOF::not(left).simplify()`) give what `turn` gives.
use Rattle.std.specs.Prelude.{◌≡◌, refl, Bool, true, false, cond, List, [], ◌∷◌}
use Rattle.std.proofs.Common.{◌∙◌, ap, ap₂}
use Rattle.definitions.specs.Bytes.{same}
use Rattle.definitions.specs.Syntax.{Formula, Name, Op, Quant, and, bin, blk, bot, eq, iff, imp, neg, or, pred, top}
use Rattle.definitions.specs.Names.{filter, free, keep, mem}
use Rattle.definitions.specs.Simplify.{is_bot, is_top, over_kept, simplify, tidy, turn}
use Rattle.definitions.proofs.Laws.Bools.{clash, or_right}
use Rattle.definitions.proofs.Laws.Sets.{mem_filter, mem_head}

abbrev is_neg : Formula → Bool
is_neg top = false
is_neg bot = false
is_neg (pred p ts) = false
is_neg (eq t u) = false
is_neg (neg f) = true
is_neg (bin o f g) = false
is_neg (blk q vs f) = false

-- neither top nor bottom
pub Open : Formula → Type 0
Open f = (is_top f ≡ false) × (is_bot f ≡ false)

pub Simple : Formula → Type 0
Simple top = Unit {0}
Simple bot = Unit {0}
Simple (pred p ts) = Unit {0}
Simple (eq t u) = Unit {0}
Simple (neg f) = Simple f × Open f × (is_neg f ≡ false)
Simple (bin o f g) = Simple f × Simple g × Open f × Open g
Simple (blk q [] f) = ⊥
Simple (blk q (x ∷ vs) f) = Simple f × (keep (x ∷ vs) (free f) ≡ x ∷ vs)

filter_same : (p q : Name → Bool) (l : List Name) → ((x : Name) → mem x l ≡ true → p x ≡ q x) → filter p l ≡ filter q l
unfolding filter mem
filter_same p q [] h = refl
filter_same p q (x ∷ l) h =
    rw (h x (mem_head x l), filter_same p q l (λ y m. h y (or_right (same y x) (mem y l) m)))

keep_again : (vs l : List Name) → keep (keep vs l) l ≡ keep vs l
keep_again vs l = filter_same (λ x. mem x (keep vs l)) (λ x. mem x vs) l (λ x m. mem_filter x (λ y. mem y vs) l ∙ rw m)

turn_simple : (f : Formula) → Simple f → Simple (turn f)
unfolding Simple Open turn is_top is_bot
turn_simple top s = tt
turn_simple bot s = tt
turn_simple (pred p ts) s = (tt, (refl, refl), refl)
turn_simple (eq t u) s = (tt, (refl, refl), refl)
turn_simple (neg f) s = s.0
turn_simple (bin o f g) s = (s, (refl, refl), refl)
turn_simple (blk q vs f) s = (s, (refl, refl), refl)

pick : (b : Bool) (f g : Formula) → (b ≡ true → Simple f) → (b ≡ false → Simple g) → Simple (cond b f g)
pick true f g p q = p refl
pick false f g p q = q refl

tidy_simple : (o : Op) (f g : Formula) → Simple f → Simple g → Simple (tidy o f g)
unfolding Simple Open tidy
tidy_simple and f g s t =
    pick (is_bot f) _ _ (λ _. tt) (λ a. pick (is_bot g) _ _ (λ _. tt) (λ b. pick (is_top f) _ _ (λ _. t) (λ c. pick (is_top g) _ _ (λ _. s) (λ d. (s, t, (c, a), (d, b))))))
tidy_simple or f g s t =
    pick (is_top f) _ _ (λ _. tt) (λ a. pick (is_top g) _ _ (λ _. tt) (λ b. pick (is_bot f) _ _ (λ _. t) (λ c. pick (is_bot g) _ _ (λ _. s) (λ d. (s, t, (a, c), (b, d))))))
tidy_simple imp f g s t =
    pick (is_bot f) _ _ (λ _. tt) (λ a. pick (is_top g) _ _ (λ _. tt) (λ b. pick (is_top f) _ _ (λ _. t) (λ c. pick (is_bot g) _ _ (λ _. turn_simple f s) (λ d. (s, t, (c, a), (b, d))))))
tidy_simple iff f g s t =
    pick (is_top f) _ _ (λ _. t) (λ a. pick (is_top g) _ _ (λ _. s) (λ b. pick (is_bot f) _ _ (λ _. turn_simple g t) (λ c. pick (is_bot g) _ _ (λ _. turn_simple f s) (λ d. (s, t, (a, c), (b, d))))))

kept_simple : (q : Quant) (vs : List Name) (f : Formula) → Simple f → keep vs (free f) ≡ vs → Simple (over_kept q vs f)
unfolding Simple over_kept
kept_simple q [] f s e = s
kept_simple q (x ∷ vs) f s e = (s, e)

pub simplify_simple : (f : Formula) → Simple (simplify f)
unfolding Simple simplify
simplify_simple top = tt
simplify_simple bot = tt
simplify_simple (pred p ts) = tt
simplify_simple (eq t u) = tt
simplify_simple (neg f) = turn_simple (simplify f) (simplify_simple f)
simplify_simple (bin o f g) = tidy_simple o (simplify f) (simplify g) (simplify_simple f) (simplify_simple g)
simplify_simple (blk q vs f) = kept_simple q (keep vs (free (simplify f))) (simplify f) (simplify_simple f) (keep_again vs (free (simplify f)))

turn_open : (f : Formula) → Open f → is_neg f ≡ false → turn f ≡ neg f
unfolding Open turn is_top is_bot
turn_open top o n = clash refl o.0
turn_open bot o n = clash refl o.1
turn_open (pred p ts) o n = refl
turn_open (eq t u) o n = refl
turn_open (neg f) o n = clash refl n
turn_open (bin o f g) _ n = refl
turn_open (blk q vs f) o n = refl

tidy_open : (o : Op) (f g : Formula) → Open f → Open g → tidy o f g ≡ bin o f g
unfolding Open tidy
tidy_open and f g a b = rw (a.1, b.1, a.0, b.0)
tidy_open or f g a b = rw (a.0, b.0, a.1, b.1)
tidy_open imp f g a b = rw (a.1, b.0, a.0, b.1)
tidy_open iff f g a b = rw (a.0, b.0, a.1, b.1)

pub simple_fixed : (f : Formula) → Simple f → simplify f ≡ f
unfolding Simple simplify over_kept
simple_fixed top s = refl
simple_fixed bot s = refl
simple_fixed (pred p ts) s = refl
simple_fixed (eq t u) s = refl
simple_fixed (neg f) s = ap turn (simple_fixed f s.0) ∙ turn_open f s.1 s.2
simple_fixed (bin o f g) s = ap₂ (tidy o) (simple_fixed f s.0) (simple_fixed g s.1) ∙ tidy_open o f g s.2 s.3
simple_fixed (blk q [] f) s = absurd s
simple_fixed (blk q (x ∷ vs) f) s = rw (simple_fixed f s.0, s.1)

pub simplify_again : (f : Formula) → simplify (simplify f) ≡ simplify f
simplify_again f = simple_fixed (simplify f) (simplify_simple f)
