-- A constant beside a part, by the usual laws; two parts behind a binary node's word.
use Rattle.std.specs.Prelude.{◌≡◌, refl, Bool, true, false, List, ◌∷◌, ◌++◌, ℕ, zero, suc, ◌+◌, ◌<◌, ◌≤◌, length, get_or}
use Rattle.std.proofs.Common.{sym, ap, ap₂, ◌∙◌, arith}
use Rattle.std.proofs.Math.Seq.{slice}
use Rattle.std.proofs.lemmas.List.{map-append}
use Rattle.definitions.specs.Syntax.{Op, and, or, imp, iff, Formula, top, bot, pred, eq, neg, bin, blk}
use Rattle.definitions.specs.Simplify.{is_top, is_bot, turn, tidy}
use Rattle.text.specs.Words.{token, tokens, kind_of_word, code, op_kind}
use Rattle.substitution.specs.Slices.{slice_next, slice_split}
use Rattle.simplify.specs.Parts.{usual, settled, Ruled, Becomes, Joins}
use Rattle.simplify.specs.declared.Law.{Law}
use Rattle.simplify.proofs.Roots.{root_kind, rooted, runs_on, top_of, bot_of, no_constant}

-- the law that the code names, for a node known by its kind and a constant known by its kind
pub ruled_law : {kind constant : ℕ} {left : Bool} {r : Law} → Ruled kind constant left r → (o : Op) → op_kind o ≡ kind → (constant ≡ 0 → r ≡ usual o left true) × (constant ≡ 1 → r ≡ usual o left false)
ruled_law s and e = (s.and_top (sym e), s.and_bottom (sym e))
ruled_law s or e = (s.or_top (sym e), s.or_bottom (sym e))
ruled_law s imp e = (s.imp_top (sym e), s.imp_bottom (sym e))
ruled_law s iff e = (s.iff_top (sym e), s.iff_bottom (sym e))

-- `tidy` with a constant on one side is what the usual laws say
pub constant_left : (o : Op) (g : Formula) → (tidy o top g ≡ settled (usual o true true) g) × (tidy o bot g ≡ settled (usual o true false) g)
unfolding tidy settled is_top is_bot turn
constant_left and top = (refl, refl)
constant_left and bot = (refl, refl)
constant_left and (pred p ts) = (refl, refl)
constant_left and (eq t u) = (refl, refl)
constant_left and (neg f) = (refl, refl)
constant_left and (bin o f g) = (refl, refl)
constant_left and (blk q vs f) = (refl, refl)
constant_left or top = (refl, refl)
constant_left or bot = (refl, refl)
constant_left or (pred p ts) = (refl, refl)
constant_left or (eq t u) = (refl, refl)
constant_left or (neg f) = (refl, refl)
constant_left or (bin o f g) = (refl, refl)
constant_left or (blk q vs f) = (refl, refl)
constant_left imp top = (refl, refl)
constant_left imp bot = (refl, refl)
constant_left imp (pred p ts) = (refl, refl)
constant_left imp (eq t u) = (refl, refl)
constant_left imp (neg f) = (refl, refl)
constant_left imp (bin o f g) = (refl, refl)
constant_left imp (blk q vs f) = (refl, refl)
constant_left iff top = (refl, refl)
constant_left iff bot = (refl, refl)
constant_left iff (pred p ts) = (refl, refl)
constant_left iff (eq t u) = (refl, refl)
constant_left iff (neg f) = (refl, refl)
constant_left iff (bin o f g) = (refl, refl)
constant_left iff (blk q vs f) = (refl, refl)

pub constant_right : (o : Op) (f : Formula) → (is_top f ≡ false) × (is_bot f ≡ false) → (tidy o f top ≡ settled (usual o false true) f) × (tidy o f bot ≡ settled (usual o false false) f)
unfolding tidy settled is_top is_bot
constant_right and f n = (rw (n.1, n.0), rw n.1)
constant_right or f n = (rw n.0, rw (n.0, n.1))
constant_right imp f n = (rw n.1, rw (n.1, n.0))
constant_right iff f n = (rw n.0, rw (n.0, n.1))

no_constants : (o : Op) (f g : Formula) → (is_top f ≡ false) × (is_bot f ≡ false) → (is_top g ≡ false) × (is_bot g ≡ false) → tidy o f g ≡ bin o f g
unfolding tidy
no_constants and f g a b = rw (a.1, b.1, a.0, b.0)
no_constants or f g a b = rw (a.0, b.0, a.1, b.1)
no_constants imp f g a b = rw (a.1, b.0, a.0, b.1)
no_constants iff f g a b = rw (a.0, b.0, a.1, b.1)

zero_or_one : {A : Type 0} (n : ℕ) → n ≤ 1 → (n ≡ 0 → A) → (n ≡ 1 → A) → A
zero_or_one zero h a b = a refl
zero_or_one (suc zero) h a b = b refl
zero_or_one (suc (suc n)) h a b = absurd (omega arith)

module _ {O : List ℕ} {kind at middle end : ℕ} (h : at < middle) (l : middle ≤ end) (inside : end ≤ length O) where
  pub joins_left : {constant : ℕ} {law : Law} {O' : List ℕ} {r : ℕ} → (kind_of_word (get_or O (at + 1) 0) ≡ constant) × (constant ≤ 1) → Ruled kind constant true law → Becomes O at middle end O' r (settled law) → Joins O kind at middle end O' r
  joins_left {constant} {law} k s b = record { keeps = b.keeps; short = b.short; formula = λ T M o f g e _ x y. b.formula T M g y ∙ ap code (is o f g e (rooted T M O (at + 1) middle f (omega arith) x).kind) }
    where
      is : (o : Op) (f g : Formula) → op_kind o ≡ kind → kind_of_word (get_or O (at + 1) 0) ≡ root_kind f → settled law g ≡ tidy o f g
      is o f g e w =
          zero_or_one constant k.1
          (λ z. ap (λ (m : Law). settled m g) ((ruled_law s o e).0 z) ∙ sym (ap (λ (x : Formula). tidy o x g) (top_of f (sym w ∙ k.0 ∙ z)) ∙ (constant_left o g).0))
          (λ z. ap (λ (m : Law). settled m g) ((ruled_law s o e).1 z) ∙ sym (ap (λ (x : Formula). tidy o x g) (bot_of f (sym w ∙ k.0 ∙ z)) ∙ (constant_left o g).1))

  pub joins_right : {constant : ℕ} {law : Law} {O' : List ℕ} {r : ℕ} → 1 < kind_of_word (get_or O (at + 1) 0) → (kind_of_word (get_or O middle 0) ≡ constant) × (constant ≤ 1) → Ruled kind constant false law
      → Becomes O at (at + 1) middle O' r (settled law) → Joins O kind at middle end O' r
  joins_right {constant} {law} n k s b =
      record {
        keeps = b.keeps;
        short = omega (arith, b.short);
        formula = λ T M o f g e _ x y. b.formula T M f x ∙ ap code (is o f g e (rooted T M O (at + 1) middle f (omega arith) x).kind (rooted T M O middle end g (omega arith) y).kind);
      }
    where
      is : (o : Op) (f g : Formula) → op_kind o ≡ kind → kind_of_word (get_or O (at + 1) 0) ≡ root_kind f → kind_of_word (get_or O middle 0) ≡ root_kind g → settled law f ≡ tidy o f g
      is o f g e v w =
          let c = constant_right o f (no_constant f (rw v at n)) in
          zero_or_one constant k.1
          (λ z. ap (λ (m : Law). settled m f) ((ruled_law s o e).0 z) ∙ sym (ap (tidy o f) (top_of g (sym w ∙ k.0 ∙ z)) ∙ c.0))
          (λ z. ap (λ (m : Law). settled m f) ((ruled_law s o e).1 z) ∙ sym (ap (tidy o f) (bot_of g (sym w ∙ k.0 ∙ z)) ∙ c.1))

  pub joins_both : 1 < kind_of_word (get_or O (at + 1) 0) → 1 < kind_of_word (get_or O middle 0) → Joins O kind at middle end O end
  unfolding code
  joins_both n k =
      record {
        keeps = record { size = refl; kept = refl; more = omega arith; origin = λ s o. o };
        short = omega arith;
        formula = λ T M o f g e t x y.
            ap (tokens T M) (slice_next at end O 0 (omega arith) (omega arith) ∙ ap (λ (w : List ℕ). get_or O at 0 ∷ w) (slice_split (at + 1) middle end O (omega arith) l (omega arith)))
            ∙ ap₂ (◌∷◌) t (map-append (token T M) (slice (at + 1) middle O) (slice middle end O) ∙ ap₂ (◌++◌) x y)
            ∙ ap code (sym (no_constants o f g (no_constant f (rw (rooted T M O (at + 1) middle f (omega arith) x).kind at n)) (no_constant g (rw (rooted T M O middle end g (omega arith) y).kind at k))));
      }

  pub joins_nothing : end ≤ middle → Joins O kind at middle end O end
  joins_nothing k =
      record {
        keeps = record { size = refl; kept = refl; more = omega arith; origin = λ s o. o };
        short = omega arith;
        formula = λ T M o f g e t x y. absurd (omega (arith, runs_on T M O middle end g y));
      }
