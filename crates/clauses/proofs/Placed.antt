-- The literals of a plan have their atoms' places: what holds of each place where an atom stands holds of the places in the plan's words.
use mathlib.Core.Path.{◌≡◌, refl, sym, ◌∙◌}
use mathlib.Core.Bool.{Bool, true, false, ◌&&◌}
use mathlib.Core.List.{List, [], ◌∷◌, ◌++◌, append_assoc}
use Prim.Native.Nat.{ℕ, suc, ◌+◌, ◌%◌, ◌<◌, ◌≤◌}
use native.Mathlib.Omega.{arith}
use lib.ListN.{drop}
use Rattle.definitions.specs.Bytes.{Bytes}
use Rattle.definitions.specs.Syntax.{Op, and, or, imp, iff, Quant, all, ex, Formula, top, bot, pred, eq, neg, bin, blk, weight}
use Rattle.definitions.specs.Order.{Atom, rel, same_as}
use Rattle.definitions.specs.Clauses.{atom_formula}
use Rattle.definitions.proofs.Laws.Bools.{clash, and_true_left, and_true_right}
use Rattle.definitions.specs.Laws.Shapes.{is_atom, and_or, negated}
use Rattle.text.specs.Words.{Token, sign, tokens, op_kind, code}
use Rattle.text.specs.Weights.{words_weight}
use Rattle.clauses.specs.Each.{All}
use Rattle.clauses.specs.Plans.{Plan, none, empty, leaf, sum, product, size, form, form_of, number_of, head, words}
use Rattle.clauses.specs.Laying.{constant_plan, both, plan}
use Rattle.clauses.proofs.Planned.{head_form, head_number, some_weight, plan_small}
use Rattle.clauses.proofs.Ranked.{tokens_drop}

all_append : {A : Type 0} (P : A → Type 0) (a b : List A) → All P a → All P b → All P (a ++ b)
unfolding All
all_append P [] b h k = k
all_append P (x ∷ a) b h k = (h.0, all_append P a b h.1 k)

module _ (T M : Bytes) (S : List ℕ) (P : ℕ → Type 0)
    (holds : (i : ℕ) (a : Atom) (x : List Token) → tokens T M (drop i S) ≡ code (atom_formula a) ++ x → P i) where
  abbrev Placed : ℕ → Type 0
  Placed w = form_of w ≡ 1 → P (number_of w % 2048 % 1024)

  no_leaf : (p : Plan) → size p < 2048 → (form p ≡ 1 → ⊥) → Placed (head p)
  no_leaf p s h e = absurd (h (sym (head_form p s) ∙ e))

  one_leaf : (n at : ℕ) → n % 2048 % 1024 ≡ at → P at → All Placed (words (leaf n))
  unfolding All words size
  one_leaf n at z h = (λ e. rw (head_number (leaf n) (omega arith), z) h, tt)

  constant_placed : (q : Quant) (b : Bool) → All Placed (words (constant_plan q b))
  unfolding All words size
  constant_placed all true = (no_leaf none (omega arith) (λ e. omega arith), tt)
  constant_placed all false = (no_leaf empty (omega arith) (λ e. omega arith), tt)
  constant_placed ex true = (no_leaf empty (omega arith) (λ e. omega arith), tt)
  constant_placed ex false = (no_leaf none (omega arith) (λ e. omega arith), tt)

  both_placed : (q : Quant) (o : Op) (a b : Plan) → size (both q o a b) < 2048 → All Placed (words a) → All Placed (words b)
      → All Placed (words (both q o a b))
  unfolding All words
  both_placed all and a b s h k = (no_leaf (sum a b) s (λ e. omega arith), all_append Placed (words a) (words b) h k)
  both_placed all or a b s h k = (no_leaf (product a b) s (λ e. omega arith), all_append Placed (words a) (words b) h k)
  both_placed all imp a b s h k = (no_leaf none s (λ e. omega arith), tt)
  both_placed all iff a b s h k = (no_leaf none s (λ e. omega arith), tt)
  both_placed ex and a b s h k = (no_leaf (product a b) s (λ e. omega arith), all_append Placed (words a) (words b) h k)
  both_placed ex or a b s h k = (no_leaf (sum a b) s (λ e. omega arith), all_append Placed (words a) (words b) h k)
  both_placed ex imp a b s h k = (no_leaf none s (λ e. omega arith), tt)
  both_placed ex iff a b s h k = (no_leaf none s (λ e. omega arith), tt)

  atom_there : (at : ℕ) (f : Formula) (rest : List Token) → is_atom f ≡ true → tokens T M (drop at S) ≡ code f ++ rest → P at
  atom_there at top rest h e = clash h refl
  atom_there at bot rest h e = clash h refl
  atom_there at (pred p ts) rest h e = holds at (rel p ts) rest e
  atom_there at (eq t u) rest h e = holds at (same_as t u) rest e
  atom_there at (neg f) rest h e = clash h refl
  atom_there at (bin o f g) rest h e = clash h refl
  atom_there at (blk q vs f) rest h e = clash h refl

  pub plan_placed : (q : Quant) (at n : ℕ) (f : Formula) (rest : List Token) → negated f ≡ true → n ≡ at + weight f → n ≤ 1024
      → tokens T M (drop at S) ≡ code f ++ rest → All Placed (words (plan q at f))
  unfolding plan weight negated code
  plan_placed q at n top rest h e u w = constant_placed q true
  plan_placed q at n bot rest h e u w = constant_placed q false
  plan_placed q at n (pred p ts) rest h e u w = one_leaf at at (omega arith) (atom_there at (pred p ts) rest refl w)
  plan_placed q at n (eq t v) rest h e u w = one_leaf at at (omega arith) (atom_there at (eq t v) rest refl w)
  plan_placed q at n (neg f) rest h e u w =
      one_leaf (1024 + suc at) (suc at) (omega (arith, some_weight f))
      (atom_there (suc at) f rest h (tokens_drop T M S at (suc at) (sign 2 0 [] ∷ []) (code f ++ rest) w (omega arith)))
  plan_placed q at n (bin o f g) rest h e u w =
      let parts = and_true_right (and_or o) (negated f && negated g) h in
      let below : tokens T M (drop (suc at) S) ≡ code f ++ (code g ++ rest) =
      tokens_drop T M S at (suc at) (sign (op_kind o) 0 [] ∷ []) ((code f ++ code g) ++ rest) w (omega arith) ∙ append_assoc (code f) (code g) rest in
      let beside : tokens T M (drop (suc at + weight f) S) ≡ code g ++ rest =
      tokens_drop T M S (suc at) (suc at + weight f) (code f) (code g ++ rest) below (omega (arith, words_weight f)) in
      both_placed q o (plan q (suc at) f) (plan q (suc at + weight f) g) (omega (arith, plan_small q at (bin o f g)))
      (plan_placed q (suc at) (suc at + weight f) f (code g ++ rest) (and_true_left (negated f) (negated g) parts) refl (omega arith) below)
      (plan_placed q (suc at + weight f) n g rest (and_true_right (negated f) (negated g) parts) (omega arith) u beside)
  plan_placed q at n (blk r vs f) rest h e u w = constant_placed all true
