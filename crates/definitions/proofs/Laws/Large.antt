-- Refusal 3: a tree whose lines are all good, but whose weight or depth passes the limit, is refused at the first line that passes it.
use Rattle.std.specs.Prelude.{◌≡◌, refl, true, ◌&&◌, ℕ, suc, ◌+◌, ◌≤◌, ◌<◌, leb, length}
use Rattle.std.proofs.Common.{◌∙◌, ap}
use Rattle.std.proofs.Math.Bool.{false, and-false}
use mathlib.Core.List.{List, [], ◌∷◌, ◌++◌, append-nil, append_assoc}
use native.Mathlib.Omega.{arith}
use borrow.Author.Tests.{le-leb, lt-leb}
use Rattle.definitions.specs.Bytes.{LF, split}
use Rattle.definitions.specs.Syntax.{Term, var, con, app, Terms, nil, cons, Formula, top, bot, pred, eq, neg, bin, blk, count}
use Rattle.definitions.specs.Limits.{Limits}
use Rattle.definitions.specs.RuleText.{Node, lines, term_nodes, terms_nodes, nodes, written}
use Rattle.definitions.specs.Reading.{node_weight, is_term, Due, some_due, parts, agree, large_line, scan, large, read}
use Rattle.definitions.specs.Laws.Within.{AllGood}
use Rattle.definitions.proofs.Laws.Scanned.{scan_line}
use Rattle.definitions.specs.Laws.Large.{AllAtMost, Cut, depths, nodes_weight, term_depths, terms_depths}

-- nodes at their depths go through, one after another, whatever the limits
abbrev Walks : List Node → List ℕ → List Due → Type 0
Walks [] [] [] = Unit {0}
Walks [] [] (d ∷ due) = ⊥
Walks [] (D ∷ a) due = ⊥
Walks (n ∷ l) [] due = ⊥
Walks (n ∷ l) (D ∷ a) [] = ⊥
Walks (n ∷ l) (D ∷ a) (d ∷ due) = (agree (is_term n) d.term ≡ true) × (d.depth ≡ D) × Walks l a (parts n (suc D) ++ due)

mutual
  unfolding term_nodes terms_nodes term_depths terms_depths count

  walk_term : (t : Term) (D : ℕ) (due : List Due) (l : List Node) (a : List ℕ) → Walks l a due → Walks (term_nodes t ++ l) (term_depths D t ++ a) (record { term = true; depth = D } ∷ due)
  walk_term (var x) D due l a h = (refl, refl, h)
  walk_term (con c) D due l a h = (refl, refl, h)
  walk_term (app f ts) D due l a h = (refl, refl, walk_terms ts (suc D) due l a h)

  walk_terms : (ts : Terms) (D : ℕ) (due : List Due) (l : List Node) (a : List ℕ) → Walks l a due → Walks (terms_nodes ts ++ l) (terms_depths D ts ++ a) (some_due (count ts) true D ++ due)
  walk_terms nil D due l a h = h
  walk_terms (cons t ts) D due l a h =
      rw (append_assoc (term_nodes t) (terms_nodes ts) l, append_assoc (term_depths D t) (terms_depths D ts) a)
      (walk_term t D (some_due (count ts) true D ++ due) (terms_nodes ts ++ l) (terms_depths D ts ++ a) (walk_terms ts D due l a h))

walk : (f : Formula) (D : ℕ) (due : List Due) (l : List Node) (a : List ℕ) → Walks l a due → Walks (nodes f ++ l) (depths D f ++ a) (record { term = false; depth = D } ∷ due)
unfolding nodes depths
walk top D due l a h = (refl, refl, h)
walk bot D due l a h = (refl, refl, h)
walk (pred p ts) D due l a h = (refl, refl, walk_terms ts (suc D) due l a h)
walk (eq t u) D due l a h = (
  refl,
  refl,
  rw (append_assoc (term_nodes t) (term_nodes u) l, append_assoc (term_depths (suc D) t) (term_depths (suc D) u) a)
      (walk_term t (suc D) (some_due 1 true (suc D) ++ due) (term_nodes u ++ l) (term_depths (suc D) u ++ a) (walk_term u (suc D) due l a h)),
)
walk (neg f) D due l a h = (refl, refl, walk f (suc D) due l a h)
walk (bin o f g) D due l a h = (
  refl,
  refl,
  rw (append_assoc (nodes f) (nodes g) l, append_assoc (depths (suc D) f) (depths (suc D) g) a)
      (walk f (suc D) (some_due 1 false (suc D) ++ due) (nodes g ++ l) (depths (suc D) g ++ a) (walk g (suc D) due l a h)),
)
walk (blk q vs f) D due l a h = (refl, refl, walk f (suc D) due l a h)

module _ (L : Limits) (n : Node) (m : List Node) (D : ℕ) (b : List ℕ) where
  passing : (l : List Node) (a : List ℕ) (due : List Due) (w k : ℕ) → AllGood L (l ++ (n ∷ m)) → Walks (l ++ (n ∷ m)) (a ++ (D ∷ b)) due → length a ≡ length l
      → AllAtMost L.depth a → w + nodes_weight l ≤ L.weight → (leb D L.depth && leb (w + nodes_weight l + node_weight n) L.weight) ≡ false
      → scan L due w k (split LF (lines (l ++ (n ∷ m)))) ≡ large_line (k + length l)
  unfolding lines nodes_weight
  passing [] [] [] w k g h e d s o = absurd h
  passing [] [] (x ∷ due) w k g h e d s o =
      let z : w + 0 ≡ w = omega arith in
      scan_line L n (lines m) (x ∷ due) w k g.0 ∙ rw (h.0, h.1, rw z at o) (ap large_line (omega arith))
  passing [] (E ∷ a) due w k g h e d s o = absurd (omega arith)
  passing (y ∷ l) [] due w k g h e d s o = absurd (omega arith)
  passing (y ∷ l) (E ∷ a) [] w k g h e d s o = absurd h
  passing (y ∷ l) (E ∷ a) (x ∷ due) w k g h e d s o =
      let z : w + (node_weight y + nodes_weight l) ≡ w + node_weight y + nodes_weight l = omega arith in
      let ih = passing l a (parts y (suc E) ++ due) (w + node_weight y) (suc k) g.1 h.2 (omega arith) d.1 (omega arith) (rw z at o) in
      scan_line L y (lines (l ++ (n ∷ m))) (x ∷ due) w k g.0
      ∙ rw (h.0, h.1, le-leb E L.depth d.0, le-leb (w + node_weight y) L.weight (omega arith), ih) (ap large_line (omega arith))

module _ (L : Limits) (f : Formula) (l : List Node) (n : Node) (D : ℕ) (c : Cut L f l n D) where
  passed : (leb D L.depth && leb (nodes_weight l + node_weight n) L.weight) ≡ false → read L (written f) ≡ large (suc (length l))
  unfolding read written
  passed o =
      let walks = rw (append-nil (nodes f), append-nil (depths 1 f), c.cut, c.depths_cut) at (walk f 1 [] [] [] tt) in
      let z : 0 + nodes_weight l ≡ nodes_weight l = omega arith in
      let there = passing L n c.behind D c.depths_behind l c.depths_before (some_due 1 false 1) 0 1 (rw c.cut at c.good) walks c.alike c.shallow (omega (arith, c.light)) (rw z o) in
      rw (c.cut, there) (ap large (omega arith))

  pub too_deep_refused : L.depth < D → read L (written f) ≡ large (suc (length l))
  too_deep_refused h = passed (rw (lt-leb D L.depth h))

  pub too_heavy_refused : L.weight < nodes_weight l + node_weight n → read L (written f) ≡ large (suc (length l))
  too_heavy_refused h = passed (rw (lt-leb (nodes_weight l + node_weight n) L.weight h) (and-false (leb D L.depth)))
