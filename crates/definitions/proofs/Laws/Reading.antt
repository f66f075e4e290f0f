-- Reading, both ways: a text reads as a tree just when it is that tree's text and the tree is within the limits.
-- So raised limits read it as the same tree, and two trees, each within some limits, have two texts.
use Rattle.std.proofs.Math.Path.{◌≡◌, refl, sym, ap}
use Rattle.std.proofs.Common.{◌∙◌, arith}
use Rattle.std.specs.Prelude.{◌↔◌, true, ◌&&◌, ℕ, ◌+◌, max, ◌≤◌, length}
use Rattle.std.proofs.Math.Bool.{false}
use mathlib.Core.List.{List, [], ◌∷◌, append-nil}
use borrow.Author.Tests.{leb-true, le-leb}
use Rattle.std.proofs.Math.Dec.{leb}
use Rattle.definitions.specs.Bytes.{Bytes, LF, null, split}
use Rattle.definitions.specs.Syntax.{Formula, weight, depth}
use Rattle.definitions.specs.Limits.{Limits, Raised}
use Rattle.definitions.specs.RuleText.{letter, Manner, simple_name, variable_name, symbol_name, behind, is_name, Node, top_node, bot_node, not_node, eq_node, bin_node, block_node, pred_node, fun_node, var_node, con_node, lines, nodes, written}
use Rattle.definitions.specs.Reading.{all_names, some_due, Scan, read_nodes, bad_line, large_line, scan, Tree, formula_tree, term_tree, as_formula, first, trees, tree, settle, read}
use Rattle.definitions.proofs.Laws.Bools.{clash, and_true_left, and_true_right}
use Rattle.definitions.proofs.Laws.Pieces.{join_split}
use Rattle.definitions.specs.Laws.Within.{Allowed, AllGood, Within}
use Rattle.definitions.proofs.Laws.Trees.{trees_formula}
use Rattle.definitions.specs.Laws.Served.{Served, all_weight, Fits}
use Rattle.definitions.proofs.Laws.Served.{serve, grown}
use Rattle.definitions.proofs.Laws.Scanned.{scan_seen, served_scan}

module _ (L : Limits) where
  -- where one formula is due at depth 1, the trees are one
  one_tree : (T : List Tree) (f : Formula) → Fits L (some_due 1 false 1) T → as_formula (first T) ≡ f → (T ≡ formula_tree f ∷ []) × (depth f ≤ L.depth)
  one_tree [] f h e = absurd h
  one_tree (formula_tree g ∷ []) f h e = (rw e, rw (← e) (omega (arith, h.0.1)))
  one_tree (formula_tree g ∷ t ∷ U) f h e = absurd h.1
  one_tree (term_tree t ∷ U) f h e = clash h.0.0 refl

  read_gives : (text : Bytes) (f : Formula) → read L text ≡ tree f → (text ≡ written f) × Within L f
  unfolding read written
  read_gives text f e = go (scan L (some_due 1 false 1) 0 1 (split LF text)) refl e
    where
      go : (r : Scan) → scan L (some_due 1 false 1) 0 1 (split LF text) ≡ r → settle r ≡ tree f → (text ≡ written f) × Within L f
      go (read_nodes l) p q =
          let b = scan_seen L (split LF text) (some_due 1 false 1) 0 1 l p in
          let g = grown L l (some_due 1 false 1) 0 (omega arith) b.served in
          let same_tree : as_formula (first (trees l)) ≡ f = cc in
          let t = one_tree (trees l) f g.fits same_tree in
          let its_nodes : l ≡ nodes f = sym g.again ∙ rw t.0 (append-nil (nodes f)) in
          let its_weight : all_weight (trees l) ≡ weight f + 0 = ap all_weight t.0 in
          (sym (join_split LF text) ∙ b.text ∙ ap lines its_nodes, record { light = omega (arith, g.light); shallow = t.1; good = rw its_nodes at b.good })
      go (bad_line k) p q = let z : ◌≡◌ {A = ℕ} 0 1 = cc in absurd (omega arith)
      go (large_line k) p q = let z : ◌≡◌ {A = ℕ} 0 1 = cc in absurd (omega arith)

  pub within_served : (f : Formula) → Within L f → Served L (nodes f) (some_due 1 false 1) 0
  within_served f h = rw append-nil at (serve L f 1 [] 0 (weight f) [] (omega (arith, h.shallow)) (omega arith) h.light tt)

  within_read : (f : Formula) → Within L f → read L (written f) ≡ tree f
  unfolding read written trees
  within_read f h =
      let whole : trees (nodes f) ≡ formula_tree f ∷ [] = rw append-nil at (trees_formula f []) in
      rw (served_scan L (nodes f) (some_due 1 false 1) 0 1 h.good (within_served f h), whole)

  pub read_iff : (text : Bytes) (f : Formula) → (read L text ≡ tree f) ↔ ((text ≡ written f) × Within L f)
  read_iff text f = (read_gives text f, λ h. rw h.0 (within_read f h.1))

module _ (L L' : Limits) (up : Raised L L') where
  name_raised : (m : Manner) (s : Bytes) → is_name L m s ≡ true → is_name L' m s ≡ true
  unfolding is_name
  name_raised m [] e = e
  name_raised m (b ∷ s) e =
      let short = leb (length (b ∷ s)) L.name in
      let both = and_true_left (short && letter b) (null (behind m s)) e in
      let low = leb-true (length (b ∷ s)) L.name (and_true_left short (letter b) both) in
      rw (le-leb (length (b ∷ s)) L'.name (omega (arith, up.name)), and_true_right short (letter b) both, and_true_right (short && letter b) (null (behind m s)) e)

  names_raised : (m : Manner) (l : List Bytes) → all_names L m l ≡ true → all_names L' m l ≡ true
  unfolding all_names
  names_raised m [] e = refl
  names_raised m (x ∷ l) e = rw (name_raised m x (and_true_left (is_name L m x) (all_names L m l) e)) (names_raised m l (and_true_right (is_name L m x) (all_names L m l) e))

  allowed_raised : (n : Node) → Allowed L n → Allowed L' n
  allowed_raised top_node a = tt
  allowed_raised bot_node a = tt
  allowed_raised not_node a = tt
  allowed_raised eq_node a = tt
  allowed_raised (bin_node o) a = tt
  allowed_raised (block_node q vs) a = (a.0, omega (arith, a.1, up.block), names_raised variable_name vs a.2)
  allowed_raised (pred_node p n) a = (name_raised simple_name p a.0, omega (arith, a.1, up.arguments))
  allowed_raised (fun_node f n) a = (name_raised symbol_name f a.0, omega (arith, a.1, up.arguments))
  allowed_raised (var_node x) a = name_raised variable_name x a
  allowed_raised (con_node c) a = name_raised symbol_name c a

  all_good_raised : (l : List Node) → AllGood L l → AllGood L' l
  all_good_raised [] g = tt
  all_good_raised (n ∷ l) g = (record { allowed = allowed_raised n g.0.allowed; short = omega (arith, g.0.short, up.line) }, all_good_raised l g.1)

  pub within_raised : (f : Formula) → Within L f → Within L' f
  within_raised f h = record { light = omega (arith, h.light, up.weight); shallow = omega (arith, h.shallow, up.depth); good = all_good_raised (nodes f) h.good }

  pub read_raised : (text : Bytes) (f : Formula) → read L text ≡ tree f → read L' text ≡ tree f
  read_raised text f e = let h = (read_iff L text f).0 e in (read_iff L' text f).1 (h.0, within_raised f h.1)

-- limits that are at least as large as two others
both : Limits → Limits → Limits
both L M = record {
  weight = max L.weight M.weight;
  depth = max L.depth M.depth;
  arguments = max L.arguments M.arguments;
  block = max L.block M.block;
  name = max L.name M.name;
  line = max L.line M.line;
  clauses = max L.clauses M.clauses;
  literals = max L.literals M.literals;
}

both_first : (L M : Limits) → Raised L (both L M)
unfolding both
both_first L M = omega arith

both_second : (L M : Limits) → Raised M (both L M)
unfolding both
both_second L M = omega arith

pub written_injective : (L M : Limits) (f g : Formula) → Within L f → Within M g → written f ≡ written g → f ≡ g
written_injective L M f g h k e =
    let N = both L M in
    let a : read N (written f) ≡ tree f = (read_iff N (written f) f).1 (refl, within_raised L N (both_first L M) f h) in
    let b : read N (written f) ≡ tree g = (read_iff N (written f) g).1 (e, within_raised M N (both_second L M) g k) in
    same_tree (sym a ∙ b)
  where
    same_tree : tree f ≡ tree g → f ≡ g
    same_tree d = cc
