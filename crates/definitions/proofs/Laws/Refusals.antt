-- The places of refusals: a text without a line is refused at line 1; a place is a line of the text, counted from 1, where what follows
-- the last LF counts as one; and a refusal stays the same whatever stands behind its line.
use Rattle.std.specs.Prelude.{◌≡◌, refl, ◌&&◌, ℕ, suc, ◌+◌, ◌<◌, length}
use Rattle.std.proofs.Common.{sym, ◌∙◌, ap}
use Rattle.std.proofs.Math.Bool.{false}
use mathlib.Core.List.{List, [], ◌∷◌, ◌++◌}
use native.Mathlib.Omega.{arith}
use Rattle.definitions.specs.Bytes.{Bytes, LF, null, split}
use Rattle.definitions.specs.Limits.{Limits}
use Rattle.definitions.specs.RuleText.{Node}
use Rattle.definitions.specs.Reading.{parse, node_weight, Due, some_due, Step, bad, over, on, place, Scan, read_nodes, bad_line, large_line, before, scan, Reading, tree, malformed, large, settle, read}
use Rattle.definitions.proofs.Laws.Bools.{by_cases}
use Rattle.definitions.proofs.Laws.Pieces.{split_some, split_append}
use Rattle.definitions.specs.Laws.Scanned.{follow}
use Rattle.definitions.proofs.Laws.Scanned.{scan_follows}
use Rattle.definitions.specs.Laws.Refusals.{Placed, RefusedBy}

pub empty_refused : (L : Limits) → read L [] ≡ malformed 1
unfolding read split scan
empty_refused L = refl

placed_before : (n : Node) (a z : ℕ) (r : Scan) → Placed (suc a) z (settle r) → Placed a z (settle (before n r))
placed_before n a z (read_nodes l) h = tt
placed_before n a z (bad_line k) h = omega arith
placed_before n a z (large_line k) h = omega arith

refused_before : (n : Node) (z : ℕ) (r : Scan) → RefusedBy z (settle (before n r)) → RefusedBy z (settle r)
refused_before n z (read_nodes l) h = h
refused_before n z (bad_line k) h = h
refused_before n z (large_line k) h = h

not_yet {ℓ} : {A : Type ℓ} (a z : ℕ) (r : Reading) → Placed (suc a) z r → RefusedBy a r → A
not_yet a z (tree f) h g = absurd g
not_yet a z (malformed k) h g = absurd (omega arith)
not_yet a z (large k) h g = absurd (omega arith)

module _ (L : Limits) where
  scan_placed : (ls : List Bytes) (due : List Due) (w k z : ℕ) → k + length ls ≡ suc z → 0 < length ls → Placed k z (settle (scan L due w k ls))
  unfolding scan
  scan_placed [] due w k z e h = absurd (omega arith)
  scan_placed (s ∷ []) due w k z e h = by_cases (null s && null due) (λ t. rw t tt) (λ f. rw f (omega arith))
  scan_placed (s ∷ m ∷ rest) due w k z e h = go (λ next v. scan_placed (m ∷ rest) next v (suc k) z (omega arith) (omega arith)) (place L due w (parse L s))
    where
      go : ((next : List Due) (v : ℕ) → Placed (suc k) z (settle (scan L next v (suc k) (m ∷ rest)))) → (a : Step) → Placed k z (settle (follow L w k (m ∷ rest) a))
      go ih bad = omega arith
      go ih over = omega arith
      go ih (on n next) = placed_before n k z (scan L next (w + node_weight n) (suc k) (m ∷ rest)) (ih next (w + node_weight n))

  -- the place of a refusal is at least 1, and at most one more than there are LFs in the text
  pub read_placed : (text : Bytes) → Placed 1 (length (split LF text)) (read L text)
  unfolding read
  read_placed text = let p = split_some LF text in scan_placed (split LF text) (some_due 1 false 1) 0 1 (length (split LF text)) (omega arith) (rw p.2 (omega arith))

  scan_on : (ls : List Bytes) (due : List Due) (w k : ℕ) (s m : Bytes) (rest : List Bytes) → scan L due w k (s ∷ (ls ++ (m ∷ rest))) ≡ follow L w k (ls ++ (m ∷ rest)) (place L due w (parse L s))
  scan_on [] due w k s m rest = scan_follows L due w k s m rest
  scan_on (l ∷ ls) due w k s m rest = scan_follows L due w k s l (ls ++ (m ∷ rest))

  module _ (m m' : Bytes) (rest rest' : List Bytes) where
    scan_stays : (ls : List Bytes) (due : List Due) (w k z : ℕ) → k + length ls ≡ suc z → RefusedBy z (settle (scan L due w k (ls ++ (m ∷ rest))))
        → scan L due w k (ls ++ (m' ∷ rest')) ≡ scan L due w k (ls ++ (m ∷ rest))
    scan_stays [] due w k z e h =
        let here : k ≡ suc z = omega arith in
        not_yet z (k + length rest) (settle (scan L due w k (m ∷ rest))) (rw (← here) (scan_placed (m ∷ rest) due w k (k + length rest) (omega arith) (omega arith))) h
    scan_stays (s ∷ ls) due w k z e h =
        scan_on ls due w k s m' rest'
        ∙ go (λ next v g. scan_stays ls next v (suc k) z (omega arith) g) (place L due w (parse L s)) (rw (scan_on ls due w k s m rest) at h)
        ∙ sym (scan_on ls due w k s m rest)
      where
        go : ((next : List Due) (v : ℕ) → RefusedBy z (settle (scan L next v (suc k) (ls ++ (m ∷ rest)))) → scan L next v (suc k) (ls ++ (m' ∷ rest')) ≡ scan L next v (suc k) (ls ++ (m ∷ rest)))
            → (a : Step) → RefusedBy z (settle (follow L w k (ls ++ (m ∷ rest)) a)) → follow L w k (ls ++ (m' ∷ rest')) a ≡ follow L w k (ls ++ (m ∷ rest)) a
        go ih bad g = refl
        go ih over g = refl
        go ih (on n next) g = ap (before n) (ih next (w + node_weight n) (refused_before n z (scan L next (w + node_weight n) (suc k) (ls ++ (m ∷ rest))) g))

  -- what stands behind the refused line does not matter
  pub refusal_stays : (s t t' : Bytes) → RefusedBy (length (split LF s)) (read L (s ++ (LF ∷ t))) → read L (s ++ (LF ∷ t')) ≡ read L (s ++ (LF ∷ t))
  unfolding read
  refusal_stays s t t' h =
      let p = split_some LF t in
      let p' = split_some LF t' in
      rw (split_append LF s t, split_append LF s t', p.2, p'.2)
      (ap settle (scan_stays p.0 p'.0 p.1 p'.1 (split LF s) (some_due 1 false 1) 0 1 (length (split LF s)) (omega arith) (rw (split_append LF s t, p.2) at h)))
