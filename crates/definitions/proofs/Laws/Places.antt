-- Refusal 2 line by line, for a text that begins as a tree within the limits does: a bad line, a node of the other sort, a tree that is
-- not finished, a last line without its LF, something behind the tree. Each is refused at its own line, the unfinished tree one past the last.
use Rattle.std.specs.Prelude.{◌≡◌, Bool, true, eqb}
use Rattle.std.proofs.Math.Path.{refl}
use Rattle.std.proofs.Common.{sym, ◌∙◌}
use Rattle.std.proofs.Math.Bool.{false}
use mathlib.Core.List.{List, [], ◌∷◌, ◌++◌, append-nil, append_assoc}
use Rattle.std.proofs.Math.Option.{Option, none, some}
use Prim.Native.Nat.{ℕ, suc, ◌+◌}
use native.Mathlib.Omega.{arith}
use borrow.Author.Tests.{le-leb, not-true}
use Rattle.std.proofs.Math.ListN.{length}
use Rattle.definitions.specs.Bytes.{Bytes, LF, split}
use Rattle.definitions.specs.Syntax.{Formula}
use Rattle.definitions.specs.Limits.{Limits}
use Rattle.definitions.specs.RuleText.{Node, line, lines, nodes, written}
use Rattle.definitions.specs.Reading.{parse, node_weight, is_term, Due, some_due, parts, agree, bad, place, bad_line, scan, malformed, read}
use Rattle.definitions.proofs.Laws.Bools.{by_cases, clash}
use Rattle.definitions.specs.Laws.Pieces.{Clear}
use Rattle.definitions.proofs.Laws.Pieces.{split_some, split_clear, split_whole}
use Rattle.definitions.specs.Laws.Within.{Good, AllGood, Within}
use Rattle.definitions.proofs.Laws.Lines.{parse_iff, line_clear}
use Rattle.definitions.specs.Laws.Served.{Served}
use Rattle.definitions.proofs.Laws.Scanned.{scan_follows, scan_line}
use Rattle.definitions.proofs.Laws.Reading.{within_served}

-- where the lines of l have been read: what is due then, the weight so far, and that the scan goes on from there
record Reached (L : Limits) (l m : List Node) (due : List Due) (w k : ℕ) : Type 0 where
  next : List Due
  so_far : ℕ
  served : Served L m next so_far
  goes_on : (s : Bytes) (j : ℕ) → scan L next so_far (k + length l) (split LF s) ≡ bad_line j → scan L due w k (split LF (lines l ++ s)) ≡ bad_line j

module _ (L : Limits) where
  reached : (l m : List Node) (due : List Due) (w k : ℕ) → AllGood L (l ++ m) → Served L (l ++ m) due w → Reached L l m due w k
  unfolding lines
  reached [] m due w k g h = record { next = due; so_far = w; served = h; goes_on = λ s j e. let z : k + 0 ≡ k = omega arith in rw z at e }
  reached (n ∷ l) m [] w k g h = absurd h
  reached (n ∷ l) m (d ∷ due) w k g h =
      let next = parts n (suc d.depth) ++ due in
      let r = reached l m next (w + node_weight n) (suc k) g.1 h.3 in
      record {
        next = r.next;
        so_far = r.so_far;
        served = r.served;
        goes_on = λ s j e.
            let z : k + suc (length l) ≡ suc k + length l = omega arith in
            rw (append_assoc (line n) (LF ∷ lines l) s) (scan_line L n (lines l ++ s) (d ∷ due) w k g.0
            ∙ rw (h.0, le-leb d.depth L.depth h.1, le-leb (w + node_weight n) L.weight h.2, r.goes_on s j (rw z at e)));
      }

  place_none : (due : List Due) (w : ℕ) → place L due w none ≡ bad
  place_none [] w = refl
  place_none (d ∷ due) w = refl

  place_nothing : (w : ℕ) (o : Option Node) → place L [] w o ≡ bad
  place_nothing w none = refl
  place_nothing w (some n) = refl

  -- a line with its LF that is bad there
  bad_there : (s t : Bytes) (due : List Due) (w k : ℕ) → Clear LF s → place L due w (parse L s) ≡ bad → scan L due w k (split LF (s ++ (LF ∷ t))) ≡ bad_line k
  bad_there s t due w k c e = let p = split_some LF t in rw (split_clear LF s t c, p.2, scan_follows L due w k s p.0 p.1, e)

  -- the first part of a tree that is within the limits, with the nodes m still to come, and then s
  module _ (f : Formula) (h : Within L f) (l m : List Node) (e : nodes f ≡ l ++ m) where
    refused_there : (s : Bytes) → ((due : List Due) (w : ℕ) → Served L m due w → scan L due w (suc (length l)) (split LF s) ≡ bad_line (suc (length l)))
        → read L (lines l ++ s) ≡ malformed (suc (length l))
    unfolding read
    refused_there s r =
        let a = reached l m (some_due 1 false 1) 0 1 (rw e at h.good) (rw e at (within_served L f h)) in
        let z : 1 + length l ≡ suc (length l) = omega arith in
        rw (a.goes_on s (suc (length l)) (rw z (r a.next a.so_far a.served)))

    -- a bad line: one that has no node
    pub bad_line_refused : (s t : Bytes) → Clear LF s → parse L s ≡ none → read L (lines l ++ (s ++ (LF ∷ t))) ≡ malformed (suc (length l))
    bad_line_refused s t c d = refused_there (s ++ (LF ∷ t)) (λ due w g. bad_there s t due w (suc (length l)) c (rw d (place_none due w)))

    -- a last line, whatever it holds, without its LF
    pub no_LF_refused : (b : ℕ) (s : Bytes) → Clear LF (b ∷ s) → read L (lines l ++ (b ∷ s)) ≡ malformed (suc (length l))
    unfolding scan
    no_LF_refused b s c = refused_there (b ∷ s) (λ due w g. rw (split_whole LF (b ∷ s) c))

  module _ (f : Formula) (h : Within L f) (l : List Node) (n : Node) (m : List Node) (e : nodes f ≡ l ++ (n ∷ m)) where
    -- a formula where a term is due, or the reverse
    pub other_sort_refused : (o : Node) (t : Bytes) → Good L o → agree (is_term n) (is_term o) ≡ false → read L (lines l ++ (line o ++ (LF ∷ t))) ≡ malformed (suc (length l))
    other_sort_refused o t g d = refused_there f h l (n ∷ m) e (line o ++ (LF ∷ t)) (λ due w s. bad_there (line o) t due w (suc (length l)) (line_clear L o g) (rw ((parse_iff L (line o) o).1 (refl, g)) (unfit due w s)))
      where
        other : (a b c : Bool) → agree a c ≡ true → agree a b ≡ false → agree b c ≡ false
        other true b c p q = rw (q, p)
        other false true c p q = not-true c p
        other false false c p q = clash refl q

        unfit : (due : List Due) (w : ℕ) → Served L (n ∷ m) due w → place L due w (some o) ≡ bad
        unfit [] w s = absurd s
        unfit (x ∷ due) w s = rw (other (is_term n) (is_term o) x.term s.0 d)

    -- a tree that is not finished: one past the last line
    pub unfinished_refused : read L (lines l) ≡ malformed (suc (length l))
    unfolding scan split
    unfinished_refused = rw append-nil at (refused_there f h l (n ∷ m) e [] still_due)
      where
        still_due : (due : List Due) (w : ℕ) → Served L (n ∷ m) due w → scan L due w (suc (length l)) (split LF []) ≡ bad_line (suc (length l))
        still_due [] w s = absurd s
        still_due (x ∷ due) w s = refl

  -- something behind the tree
  nothing_due : (w k b : ℕ) (s : Bytes) → scan L [] w k (split LF (b ∷ s)) ≡ bad_line k
  unfolding scan split
  nothing_due w k b s = go (split_some LF s).0 (split_some LF s).1 (split_some LF s).2
    where
      go : (p : Bytes) (ps : List Bytes) → split LF s ≡ p ∷ ps → scan L [] w k (split LF (b ∷ s)) ≡ bad_line k
      go p ps q =
          by_cases (eqb b LF)
          (λ t. rw (t, q, scan_follows L [] w k [] p ps, place_nothing w (parse L [])))
          (λ t. rw (t, q) (first_piece ps))
        where
          first_piece : (ps : List Bytes) → scan L [] w k ((b ∷ p) ∷ ps) ≡ bad_line k
          first_piece [] = refl
          first_piece (r ∷ rs) = rw (scan_follows L [] w k (b ∷ p) r rs, place_nothing w (parse L (b ∷ p)))

  pub after_tree_refused : (f : Formula) → Within L f → (b : ℕ) (s : Bytes) → read L (written f ++ (b ∷ s)) ≡ malformed (suc (length (nodes f)))
  unfolding written
  after_tree_refused f h b s = refused_there f h (nodes f) [] (sym (append-nil (nodes f))) (b ∷ s) done
    where
      done : (due : List Due) (w : ℕ) → Served L [] due w → scan L due w (suc (length (nodes f))) (split LF (b ∷ s)) ≡ bad_line (suc (length (nodes f)))
      done [] w g = nothing_due w (suc (length (nodes f))) b s
      done (x ∷ due) w g = absurd g
