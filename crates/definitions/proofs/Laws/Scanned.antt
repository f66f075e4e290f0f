-- The scan gives nodes just when its pieces are their lines, each is good, and one after another they serve what is due.
use Rattle.std.specs.Prelude.{◌≡◌, Bool, true, false, ◌&&◌, cond, ℕ, suc, ◌+◌, leb}
use Rattle.std.proofs.Math.Path.{refl}
use Rattle.std.proofs.Common.{◌∙◌, arith}
use mathlib.Core.List.{List, [], ◌∷◌, ◌++◌}
use Rattle.std.proofs.Math.Option.{Option, none, some}
use borrow.Author.Tests.{leb-true, le-leb}
use Rattle.definitions.specs.Bytes.{Bytes, LF, null, split, behind_each}
use Rattle.definitions.specs.Limits.{Limits}
use Rattle.definitions.specs.RuleText.{Node, line, lines}
use Rattle.definitions.specs.Reading.{parse, node_weight, is_term, Due, parts, agree, Step, bad, over, on, place, Scan, read_nodes, bad_line, large_line, before, scan}
use Rattle.definitions.proofs.Laws.Bools.{and_true_left, and_true_right}
use Rattle.definitions.specs.Laws.Pieces.{joined}
use Rattle.definitions.proofs.Laws.Pieces.{split_some, split_clear}
use Rattle.definitions.specs.Laws.Within.{Good, AllGood}
use Rattle.definitions.proofs.Laws.Lines.{parse_iff, line_clear}
use Rattle.definitions.specs.Laws.Served.{Served}
use Rattle.definitions.specs.Laws.Scanned.{Seen, follow}

-- the node of a line that leads on, and that it serves
record Leads (L : Limits) (due : List Due) (w : ℕ) (o : Option Node) (n : Node) (next : List Due) : Type 0 where
  has : o ≡ some n
  serves : (l : List Node) → Served L l next (w + node_weight n) → Served L (n ∷ l) due w

module _ (L : Limits) where
  pub scan_follows : (due : List Due) (w k : ℕ) (s m : Bytes) (rest : List Bytes) → scan L due w k (s ∷ m ∷ rest) ≡ follow L w k (m ∷ rest) (place L due w (parse L s))
  unfolding scan
  scan_follows due w k s m rest = refl

  not_bad {ℓ} : {A : Type ℓ} (n : Node) (next : List Due) → bad ≡ on n next → A
  not_bad n next e = let z : ◌≡◌ {A = ℕ} 0 1 = cc in absurd (omega arith)

  not_over {ℓ} : {A : Type ℓ} (n : Node) (next : List Due) → over ≡ on n next → A
  not_over n next e = let z : ◌≡◌ {A = ℕ} 0 1 = cc in absurd (omega arith)

  leads_by : (d : Due) (due : List Due) (w : ℕ) (m n : Node) (next : List Due) (a b : Bool) → agree (is_term m) d.term ≡ a → (leb d.depth L.depth && leb (w + node_weight m) L.weight) ≡ b
      → cond a (cond b (on m (parts m (suc d.depth) ++ due)) over) bad ≡ on n next → Leads L (d ∷ due) w (some m) n next
  leads_by d due w m n next true true x y e =
      let p : m ≡ n = cc in
      let q : parts m (suc d.depth) ++ due ≡ next = cc in
      let deep = leb d.depth L.depth in
      let heavy = leb (w + node_weight m) L.weight in
      rw (← q, ← p) (record {
        has = refl;
        serves = λ l s. (x, leb-true d.depth L.depth (and_true_left deep heavy y), leb-true (w + node_weight m) L.weight (and_true_right deep heavy y), s);
      })
  leads_by d due w m n next true false x y e = not_over n next e
  leads_by d due w m n next false b x y e = not_bad n next e

  leads : (due : List Due) (w : ℕ) (o : Option Node) (n : Node) (next : List Due) → place L due w o ≡ on n next → Leads L due w o n next
  leads due w none n next e = not_bad n next e
  leads [] w (some m) n next e = not_bad n next e
  leads (d ∷ due) w (some m) n next e = leads_by d due w m n next _ _ refl refl e

  -- a scan that has gone through is no refusal
  no_refusal {ℓ} : {A : Type ℓ} (k : ℕ) (l : List Node) → bad_line k ≡ read_nodes l → A
  no_refusal k l e = let z : ◌≡◌ {A = ℕ} 0 1 = cc in absurd (omega arith)

  no_large {ℓ} : {A : Type ℓ} (k : ℕ) (l : List Node) → large_line k ≡ read_nodes l → A
  no_large k l e = let z : ◌≡◌ {A = ℕ} 0 1 = cc in absurd (omega arith)

  through : (n : Node) (r : Scan) (l : List Node) → before n r ≡ read_nodes l → (m : List Node) × (r ≡ read_nodes m) × (n ∷ m ≡ l)
  through n (read_nodes m) l e = let p : n ∷ m ≡ l = cc in (m, refl, p)
  through n (bad_line k) l e = no_refusal k l e
  through n (large_line k) l e = no_large k l e

  ended : (s : Bytes) (due : List Due) (w k : ℕ) (l : List Node) → cond (null s && null due) (read_nodes []) (bad_line k) ≡ read_nodes l → Seen L due w (s ∷ []) l
  unfolding joined behind_each lines
  ended [] [] w k l e = let p : [] ≡ l = cc in rw (← p) (record { text = refl; good = tt; served = tt })
  ended [] (d ∷ due) w k l e = no_refusal k l e
  ended (x ∷ s) due w k l e = no_refusal k l e

  pub scan_seen : (ls : List Bytes) (due : List Due) (w k : ℕ) (l : List Node) → scan L due w k ls ≡ read_nodes l → Seen L due w ls l
  unfolding scan joined behind_each lines
  scan_seen [] due w k l e = no_refusal k l e
  scan_seen (s ∷ []) due w k l e = ended s due w k l e
  scan_seen (s ∷ m ∷ rest) due w k l e = go (λ next n r h. scan_seen (m ∷ rest) next (w + node_weight n) (suc k) r h) (place L due w (parse L s)) refl e
    where
      go : ((next : List Due) (n : Node) (r : List Node) → scan L next (w + node_weight n) (suc k) (m ∷ rest) ≡ read_nodes r → Seen L next (w + node_weight n) (m ∷ rest) r)
          → (a : Step) → place L due w (parse L s) ≡ a
          → follow L w k (m ∷ rest) a ≡ read_nodes l
          → Seen L due w (s ∷ m ∷ rest) l
      go ih bad p q = no_refusal k l q
      go ih over p q = no_large k l q
      go ih (on n next) p q =
          let t = through n (scan L next (w + node_weight n) (suc k) (m ∷ rest)) l q in
          let b = ih next n t.0 t.1 in
          let a = leads due w (parse L s) n next p in
          let g = (parse_iff L s n).0 a.has in
          rw (← t.2) (record {
            text = rw (g.0, b.text);
            good = (g.1, b.good);
            served = a.serves t.0 b.served;
          })

  -- the scan of a good node's line, with anything behind it
  pub scan_line : (n : Node) (s : Bytes) (due : List Due) (w k : ℕ) → Good L n → scan L due w k (split LF (line n ++ (LF ∷ s))) ≡ follow L w k (split LF s) (place L due w (some n))
  scan_line n s due w k g =
      let p = split_some LF s in
      rw (split_clear LF (line n) s (line_clear L n g), p.2, scan_follows due w k (line n) p.0 p.1, (parse_iff L (line n) n).1 (refl, g))

  pub served_scan : (l : List Node) (due : List Due) (w k : ℕ) → AllGood L l → Served L l due w → scan L due w k (split LF (lines l)) ≡ read_nodes l
  unfolding scan split lines
  served_scan [] [] w k g s = refl
  served_scan [] (d ∷ due) w k g s = absurd s
  served_scan (n ∷ l) [] w k g s = absurd s
  served_scan (n ∷ l) (d ∷ due) w k g s =
      scan_line n (lines l) (d ∷ due) w k g.0
      ∙ rw (s.0, le-leb d.depth L.depth s.1, le-leb (w + node_weight n) L.weight s.2, served_scan l (parts n (suc d.depth) ++ due) (w + node_weight n) (suc k) g.1 s.3)
