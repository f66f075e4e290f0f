-- Runs that simplify: a copy, at a node, behind a `not`, over two parts, over a block's body, and over a whole table.
use Rattle.std.specs.Prelude.{◌≡◌, refl, false, List, [], ◌∷◌, ◌++◌, map, ℕ, zero, suc, ◌+◌, ◌-◌, ◌<◌, ◌≤◌, length, get_or, set, take, drop, replicate}
use Rattle.std.proofs.Common.{sym, ap, ◌∙◌, arith, append_assoc, append-nil, get_or-set_same, length-set, length-append, length-drop, length-take, drop-drop}
use Rattle.std.proofs.Math.Seq.{slice, get_or-take}
use Rattle.std.proofs.lemmas.List.{length-map, take-set-le, take_rest}
use Rattle.std.proofs.lemmas.Slice.{between_is}
use Rattle.definitions.specs.Bytes.{Bytes}
use Rattle.definitions.specs.Limits.{house}
use Rattle.definitions.specs.Syntax.{Name, Op, and, or, imp, iff, Quant, Formula, Term, Terms, count, eq, bin}
use Rattle.definitions.specs.Names.{keep, free}
use Rattle.definitions.specs.Simplify.{simplify, turn, tidy, over_kept}
use Rattle.definitions.proofs.Laws.Once.{free_once}
use Rattle.text.specs.Words.{Token, var_token, token, tokens, kind_of_word, count_of, code, terms_code, sides, root, below, is_made, op_kind, block_kind}
use Rattle.text.specs.Shapes.{code_splits, Shapes, by_shape}
use Rattle.text.specs.declared.table.Table.{Table}
use Rattle.text.specs.Tables.{as_table}
use Rattle.text.specs.Streams.{behind_word, no_node as no_code}
use Rattle.substitution.specs.Runs.{Unmade, Within, Spans, Lists, Safe as Copies}
use Rattle.substitution.specs.Slices.{kept_below, kept_twice, slice_kept}
use Rattle.substitution.specs.Spelled.{tokens_cut, vars_spelled}
use Rattle.substitution.specs.Keeping.{unmade_none, unmade_set, unmade_take, unmade_drop}
use Rattle.simplify.specs.Parts.{Pastes, Becomes, Joins, Binds, Reduces, Safe}
use Rattle.simplify.specs.Stage.{Simplified}
use Rattle.simplify.proofs.Fitting.{keep_fits}

-- a word and the terms behind it, copied
module _ {S : List ℕ} {at due : ℕ} {O : List ℕ} {used n r : ℕ} {O' : List ℕ} {done : ℕ} (h : at < length S) (e : n ≡ 1 + r)
    (s : Spans (take (length S - (at + 1)) (drop (at + 1) S)) due r) (p : Pastes (take n (drop at S)) O used O' done) where
  pub copies : Within S at used → Copies S at O used O' (at + 1 + r) done
  copies w =
      record {
        keeps = record { size = p.keeps.size; kept = p.keeps.kept; more = p.keeps.more; origin = λ u o. p.keeps.origin (unmade_take n (drop at S) (unmade_drop at S u)) o };
        forth = omega arith;
        inside = omega (arith, s.inside, length-take (length S - (at + 1)) (drop (at + 1) S), length-drop (at + 1) S);
        room = omega (arith, p.place, length-take n (drop at S), w.room);
      }

  pub copied : (T M : Bytes) (t : Token) (ts : Terms) → count ts ≡ due → Reduces T M S at used O' (at + 1 + r) done (t ∷ terms_code ts) (t ∷ terms_code ts)
  copied T M t ts d =
      record {
        ends = λ rest x.
            let y = behind_word T M S at h x in
            let z = s.whole T M ts rest d (rw (take_rest S (at + 1)) y.1) in
            let c = tokens_cut T M (drop at S) (t ∷ terms_code ts) n (omega arith) x in
            let k : at + 1 + r ≡ at + n = omega arith in
            (rw (k, ← (drop-drop n at S)) c.1, ap (tokens T M) p.words ∙ c.0);
      }

-- at a node: what is below it
module _ {T M : Bytes} {S : List ℕ} {at used : ℕ} {O' : List ℕ} {next used' : ℕ} where
  pub at_node : at < length S → Shapes (kind_of_word (get_or S at 0)) (count_of (get_or S at 0)) (λ f. Reduces T M S at used O' next used' (root f ∷ below f) (code (simplify f)))
      → (f : Formula) → Reduces T M S at used O' next used' (code f) (code (simplify f))
  at_node h s f =
      record {
        ends = λ rest x.
            let y : tokens T M (drop at S) ≡ (root f ∷ below f) ++ rest = x ∙ ap (λ (c : List Token). c ++ rest) (code_splits f) in
            (by_shape T M (get_or S at 0) (λ f. Reduces T M S at used O' next used' (root f ∷ below f) (code (simplify f))) refl s f (behind_word T M S at h y).0).ends rest y;
      }

  pub behind : {t : Token} {i o : List Token} → at < length S → Reduces T M S (at + 1) used O' next used' i o → Reduces T M S at used O' next used' (t ∷ i) o
  behind h k = record { ends = λ rest x. k.ends rest (behind_word T M S at h x).1 }

  pub no_node : length S ≤ at → (f : Formula) → Reduces T M S at used O' next used' (code f) (code (simplify f))
  no_node h f = record { ends = λ rest x. absurd (no_code T M S at f rest h x) }

  pub reduces_as : {i o p : List Token} → o ≡ p → Reduces T M S at used O' next used' i o → Reduces T M S at used O' next used' i p
  reduces_as e k = record { ends = λ rest x. let y = k.ends rest x in (y.0, y.1 ∙ e) }

  -- no room in the words for a block's variables
  pub block_too_long : {many : ℕ} {o : List Token} → at ≤ length S → length S - at < many
      → (vs : List Name) (f : Formula) → length vs ≡ many → Reduces T M S at used O' next used' (map var_token vs ++ code f) o
  block_too_long l h vs f e = record { ends = λ rest x. absurd (omega (arith, simp (length-drop, length-append, length-map) at (ap length x))) }

pub equation_code : (t u : Term) → root (eq t u) ∷ below (eq t u) ≡ code (simplify (eq t u))
unfolding simplify
equation_code t u = sym (code_splits (eq t u))

pub two_sides : (t u : Term) → count (sides t u) ≡ 2
unfolding count
two_sides t u = refl

-- behind a `not`
module _ {S : List ℕ} {at : ℕ} {O : List ℕ} {used : ℕ} {L O₁ L₁ : List ℕ} {n₁ u₁ : ℕ} {O₂ : List ℕ} {v : ℕ} (s : Safe S at O (used + 1) L O₁ L₁ n₁ u₁) (b : Becomes O₁ used (used + 1) u₁ O₂ v turn) where
  pub turned_safe : Safe S at O used L O₂ L₁ n₁ v
  turned_safe =
      record {
        size = b.keeps.size ∙ s.size;
        kept = b.keeps.kept ∙ kept_below used (used + 1) O₁ O (omega arith) s.kept;
        more = b.keeps.more;
        forth = s.forth;
        inside = s.inside;
        room = omega (arith, b.short, s.room);
        origin = λ a l o. let p = s.origin a l o in (b.keeps.origin unmade_none p.0, p.1);
      }

op_word : (T M : Bytes) (o : Op) (f g : Formula) → token T M (op_kind o) ≡ root (bin o f g)
op_word T M and f g = refl
op_word T M or f g = refl
op_word T M imp f g = refl
op_word T M iff f g = refl

-- over two parts
module _ (O : List ℕ) {S : List ℕ} {at kind used : ℕ} {P : List ℕ} {first : ℕ} {L O₁ L₁ : List ℕ} {n₁ u₁ : ℕ} {O₂ L₂ : List ℕ} {n₂ u₂ : ℕ} {O₃ : List ℕ} {v : ℕ}
    (e : (P ≡ set O used kind) × (first ≡ used + 1)) (s : Safe S at P first L O₁ L₁ n₁ u₁) (t : Safe S n₁ O₁ u₁ L₁ O₂ L₂ n₂ u₂) (j : Joins O₂ kind used u₁ u₂ O₃ v) where
  one : Safe S at (set O used kind) (used + 1) L O₁ L₁ n₁ u₁
  one = rw (e.0, e.1) at s

  pub joined_safe : is_made kind ≡ false → Safe S at O used L O₃ L₂ n₂ v
  joined_safe m =
      record {
        size = j.keeps.size ∙ t.size ∙ one.size ∙ length-set O used kind;
        kept = j.keeps.kept ∙ kept_below used u₁ O₂ O₁ (omega (arith, one.more)) t.kept ∙ kept_below used (used + 1) O₁ (set O used kind) (omega arith) one.kept ∙ take-set-le used O used kind (omega arith);
        more = j.keeps.more;
        forth = omega (arith, s.forth, t.forth);
        inside = t.inside;
        room = omega (arith, j.short, t.room);
        origin = λ a l o. let p = one.origin a l (unmade_set o used kind m) in let q = t.origin a p.1 p.0 in (j.keeps.origin unmade_none q.0, q.1);
      }

  pub joined_reduces : {T M : Bytes} (o : Op) (f g a b : Formula) → used < length O → op_kind o ≡ kind → Reduces T M S at first O₁ n₁ u₁ (code f) (code a)
      → Reduces T M S n₁ u₁ O₂ n₂ u₂ (code g) (code b) → Reduces T M S at used O₃ n₂ v (code f ++ code g) (code (tidy o a b))
  joined_reduces {T} {M} o f g a b z d k r =
      record {
        ends = λ rest x.
            let y = k.ends (code g ++ rest) (x ∙ append_assoc (code f) (code g) rest) in
            let w : tokens T M (slice (used + 1) u₁ O₁) ≡ code a = rw e.1 at y.1 in
            let q = r.ends rest y.0 in (
              q.0,
              j.formula T M o a b d (ap (token T M) (head ∙ sym d) ∙ op_word T M o a b)
                  (ap (tokens T M) (slice_kept (used + 1) u₁ u₁ O₂ O₁ (omega arith) t.kept) ∙ w) q.1,
            );
      }
    where
      head : get_or O₂ used 0 ≡ kind
      head =
          sym (get_or-take (used + 1) O₂ used 0 (omega arith))
          ∙ ap (λ (x : List ℕ). get_or x used 0) (kept_twice (used + 1) u₁ (set O used kind) O₁ O₂ one.more t.kept one.kept)
          ∙ get_or-take (used + 1) (set O used kind) used 0 (omega arith)
          ∙ get_or-set_same O used kind 0 z

-- over a block's body
module _ {S : List ℕ} {at many : ℕ} {O : List ℕ} {used first : ℕ} {L O₁ L₁ : List ℕ} {n₁ u₁ : ℕ} {L₂ : List ℕ} {kept : ℕ} {K : List ℕ} {kind n : ℕ} {O₂ : List ℕ} {v : ℕ} {T M : Bytes}
    (place : first ≡ used + 1 + many) (e : n ≡ many) (s : Safe S (at + many) O first L O₁ L₁ n₁ u₁)
    (f : Lists T M (take n (drop at S)) (take (u₁ - first) (drop first O₁)) L₁ L₂ kept) (w : K ≡ take kept L₂) (b : Binds kind K O₁ used first u₁ O₂ v) where
  pub block_safe : Safe S at O used L O₂ L₂ n₁ v
  block_safe =
      record {
        size = b.keeps.size ∙ s.size;
        kept = b.keeps.kept ∙ kept_below used first O₁ O (omega arith) s.kept;
        more = b.keeps.more;
        forth = omega (arith, s.forth);
        inside = s.inside;
        room = omega (arith, b.short, s.room);
        origin = λ a l o.
            let p = s.origin a l o in
            let q = f.origin (unmade_take (u₁ - first) (drop first O₁) (unmade_drop first O₁ p.0)) p.1 in
            (b.keeps.origin (rw w (unmade_take kept L₂ q)) p.0, q);
      }

  pub block_reduces : u₁ ≤ house.weight → (q : Quant) (vs : List Name) (h g : Formula) → block_kind q ≡ kind → length vs ≡ many → Reduces T M S (at + many) first O₁ n₁ u₁ (code h) (code g)
      → Reduces T M S at used O₂ n₁ v (map var_token vs ++ code h) (code (over_kept q (keep vs (free g)) g))
  block_reduces fits q vs h g d l k =
      record {
        ends = λ rest x.
            let c = tokens_cut T M (drop at S) (map var_token vs) n (length-map vs var_token ∙ l ∙ sym e) (rw append_assoc at x) in
            let y = k.ends rest (ap (tokens T M) (sym (ap (λ (m : ℕ). drop m (drop at S)) e ∙ drop-drop many at S)) ∙ c.1) in
            let z : tokens T M (take (u₁ - first) (drop first O₁)) ≡ code g ++ [] = ap (tokens T M) (between_is O₁ first u₁) ∙ y.1 ∙ sym (append-nil (code g)) in
            let names = f.names (omega (arith, length-take (u₁ - first) (drop first O₁))) g [] z in (
              y.0,
              b.formula T M q (keep vs (free g)) g d (ap (tokens T M) w ∙ rw (vars_spelled T M (take n (drop at S)) vs c.0) at names)
                  (omega (arith, keep_fits vs (free g) (free_once g))) y.1,
            );
      }

-- a whole formula: the run from its first word to its last, with an empty list
unmade_zeros : (n : ℕ) → Unmade (replicate n 0)
unmade_zeros n = record { each = go n }
  where
    go : (n i : ℕ) → is_made (get_or (replicate n 0) i 0) ≡ false
    go zero i = refl
    go (suc n) zero = refl
    go (suc n) (suc i) = go n i

pub simplified : {T M : Bytes} {S : List ℕ} {t : Table} {O L L' : List ℕ} {next used : ℕ} → length S ≤ house.weight → L ≡ replicate house.weight 0
    → Safe S 0 t.nodes 0 L O L' next used
    → ((f : Formula) → Reduces T M S 0 0 O next used (code f) (code (simplify f)))
    → Simplified T M S t (as_table O used)
simplified {O = O} {used = used} h l s k =
    let room : used ≤ house.weight = omega (arith, s.room, s.inside) in
    record {
      size = s.size;
      room = room;
      form = λ _ f q. record { room = room; words = ((k f).ends [] (q ∙ sym (append-nil (code f)))).1 };
      origin = λ u v. unmade_take used O (s.origin u (rw l (unmade_zeros house.weight)) v).0;
    }
