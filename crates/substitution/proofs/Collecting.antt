-- Runs that collect: one after another, the terms that are due, one at a node, and one over a block, which takes its variables out of its
-- body's list: what the body added is sifted when the body is read, and what stood in the list before stays.
use Rattle.std.specs.Prelude.{◌≡◌, refl, not, List, [], ◌∷◌, ◌++◌, map, ℕ, ◌+◌, ◌-◌, ◌<◌, ◌≤◌, length, get_or, take, drop}
use Rattle.std.proofs.Common.{sym, ap, ap₂, ◌∙◌, arith, add-one, append_assoc, length-append, length-drop, length-take, drop-drop}
use Rattle.std.proofs.lemmas.List.{take_rest, take_all}
use Rattle.std.proofs.Math.Seq.{slice, take-suc}
use Rattle.std.proofs.lemmas.List.{map-append, length-map, append_cancel_left}
use Rattle.definitions.specs.Bytes.{Bytes}
use Rattle.definitions.specs.Limits.{house}
use Rattle.definitions.specs.Syntax.{Name, Term, var, con, app, Terms, nil, cons, count, Formula}
use Rattle.definitions.specs.Names.{mem, union, without, keep, free, term_vars, terms_vars}
use Rattle.text.specs.Words.{Token, var_token, token, tokens, kind_of_word, count_of, term_code, terms_code, code, sides, below}
use Rattle.text.specs.Shapes.{code_splits, Shapes, by_shape}
use Rattle.text.specs.Streams.{behind_word, no_node as no_code}
use Rattle.substitution.specs.Runs.{spells, variable_in, staying, Keeps, Adds, Collects, Sifts, Notes, Safe, Spans, Within, Lists}
use Rattle.substitution.specs.Slices.{take_split}
use Rattle.substitution.specs.Unions.{filter_swap, union_nothing, nothing_union, union_assoc}
use Rattle.substitution.specs.Spelled.{tokens_cut, vars_spelled, those_spelled}
use Rattle.substitution.specs.Keeping.{unmade_take, unmade_drop, keeps_all, keeps_on, keeps_word}
use Rattle.substitution.proofs.Adding.{adds_none, adds_on}

module _ {T M : Bytes} {N S : List ℕ} {at : ℕ} {O : List ℕ} {used : ℕ} where
  -- nothing is read
  pub collects_none : Collects T M N S at O used O at used [] []
  collects_none = record { ends = λ rest e. (e, adds_none) }

  pub collects_on : {O₁ : List ℕ} {n₁ u₁ : ℕ} {O₂ : List ℕ} {n₂ u₂ : ℕ} {i j : List Token} {a b : List Name}
      → Collects T M N S at O used O₁ n₁ u₁ i a → Collects T M N S n₁ O₁ u₁ O₂ n₂ u₂ j b → Collects T M N S at O used O₂ n₂ u₂ (i ++ j) (union a b)
  collects_on {j = j} f g = record { ends = λ rest e. let x = f.ends (j ++ rest) (rw append_assoc at e) in let y = g.ends rest x.0 in (y.0, adds_on x.1 y.1) }

  module _ {O' : List ℕ} {next used' : ℕ} where
    -- at a node: what is below it
    pub at_node : at < length S → Shapes (kind_of_word (get_or S at 0)) (count_of (get_or S at 0)) (λ f. Collects T M N S (at + 1) O used O' next used' (below f) (free f))
        → (f : Formula) → Collects T M N S at O used O' next used' (code f) (free f)
    at_node h s f =
        record {
          ends = λ rest x.
              let y = behind_word T M S at h (x ∙ ap (λ (c : List Token). c ++ rest) (code_splits f)) in
              (by_shape T M (get_or S at 0) (λ f. Collects T M N S (at + 1) O used O' next used' (below f) (free f)) refl s f y.0).ends rest y.1;
        }

    pub no_node : length S ≤ at → (f : Formula) → Collects T M N S at O used O' next used' (code f) (free f)
    no_node h f = record { ends = λ rest x. absurd (no_code T M S at f rest h x) }

    -- the two sides of an equation are two terms
    pub two_sides : ((ts : Terms) → count ts ≡ 2 → Collects T M N S at O used O' next used' (terms_code ts) (terms_vars ts))
        → (t u : Term) → Collects T M N S at O used O' next used' (terms_code (sides t u)) (union (term_vars t) (term_vars u))
    unfolding terms_vars count
    two_sides h t u = rw (← (nothing_union (term_vars u))) (h (sides t u) refl)

    -- no room in the words for a block's variables
    pub block_past : {many : ℕ} → at ≤ length S → length S - at < many
        → (vs : List Name) (f : Formula) → length vs ≡ many → Collects T M N S at O used O' next used' (map var_token vs ++ code f) (without vs (free f))
    block_past l h vs f e = record { ends = λ rest x. absurd (omega (arith, simp (length-drop, length-append, length-map) at (ap length x))) }

-- the variables of tokens
unfoldable pub variables : List Token → List Name
variables [] = []
variables (t ∷ ts) = union (variable_in t) (variables ts)

variables_append : (a b : List Token) → variables (a ++ b) ≡ union (variables a) (variables b)
unfolding variables
variables_append [] b = sym (union_nothing (variables b))
variables_append (t ∷ a) b = ap (union (variable_in t)) (variables_append a b) ∙ sym (union_assoc (variable_in t) (variables a) (variables b))

mutual
  unfolding variables term_code terms_code term_vars terms_vars

  term_variables : (t : Term) → variables (term_code t) ≡ term_vars t
  term_variables (var x) = nothing_union (x ∷ [])
  term_variables (con c) = nothing_union []
  term_variables (app f ts) = union_nothing (variables (terms_code ts)) ∙ terms_variables ts

  terms_variables : (ts : Terms) → variables (terms_code ts) ≡ terms_vars ts
  terms_variables nil = refl
  terms_variables (cons t ts) = variables_append (term_code t) (terms_code ts) ∙ ap₂ union (term_variables t) (terms_variables ts)

-- the loop over words: the variables of the first k were added
pub record Noted (T M : Bytes) (N ws O : List ℕ) (used : ℕ) (O' : List ℕ) (have k : ℕ) : Type 0 where
  pub keeps : Keeps ws O used O' have
  pub short : have ≤ used + k
  pub adds : Adds T M N O used O' have (variables (tokens T M (take k ws)))

module _ {T M : Bytes} {N ws O : List ℕ} {used : ℕ} where
  pub none_noted : Noted T M N ws O used O used 0
  unfolding variables
  none_noted = record { keeps = keeps_all; short = omega arith; adds = adds_none }

  pub one_noted : {O₁ : List ℕ} {u₁ k : ℕ} {O₂ : List ℕ} {u₂ : ℕ} → Noted T M N ws O used O₁ u₁ k → k < length ws → Notes T M N (get_or ws k 0) O₁ u₁ O₂ u₂
      → Noted T M N ws O used O₂ u₂ (k + 1)
  unfolding variables
  one_noted {k = k} s h n =
      record {
        keeps = keeps_on s.keeps (keeps_word k n.keeps);
        short = omega (arith, s.short, n.short);
        adds =
            rw (
              add-one,
              take-suc ws k 0 h,
              map-append (token T M) (take k ws) (get_or ws k 0 ∷ []),
              variables_append (tokens T M (take k ws)) (token T M (get_or ws k 0) ∷ []),
              nothing_union (variable_in (token T M (get_or ws k 0))),
            ) (adds_on s.adds n.adds);
      }

-- the words of the terms that are due
module _ {T M : Bytes} {N S : List ℕ} {at due : ℕ} {O : List ℕ} {used n r : ℕ} {O' : List ℕ} {have k : ℕ} (w : Within S at used)
    (e : n ≡ r) (s : Spans (take (length S - at) (drop at S)) due r) (a : Noted T M N (take n (drop at S)) O used O' have k) (l : length (take n (drop at S)) ≤ k) where
  reach : r ≤ length S - at
  reach = omega (arith, s.inside, length-take (length S - at) (drop at S), length-drop at S)

  pub terms_safe : k ≤ length (take n (drop at S)) → Safe S at O used O' (at + r) have
  terms_safe h =
      record {
        keeps = record { size = a.keeps.size; kept = a.keeps.kept; more = a.keeps.more; origin = λ u v. a.keeps.origin (unmade_take n (drop at S) (unmade_drop at S u)) v };
        forth = omega arith;
        inside = omega (arith, reach, w.inside);
        room = omega (arith, a.short, w.room, length-take n (drop at S));
      }

  pub terms_collect : (ts : Terms) → count ts ≡ due → Collects T M N S at O used O' (at + r) have (terms_code ts) (terms_vars ts)
  terms_collect ts d =
      record {
        ends = λ rest x.
            let z = s.whole T M ts rest d (rw (take_rest S at) x) in
            let c = tokens_cut T M (drop at S) (terms_code ts) r (sym z) x in (
              ap (tokens T M) (sym (drop-drop r at S)) ∙ c.1,
              rw (← (terms_variables ts), ← c.0, ← e, ← (take_all k (take n (drop at S)) l)) a.adds,
            );
      }

-- a block: at the variables from `at` to `body`
module _ {S : List ℕ} {at : ℕ} {O : List ℕ} {used : ℕ} {O₁ : List ℕ} {n₁ u₁ : ℕ} {O₂ : List ℕ} {u₂ n : ℕ} {T M : Bytes}
    (many : ℕ) (e : n ≡ many) (s : Safe S (at + many) O used O₁ n₁ u₁) (t : Sifts T M (take n (drop at S)) O₁ used u₁ O₂ u₂) where
  pub block_collects : {N : List ℕ} (vs : List Name) (f : Formula) → length vs ≡ many → Collects T M N S (at + many) O used O₁ n₁ u₁ (code f) (free f)
      → Collects T M N S at O used O₂ n₁ u₂ (map var_token vs ++ code f) (without vs (free f))
  block_collects {N} vs f l k =
      record {
        ends = λ rest x.
            let c = tokens_cut T M (drop at S) (map var_token vs) n (length-map vs var_token ∙ l ∙ sym e) (rw append_assoc at x) in
            let y = k.ends rest (ap (tokens T M) (sym (ap (λ (m : ℕ). drop m (drop at S)) e ∙ drop-drop many at S)) ∙ c.1) in
            (y.0, record { list = λ l g. list c.0 y.1 l g });
      }
    where
      -- what the body added, and what is left of it
      list : tokens T M (take n (drop at S)) ≡ map var_token vs → Adds T M N O used O₁ u₁ (free f) → (l : List Name)
          → tokens T M (take used O) ≡ map var_token l → tokens T M (take u₂ O₂) ≡ map var_token (union l (keep (spells T M N) (without vs (free f))))
      list v a l g =
          let asked = spells T M N in
          let whole : tokens T M (take used O₁) ++ tokens T M (slice used u₁ O₁) ≡ map var_token l ++ map var_token (without l (keep (spells T M N) (free f))) = sym (ap (tokens T M) (take_split used u₁ O₁ s.keeps.more) ∙ map-append (token T M) (take used O₁) (slice used u₁ O₁)) ∙ a.list l g ∙ map-append var_token l (without l (keep asked (free f))) in
          let added : tokens T M (slice used u₁ O₁) ≡ map var_token (without l (keep (spells T M N) (free f))) = append_cancel_left (map var_token l) _ _ (rw (s.keeps.kept, g) at whole) in
          let left = ap (tokens T M) t.words ∙ those_spelled T M (staying (spells T M (take n (drop at S)))) (slice used u₁ O₁) (without l (keep asked (free f))) added in
          ap (tokens T M) (take_split used u₂ O₂ t.keeps.more)
          ∙ map-append (token T M) (take used O₂) (slice used u₂ O₂)
          ∙ rw (t.keeps.kept, s.keeps.kept, g, left, vars_spelled T M (take n (drop at S)) vs v)
          (sym (map-append var_token l (without vs (without l (keep asked (free f))))) ∙ ap (λ (x : List Name). map var_token (l ++ x)) (filter_swap (λ x. not (mem x vs)) (λ x. not (mem x l)) (keep asked (free f)) ∙ ap (without l) (filter_swap (λ x. not (mem x vs)) (λ x. mem x asked) (free f))))

-- the whole list
pub lists_free : {T M : Bytes} {N S O O' : List ℕ} {next r : ℕ} → length S ≤ house.weight → Safe S 0 O 0 O' next r
    → ((f : Formula) → Collects T M N S 0 O 0 O' next r (code f) (free f)) → Lists T M N S O O' r
lists_free {T} {M} {N} h s k =
    record {
      short = omega (arith, s.room, s.inside);
      size = s.keeps.size;
      origin = s.keeps.origin;
      names = λ _ f rest e. ((k f).ends rest e).1.list [] refl ∙ ap (map var_token) (union_nothing (keep (spells T M N) (free f)));
    }
