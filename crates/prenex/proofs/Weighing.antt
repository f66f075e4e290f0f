-- The weight of a node from its parts'. A part's clamped weight is enough: what is added to it only passes the limit further.
use Rattle.std.specs.Prelude.{Option, None, Some, MatchOption}
use mathlib.Core.Path.{◌≡◌, refl, sym, ap, ◌∙◌}
use mathlib.Core.List.{List, ◌++◌, map, append_assoc}
use Prim.Native.Nat.{ℕ, ◌+◌, ◌*◌, ◌<◌, ◌≤◌}
use native.Mathlib.Omega.{arith}
use lib.ListN.{length, drop, get_or, length-map}
use Rattle.definitions.specs.Bytes.{Bytes}
use Rattle.definitions.specs.Syntax.{Name, count, terms_weight, Op, and, or, imp, iff, Formula, bin, weight}
use Rattle.text.specs.Words.{Token, var_token, tokens, kind_of_word, count_of, op_kind, code, sides}
use Rattle.text.specs.Weights.{words_weight}
use Rattle.text.specs.Shapes.{Shapes, by_shape, code_splits, shaped, shaped_constant, shaped_binary, shaped_block, no_shape}
use Rattle.text.specs.Streams.{Behind, behind_word, behind_part, no_node}
use Rattle.prenex.specs.Weights.{outward_weight, clamped, Atom, Weighs}
use Rattle.prenex.specs.declared.weight.Weighed.{Weighed}

-- what follows a formula
pub behind_formula : (T M : Bytes) (S : List ℕ) (at n : ℕ) (f : Formula) {rest : List Token} → tokens T M (drop at S) ≡ code f ++ rest → n ≡ at + weight f → tokens T M (drop n S) ≡ rest
behind_formula T M S at n f {rest} x e =
    let z : n ≡ at + length (code f) = omega (arith, words_weight f) in
    ap (λ (k : ℕ). tokens T M (drop k S)) z ∙ behind_part T M S at (code f) x

-- a word of the kind k stands at `at`
pub record At (S : List ℕ) (at k : ℕ) : Type 0 where
  pub below : at < length S
  pub kind : kind_of_word (get_or S at 0) ≡ k

module _ (T M : Bytes) where
  -- as `at_node` of the crate `text` says it of the words of a whole table
  pub at_node : {S : List ℕ} {at k : ℕ} (G : Formula → List Token → Type 0) → At S at k → Shapes k (count_of (get_or S at 0)) (Behind T M S at G)
      → (f : Formula) (rest : List Token) → tokens T M (drop at S) ≡ code f ++ rest → G f rest
  at_node {S} {at} G h s f rest x =
      let y = behind_word T M S at h.below (x ∙ ap (λ (c : List Token). c ++ rest) (code_splits f)) in
      by_shape T M (get_or S at 0) (Behind T M S at G) h.kind s f y.0 rest y.0 y.1

-- the word at `at`
pub here : {S : List ℕ} {at : ℕ} → at < length S → At S at (kind_of_word (get_or S at 0))
here b = record { below = b; kind = refl }

-- past the end of the source
pub nowhere_weighs : {S : List ℕ} {at : ℕ} → length S ≤ at → Weighs S at None
nowhere_weighs {S} {at} h = record { near = tt; told = λ T M f rest x. no_node T M S at f rest h x }

module _ {S : List ℕ} {at k : ℕ} (h : At S at k) where
  -- what is told of each formula that may begin there
  abbrev Is : Weighed → Formula → List Token → Type 0
  Is w f rest = (w.next ≡ at + weight f) × (w.weight ≡ clamped (outward_weight f))

  abbrev IsNone : Formula → List Token → Type 0
  IsNone f rest = ⊥

  pub no_formula : 10 < k → Weighs S at None
  no_formula g = record { near = tt; told = λ T M. at_node T M IsNone h (no_shape g) }

  pub constant_weighs : k ≤ 1 → Weighs S at (Some (record { next = at + 1; weight = 1 }))
  unfolding weight outward_weight
  constant_weighs g = record {
    near = (omega arith, omega (arith, h.below), omega arith);
    told = λ T M. at_node T M (Is (record { next = at + 1; weight = 1 })) h (shaped_constant g (λ rest w x. (refl, refl)) (λ rest w x. (refl, refl)));
  }

  pub not_none : k ≡ 2 → Weighs S (at + 1) None → Weighs S at None
  not_none g w = record { near = tt; told = λ T M. at_node T M IsNone h (shaped 2 g (λ a rest t x. w.told T M a rest x)) }

  pub not_weighs : {p : Weighed} {n : ℕ} → k ≡ 2 → Weighs S (at + 1) (Some p) → n ≡ clamped (1 + p.weight) → Weighs S at (Some (record { next = p.next; weight = n }))
  unfolding weight outward_weight
  not_weighs {p} {n} g w e = record {
    near = let i = w.near in (omega arith, omega arith, omega arith);
    told = λ T M. at_node T M (Is (record { next = p.next; weight = n })) h (shaped 2 g (λ a rest t x. let i = w.told T M a rest x in (omega arith, omega arith)));
  }

  pub left_none : 2 < k → k ≤ 6 → Weighs S (at + 1) None → Weighs S at None
  left_none f g w = record {
    near = tt;
    told = λ T M. at_node T M IsNone h (shaped_binary f (omega arith) (λ o z a b rest t x. w.told T M a (code b ++ rest) (x ∙ append_assoc (code a) (code b) rest)));
  }

  module _ {l : Weighed} (w : Weighs S (at + 1) (Some l)) where
    -- the two parts behind a binary node's word
    module _ (T M : Bytes) (a b : Formula) (rest : List Token) (x : tokens T M (drop (at + 1) S) ≡ (code a ++ code b) ++ rest) where
      left : tokens T M (drop (at + 1) S) ≡ code a ++ (code b ++ rest)
      left = x ∙ append_assoc (code a) (code b) rest

      first : (l.next ≡ at + 1 + weight a) × (l.weight ≡ clamped (outward_weight a))
      first = w.told T M a (code b ++ rest) left

      right : tokens T M (drop l.next S) ≡ code b ++ rest
      right = behind_formula T M S (at + 1) l.next a left first.0

    pub right_none : 2 < k → k ≤ 6 → Weighs S l.next None → Weighs S at None
    right_none f g v = record {
      near = tt;
      told = λ T M. at_node T M IsNone h (shaped_binary f (omega arith) (λ o z a b rest t x. v.told T M b rest (right T M a b rest x)));
    }

    module _ {r : Weighed} (v : Weighs S l.next (Some r)) where
      second : (T M : Bytes) (a b : Formula) (rest : List Token) → tokens T M (drop (at + 1) S) ≡ (code a ++ code b) ++ rest
          → (r.next ≡ l.next + weight b) × (r.weight ≡ clamped (outward_weight b))
      second T M a b rest x = v.told T M b rest (right T M a b rest x)

      pub both_weigh : {n : ℕ} → 2 < k → k ≤ 5 → n ≡ clamped (1 + l.weight + r.weight) → Weighs S at (Some (record { next = r.next; weight = n }))
      unfolding weight outward_weight
      both_weigh {n} f g e = record {
        near = let i = w.near in let j = v.near in (omega arith, omega arith, omega arith);
        told = λ T M. at_node T M (Is (record { next = r.next; weight = n })) h (shaped_binary f (omega arith) (λ o z a b rest t x. part o z a b (first T M a b rest x) (second T M a b rest x)));
      }
        where
          part : (o : Op) → op_kind o ≡ k → (a b : Formula) → (l.next ≡ at + 1 + weight a) × (l.weight ≡ clamped (outward_weight a))
              → (r.next ≡ l.next + weight b) × (r.weight ≡ clamped (outward_weight b)) → (r.next ≡ at + weight (bin o a b)) × (n ≡ clamped (outward_weight (bin o a b)))
          part and z a b x y = (omega arith, omega arith)
          part or z a b x y = (omega arith, omega arith)
          part imp z a b x y = (omega arith, omega arith)
          part iff z a b x y = absurd (omega arith)

      pub iff_weighs : {n : ℕ} → k ≡ 6 → n ≡ clamped (3 + 2 * (l.weight + r.weight)) → Weighs S at (Some (record { next = r.next; weight = n }))
      unfolding weight outward_weight
      iff_weighs {n} g e = record {
        near = let i = w.near in let j = v.near in (omega arith, omega arith, omega arith);
        told = λ T M. at_node T M (Is (record { next = r.next; weight = n })) h
            (shaped 6 g (λ a b rest t x. let i = first T M a b rest x in let j = second T M a b rest x in (omega arith, omega arith)));
      }

  -- atoms weigh as much as they have words
  module _ (r : Option Weighed) where
    abbrev Told : Formula → List Token → Type 0
    Told f rest = MatchOption r ⊥ (λ w. (w.next ≡ at + weight f) × (w.weight ≡ clamped (outward_weight f)))

    heavier : (r : Option Weighed) → MatchOption r Unit (λ w. (at < w.next) × (w.next ≤ length S) × (w.weight ≤ 1024))
        → MatchOption r Unit (λ w. (at < w.next) × (w.next ≤ length S) × (w.weight ≤ 1025))
    heavier None x = tt
    heavier (Some w) x = (omega arith, omega arith, omega arith)

    as_told : (n m s : ℕ) (r : Option Weighed) → MatchOption r Unit (λ w. (at < w.next) × (w.next ≤ length S) × (w.weight ≤ 1024))
        → MatchOption r ⊥ (λ w. (w.next ≡ at + 1 + s) × (w.weight ≡ 1 + s)) → n ≡ 1 + s → m ≡ 1 + s
        → MatchOption r ⊥ (λ w. (w.next ≡ at + n) × (w.weight ≡ clamped m))
    as_told n m s None y x a b = x
    as_told n m s (Some w) y x a b = (omega arith, omega arith)

    pub equation_weighs : k ≡ 7 → Atom S at 2 r → Weighs S at r
    unfolding weight outward_weight terms_weight count
    equation_weighs g d = record {
      near = heavier r d.near;
      told = λ T M. at_node T M Told h (shaped 7 g (λ t u rest s x. as_told _ _ (terms_weight (sides t u)) r d.near (d.ends T M (sides t u) rest refl x) (omega arith) (omega arith)));
    }

    pub predicate_weighs : {c : ℕ} → k ≡ 10 → c ≡ count_of (get_or S at 0) → Atom S at c r → Weighs S at r
    unfolding weight outward_weight
    predicate_weighs {c} g i d = record {
      near = heavier r d.near;
      told = λ T M. at_node T M Told h (shaped 10 g (λ p ts l rest s x. as_told _ _ (terms_weight ts) r d.near (d.ends T M ts rest (l ∙ sym i) x) refl refl));
    }

  module _ {c : ℕ} (f : 7 < k) (g : k ≤ 9) (i : c ≡ count_of (get_or S at 0)) where
    body : (T M : Bytes) (vs : List Name) → length vs ≡ count_of (get_or S at 0) → (a : Formula) (rest : List Token) → tokens T M (drop (at + 1) S) ≡ (map var_token vs ++ code a) ++ rest
        → tokens T M (drop (at + 1 + c) S) ≡ code a ++ rest
    body T M vs l a rest x =
        let z : c ≡ length (map var_token vs) = i ∙ sym (length-map vs var_token ∙ l) in
        ap (λ (j : ℕ). tokens T M (drop (at + 1 + j) S)) z ∙ behind_part T M S (at + 1) (map var_token vs) (x ∙ append_assoc (map var_token vs) (code a) rest)

    pub block_none : Weighs S (at + 1 + c) None → Weighs S at None
    block_none w = record { near = tt; told = λ T M. at_node T M IsNone h (shaped_block f g (λ q z vs l a rest t x. w.told T M a rest (body T M vs l a rest x))) }

    pub block_weighs : {n : ℕ} {p : Weighed} → Weighs S (at + 1 + c) (Some p) → n ≡ clamped (1 + c + p.weight) → Weighs S at (Some (record { next = p.next; weight = n }))
    unfolding weight outward_weight
    block_weighs {n} {p} w e = record {
      near = let j = w.near in (omega arith, omega arith, omega arith);
      told = λ T M. at_node T M (Is (record { next = p.next; weight = n })) h
          (shaped_block f g (λ q z vs l a rest t x. let j = w.told T M a rest (body T M vs l a rest x) in (omega (arith, i, l), omega (arith, i, l))));
    }
