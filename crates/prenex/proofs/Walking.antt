-- The walk over a rule, node by node: what each kind of node comes to, from what its parts come to.
use mathlib.Core.Path.{◌≡◌, refl, sym, ap, ap₂, subst, ◌∙◌}
use mathlib.Core.Bool.{Bool, true, not}
use mathlib.Core.List.{List, [], ◌∷◌, ◌++◌, map, append_assoc, append-nil}
use mathlib.Core.Logic.{◌⊎◌, inl, inr}
use Prim.Native.Nat.{ℕ, ◌+◌, ◌*◌, ◌≤◌, ◌<◌}
use native.Mathlib.Omega.{arith}
use lib.ListN.{length, take, drop, get_or, length-map}
use Rattle.definitions.specs.Bytes.{Bytes}
use Rattle.definitions.specs.Syntax.{Name, Op, and, or, imp, iff, Quant, Formula, neg, bin, blk}
use Rattle.definitions.specs.Prenex.{Prenex, merge, outward, no_block}
use Rattle.definitions.proofs.Laws.Prenex.{outward_no_block}
use Rattle.text.specs.Words.{Token, var_token, sign, token, tokens, count_of, op_kind, block_kind, code}
use Rattle.text.specs.WordLaws.{sign_word}
use Rattle.text.specs.Shapes.{shaped, shaped_binary, shaped_block}
use Rattle.text.specs.Streams.{behind_part}
use Rattle.text.specs.Prefixes.{prefix_code}
use Rattle.prenex.specs.Walk.{Side, turning, left_sign, each, coded}
use Rattle.prenex.specs.Tables.{Ready}
use Rattle.prenex.specs.Weights.{Weighs}
use Rattle.prenex.specs.Writing.{Plain, Reads, End, Extends, Written, Appends, Between, BlockEnd, Halts, Blocks, Keeps}
use Rattle.prenex.specs.Outward.{Begins, Runs, RunsBoth, pair_side, iff_side, Ended, Turned}
use Rattle.std.specs.Prelude.{None, Result, Ok, Err, OnOk}
use Rattle.text.specs.Kinds.{number}
use Rattle.text.specs.declared.kind.Kind.{Kind}
use Rattle.text.specs.declared.kind.Kind.TheVariants.{Top, Bottom, And, Or, Equals, Predicate}
use Rattle.text.specs.declared.table.Table.{Table}
use Rattle.prenex.specs.Renaming.{topped, node_side}
use Rattle.prenex.specs.declared.write.Stop.{Stop}
use Rattle.prenex.specs.declared.write.Stop.TheVariants.{Unfit, Long}
use Rattle.prenex.proofs.Merged.{merge_prefix, merge_matrix, turned_flips}
use Rattle.prenex.proofs.Words.{tokens_kept}
use Rattle.prenex.proofs.Weighing.{behind_formula, At, at_node}
use Rattle.prenex.proofs.Blocking.{between_none, halts_here, halts_on}
use Rattle.prenex.proofs.Composing.{topped_stops, topped_ends, behind_block, block_stops, block_ends}
use Rattle.prenex.proofs.Nodes.{safe_put, safe_on}

-- a binary node's word, and the node over two forms
op_token : (T : Bytes) (o : Op) → token T [] (op_kind o) ≡ sign (op_kind o) 0 []
op_token T and = refl
op_token T or = refl
op_token T imp = refl
op_token T iff = refl

pub as_node : (T : Bytes) (o : Op) (turn flip : Bool) (x y : Prenex) → turn ≡ left_sign o flip → no_block x.matrix ≡ true → no_block y.matrix ≡ true
    → node_side (token T [] (op_kind o)) (coded turn x) (coded flip y) ≡ coded flip (merge o x y)
as_node T o turn flip x y f a b =
    ap₂ (λ (t : Token) (c : Bool). node_side t (coded c x) (coded flip y)) (op_token T o) f
    ∙ ap₂ (λ (p m : List Token). record { prefix = p; matrix = m }) (merge_prefix o flip x y a b) (merge_matrix o flip x y a b)

-- the node o over the forms of two formulae
abbrev over : Op → Formula → Formula → Prenex
over o a b = merge o (outward a) (outward b)

pub imp_no_block : (a c : Formula) → no_block (over imp a c).matrix ≡ true
unfolding outward
imp_no_block a c = outward_no_block (bin imp a c)

-- Whatever the source holds: a run that writes behind the matrix alone, and a run behind another.
keeps_put : {M : Bytes} {P : Table} (W W' : Table) (r : Result Unit Stop) → Ready M P.nodes P.used W.nodes → OnOk r (Extends W W') → Keeps M P W M P W' r
keeps_put W W' (Ok u) d x = safe_put d x
keeps_put W W' (Err e) d x = halts_here d.places.used

keeps_on : {M M₁ : Bytes} (P W P₁ W₁ : Table) (M' : Bytes) (P' W' : Table) (r : Result Unit Stop) → Between M P.used P₁.used M₁ → W.used ≤ W₁.used
    → Keeps M₁ P₁ W₁ M' P' W' r → Keeps M P W M' P' W' r
keeps_on P W P₁ W₁ M' P' W' (Ok u) b h s = safe_on b h s
keeps_on P W P₁ W₁ M' P' W' (Err e) b h s = halts_on b s

module _ (T : Bytes) {M : Bytes} {P W : Table} {S : List ℕ} (b : Begins M P W) (flip : Bool) {at : ℕ} where
  -- there is no formula
  pub runs_none : Weighs S at None → Runs T M P W S at flip M P W (Err Unfit)
  runs_none w = record { safe = halts_here b.ready.places.used; does = λ f rest pl r. absurd (w.told T [] f rest r.stream) }

  module _ {k : ℕ} (h : At S at k) where
    module _ (M' : Bytes) (P' W' : Table) (r : Result Unit Stop) (s : Keeps M P W M' P' W' r) where
      as_form : (f : Formula) (x : Side) → x ≡ coded flip (outward f) → End T M P W M' P' W' r x → End T M P W M' P' W' r (coded flip (outward f))
      as_form f x e y = subst (λ (s : Side). End T M P W M' P' W' r s) e y

      -- what the parts read, one behind the other
      abbrev Gives : Formula → List Token → Type 0
      Gives f rest = End T M P W M' P' W' r (coded flip (outward f))

      given : (Plain S → (f : Formula) (rest : List Token) → tokens T [] (drop at S) ≡ code f ++ rest → Gives f rest) → Runs T M P W S at flip M' P' W' r
      given g = record { safe = s; does = λ f rest pl rd. g pl f rest rd.stream }

    -- an atom is its own form
    module _ (W' : Table) (r : Result Unit Stop) (x : OnOk r (Extends W W')) (a : (f : Formula) (rest : List Token) → Plain S → Reads T S at (code f) rest → Appends T W W' r (code f)) where
      appended : (r : Result Unit Stop) (l : List Token) → Appends T W W' r l → End T M P W M P W' r (record { prefix = []; matrix = l })
      appended (Ok u) l a = record { prefix = sym (append-nil (take P.used (tokens T M P.nodes))); matrix = a.words M }
      appended (Err Unfit) l a = omega arith
      appended (Err Long) l a = absurd a

      abbrev Own : Formula → List Token → Type 0
      Own f rest = coded flip (outward f) ≡ record { prefix = []; matrix = code f }

      own : ((f : Formula) (rest : List Token) → tokens T [] (drop at S) ≡ code f ++ rest → Own f rest) → Runs T M P W S at flip M P W' r
      own g = record { safe = keeps_put W W' r b.ready x; does = λ f rest pl rd. as_form M P W' r (keeps_put W W' r b.ready x) f _ (sym (g f rest rd.stream)) (appended r (code f) (a f rest pl rd)) }

      pub runs_atom : {kind : Kind} → k ≡ number kind → (kind ≡ Top) ⊎ ((kind ≡ Bottom) ⊎ ((kind ≡ Equals) ⊎ (kind ≡ Predicate))) → Runs T M P W S at flip M P W' r
      unfolding outward each prefix_code
      runs_atom e (inl i) = own (at_node T [] Own h (shaped 0 (e ∙ ap number i) (λ rest w x. refl)))
      runs_atom e (inr (inl i)) = own (at_node T [] Own h (shaped 1 (e ∙ ap number i) (λ rest w x. refl)))
      runs_atom e (inr (inr (inl i))) = own (at_node T [] Own h (shaped 7 (e ∙ ap number i) (λ t u rest w x. refl)))
      runs_atom e (inr (inr (inr i))) = own (at_node T [] Own h (shaped 10 (e ∙ ap number i) (λ p ts l rest w x. refl)))

    -- a negation: its word, and its part with the other sign
    module _ (z : k ≡ 2) where
      negated : (a : Formula) → topped (sign 2 0 []) (coded (not flip) (outward a)) ≡ coded flip (outward (neg a))
      unfolding outward code
      negated a = ap (λ (l : List Token). record { prefix = l; matrix = sign 2 0 [] ∷ code (outward a).matrix }) (ap prefix_code (sym (turned_flips flip (outward a).prefix)))

      pub not_stops : (W₁ : Table) (e : Stop) → Appends T W W₁ (Err e) (token T [] 2 ∷ []) → Runs T M P W S at flip M P W₁ (Err e)
      not_stops W₁ e p = let s : Halts M P M P = halts_here b.ready.places.used in given M P W₁ (Err e) s (λ pl. at_node T [] (Gives M P W₁ (Err e) s) h
          (shaped 2 z (λ a rest t y. as_form M P W₁ (Err e) s (neg a) _ (negated a) (topped_stops T W W₁ (token T [] 2) e P.used (coded (not flip) (outward a)) p))))

      pub runs_not : {W₁ : Table} → Extends W W₁ → Written T W W₁ (token T [] 2 ∷ []) → {M' : Bytes} {P' W' : Table} (r : Result Unit Stop) → Runs T M P W₁ S (at + 1) (not flip) M' P' W' r
          → Runs T M P W S at flip M' P' W' r
      unfolding code
      runs_not {W₁} x p {M'} {P'} {W'} r g = let s = keeps_on P W P W₁ M' P' W' r (between_none M P.used) x.more g.safe in given M' P' W' r s (λ pl. at_node T [] (Gives M' P' W' r s) h
          (shaped 2 z (λ a rest t y. as_form M' P' W' r s (neg a) _ (negated a)
          (topped_ends b.ready.matrix_size b.room x p M P M' P' W' r (coded (not flip) (outward a)) (g.does a rest pl (record { stream = y }))))))

    -- a binary node with no left part
    pub runs_unended : {e : Stop} → 2 < k → k ≤ 6 → Ended S (at + 1) (Err e) → Runs T M P W S at flip M P W (Err e)
    runs_unended low high v = record {
      safe = halts_here b.ready.places.used;
      does = λ f rest pl r.
          absurd (at_node T [] (λ f rest. ⊥) h (shaped_binary low (omega arith) (λ o z a c rest t x. v.ends T [] a (code c ++ rest) (x ∙ append_assoc (code a) (code c) rest))) f rest r.stream);
    }

    -- the two parts of a binary node
    module _ {n : ℕ} (v : Ended S (at + 1) (Ok n)) where
      parts_read : (a c : Formula) (rest : List Token) → tokens T [] (drop (at + 1) S) ≡ (code a ++ code c) ++ rest
          → Reads T S (at + 1) (code a) (code c ++ rest) × Reads T S n (code c) rest
      parts_read a c rest y =
          let l : tokens T [] (drop (at + 1) S) ≡ code a ++ (code c ++ rest) = y ∙ append_assoc (code a) (code c) rest in
          let j = v.ends T [] a (code c ++ rest) l in (
            record { stream = l },
            record { stream = behind_formula T [] S (at + 1) n a l j },
          )

    implied : (a c : Formula) → pair_side T 5 (not flip) flip a c ≡ coded flip (over imp a c)
    implied a c = as_node T imp (not flip) flip (outward a) (outward c) refl (outward_no_block a) (outward_no_block c)

    module _ {n : ℕ} {M' : Bytes} {P' W' : Table} (r : Result Unit Stop) (v : Ended S (at + 1) (Ok n)) where
      both : {side : Formula → Formula → Side} → RunsBoth T M P W S (at + 1) n M' P' W' r side → Plain S → (a c : Formula) (rest : List Token)
          → tokens T [] (drop (at + 1) S) ≡ (code a ++ code c) ++ rest → End T M P W M' P' W' r (side a c)
      both g pl a c rest y = let q = parts_read v a c rest y in g.does a c (code c ++ rest) rest pl q.0 q.1

      pub runs_binary : {kind : Kind} → k ≡ number kind → (kind ≡ And) ⊎ (kind ≡ Or) → RunsBoth T M P W S (at + 1) n M' P' W' r (pair_side T (number kind) flip flip) → Runs T M P W S at flip M' P' W' r
      unfolding outward code
      runs_binary e (inl j) g' = let g = rw j at g' in given M' P' W' r g.safe (λ pl. at_node T [] (Gives M' P' W' r g.safe) h
          (shaped 3 (e ∙ ap number j) (λ a c rest t y. as_form M' P' W' r g.safe (bin and a c) _ (as_node T and flip flip (outward a) (outward c) refl (outward_no_block a) (outward_no_block c)) (both g pl a c rest y))))
      runs_binary e (inr j) g' = let g = rw j at g' in given M' P' W' r g.safe (λ pl. at_node T [] (Gives M' P' W' r g.safe) h
          (shaped 4 (e ∙ ap number j) (λ a c rest t y. as_form M' P' W' r g.safe (bin or a c) _ (as_node T or flip flip (outward a) (outward c) refl (outward_no_block a) (outward_no_block c)) (both g pl a c rest y))))

      pub runs_imp : k ≡ 5 → RunsBoth T M P W S (at + 1) n M' P' W' r (pair_side T 5 (not flip) flip) → Runs T M P W S at flip M' P' W' r
      unfolding outward code
      runs_imp z g = given M' P' W' r g.safe (λ pl. at_node T [] (Gives M' P' W' r g.safe) h
          (shaped 5 z (λ a c rest t y. as_form M' P' W' r g.safe (bin imp a c) _ (as_node T imp (not flip) flip (outward a) (outward c) refl (outward_no_block a) (outward_no_block c)) (both g pl a c rest y))))

      pub runs_iff : k ≡ 6 → RunsBoth T M P W S (at + 1) n M' P' W' r (iff_side T flip) → Runs T M P W S at flip M' P' W' r
      unfolding outward code
      runs_iff z g = given M' P' W' r g.safe (λ pl. at_node T [] (Gives M' P' W' r g.safe) h
          (shaped 6 z (λ a c rest t y. as_form M' P' W' r g.safe (bin iff a c) _
          (ap₂ (node_side (token T [] 3)) (implied a c) (implied c a) ∙ as_node T and flip flip (over imp a c) (over imp c a) refl (imp_no_block a c) (imp_no_block c a))
          (both g pl a c rest y))))

    -- a block: its head and variables, and its body
    module _ {c t : ℕ} {M₁ : Bytes} {P₁ : Table} (low : 7 < k) (high : k ≤ 9) (count : c ≡ count_of (get_or S at 0)) (turn : Turned (get_or S at 0) flip t)
        {j : Result Unit Stop} (g : Blocks T M P S (at + 1) c t M₁ P₁ j) where
      long : (q : Quant) (vs : List Name) → token T [] (get_or S at 0) ≡ sign (block_kind q) (length vs) [] → length vs ≡ c
      long q vs e = sym (count ∙ (sign_word T [] (get_or S at 0) e).1)

      blocked : (q : Quant) (vs : List Name) (a : Formula) → behind_block (sign (block_kind (turning flip q)) (length vs) []) vs (coded flip (outward a)) ≡ coded flip (outward (blk q vs a))
      unfolding outward each prefix_code
      blocked q vs a = refl

      variables_read : (vs : List Name) (a : Formula) (rest : List Token) → tokens T [] (drop (at + 1) S) ≡ (map var_token vs ++ code a) ++ rest
          → Reads T S (at + 1) (map var_token vs) (code a ++ rest)
      variables_read vs a rest y = record { stream = y ∙ append_assoc (map var_token vs) (code a) rest }

      ends : Plain S → (q : Quant) (vs : List Name) (a : Formula) (rest : List Token) → token T [] (get_or S at 0) ≡ sign (block_kind q) (length vs) []
          → tokens T [] (drop (at + 1) S) ≡ (map var_token vs ++ code a) ++ rest → BlockEnd T M P M₁ P₁ j (sign (block_kind (turning flip q)) (length vs) []) vs
      ends pl q vs a rest e y =
          subst (λ (u : Token). BlockEnd T M P M₁ P₁ j u vs) (turn.head T q (length vs) e) (g.ends vs (code a ++ rest) pl (long q vs e) (variables_read vs a rest y))

    module _ {c t : ℕ} {M₁ : Bytes} {P₁ : Table} (low : 7 < k) (high : k ≤ 9) (count : c ≡ count_of (get_or S at 0)) (turn : Turned (get_or S at 0) flip t) where
      pub blocks_stop : (W' : Table) (e : Stop) → Blocks T M P S (at + 1) c t M₁ P₁ (Err e) → Runs T M P W S at flip M₁ P₁ W' (Err e)
      blocks_stop W' e g = given M₁ P₁ W' (Err e) g.safe (λ pl. at_node T [] (Gives M₁ P₁ W' (Err e) g.safe) h
          (shaped_block low high (λ q z vs l a rest x y. as_form M₁ P₁ W' (Err e) g.safe (blk q vs a) _ (blocked low high count turn g q vs a)
          (block_stops T M P M₁ P₁ (block_kind (turning flip q)) (length vs) [] vs W.used (coded flip (outward a)) e (ends low high count turn g pl q vs a rest x y)))))

      module _ (g : Blocks T M P S (at + 1) c t M₁ P₁ (Ok tt)) where
        pub runs_block : {M' : Bytes} {P' W' : Table} (r : Result Unit Stop) → Runs T M₁ P₁ W S (at + 1 + c) flip M' P' W' r → Runs T M P W S at flip M' P' W' r
        runs_block {M'} {P'} {W'} r j = let s = keeps_on P W P₁ W M' P' W' r g.safe.1 (omega arith) j.safe in given M' P' W' r s (λ pl. at_node T [] (Gives M' P' W' r s) h
            (shaped_block low high (λ q z vs l a rest x y. as_form M' P' W' r s (blk q vs a) _ (blocked low high count turn g q vs a)
            (block_ends T M P M₁ P₁ (block_kind (turning flip q)) (length vs) [] vs b.ready.places g.safe.0 (ends low high count turn g pl q vs a rest x y) W M' P' W' r (coded flip (outward a))
            (tokens_kept T M₁ M (25 * P.used) g.safe.1.before W.nodes b.ready.matrix_known) (j.does a rest pl (body q vs a rest x y))))))
          where
            body : (q : Quant) (vs : List Name) (a : Formula) (rest : List Token) → token T [] (get_or S at 0) ≡ sign (block_kind q) (length vs) []
                → tokens T [] (drop (at + 1) S) ≡ (map var_token vs ++ code a) ++ rest → Reads T S (at + 1 + c) (code a) rest
            body q vs a rest e y =
                let z : c ≡ length (map var_token vs) = sym (long low high count turn g q vs e) ∙ sym (length-map vs var_token) in
                record {
                  stream = ap (λ (j : ℕ). tokens T [] (drop (at + 1 + j) S)) z ∙ behind_part T [] S (at + 1) (map var_token vs) (y ∙ append_assoc (map var_token vs) (code a) rest);
                }
