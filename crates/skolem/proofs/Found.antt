-- The head that a variable of the matrix belongs to, and what the matrix becomes: where no function has more than 32 arguments it is the
-- matrix of the Skolem form, and where one has, it has one too.
use mathlib.Core.Path.{◌≡◌, refl, sym, ap, ap₂, ◌∙◌}
use mathlib.Core.Bool.{Bool, true, false, ◌||◌, cond}
use mathlib.Core.List.{List, [], ◌∷◌, ◌++◌, map, map-append, flat_map, append_assoc, append-nil}
use Prim.Native.Nat.{ℕ, suc, ◌≤◌, ◌<◌, min, max}
use native.Mathlib.Omega.{arith}
use borrow.Author.Tests.{leb-true, leb-false}
use lib.Dec.{leb}
use lib.ListN.{length, take, length-map, length-take}
use lib.Seq.{take-append_seam, take-take}
use Rattle.definitions.specs.Bytes.{same}
use Rattle.definitions.specs.Syntax.{Name, Term, var, con, app, Terms, nil, cons, count, Quant, all, ex, Formula, top, bot, pred, eq, neg, bin, blk, Op, and, or, imp, iff}
use Rattle.definitions.specs.Names.{mem, without, widest, term_widest, terms_widest}
use Rattle.definitions.specs.Prenex.{Prefix, plain, more}
use Rattle.definitions.specs.Skolem.{Counts, function_name, first_number, counts_after, as_vars, skolem_term, binders}
use Rattle.definitions.proofs.Laws.Bools.{by_cases}
use Rattle.definitions.proofs.Laws.Sets.{mem_append, same_eq}
use Rattle.definitions.specs.Laws.Drawn.{last}
use Rattle.definitions.proofs.Laws.Drawn.{put_at, put_else}
use Rattle.text.specs.Words.{Token, var_token, sign, term_code, terms_code, op_kind, block_kind, code}
use Rattle.text.specs.WordLaws.{map_take}
use Rattle.text.specs.Prefixes.{prefix_code}
use Rattle.skolem.specs.Pass.{most, pick, binds, whole, put_in, filled, reach}
use Rattle.skolem.proofs.Lists.{flat_same}
use Rattle.skolem.proofs.OnePass.{on, spread, terms, terms_else, as_vars_code}
use Rattle.skolem.proofs.Blocks.{final, head_token, block_heads, heads}

-- the head of a term
unfoldable pub head_of : Term → Token
head_of (var x) = var_token x
head_of (con c) = sign 13 0 c
head_of (app f ts) = sign 11 (min most (count ts)) f

count_vars : (l : List Name) → count (as_vars l) ≡ length l
unfolding count as_vars
count_vars [] = refl
count_vars (a ∷ l) = ap suc (count_vars l)

head_skolem : (g : List Name) (j : ℕ) → head_of (skolem_term g j) ≡ head_token g j
unfolding head_of
head_skolem [] j = refl
head_skolem (a ∷ l) j = ap (λ (n : ℕ). sign 11 n (function_name j)) (ap (min most) (count_vars (a ∷ l)) ∙ sym (length-take most (a ∷ l)))

-- The last entry with the name.
pick_append : {A : Type 0} (a : A) (bs cs : List Bool) (hs ks : List A) → length bs ≡ length hs → pick a (bs ++ cs) (hs ++ ks) ≡ pick (pick a bs hs) cs ks
unfolding pick
pick_append a [] cs [] ks e = refl
pick_append a [] cs (h ∷ hs) ks e = absurd (omega arith)
pick_append a (b ∷ bs) cs [] ks e = absurd (omega arith)
pick_append a (b ∷ bs) cs (h ∷ hs) ks e = pick_append (cond b h a) bs cs hs ks (omega arith)

pick_vars : (x : Name) (t : Token) (vs : List Name) → pick t (map (binds x) (map var_token vs)) (map var_token vs) ≡ cond (mem x vs) (var_token x) t
unfolding pick mem
pick_vars x t [] = refl
pick_vars x t (v ∷ vs) =
    pick_vars x (cond (same x v) (var_token v) t) vs ∙ by_cases (same x v)
    (λ e. rw (e, ← same_eq x v e) (either (mem x vs)))
    (λ e. rw e)
  where
    either : (b : Bool) → cond b (var_token x) (var_token x) ≡ var_token x
    either true = refl
    either false = refl

pick_heads : (x : Name) (t : Token) (g vs : List Name) (j : ℕ)
    → pick t (map (binds x) (map var_token vs)) (block_heads g vs j) ≡ cond (mem x vs) (head_token g (last vs j x)) t
unfolding pick mem last block_heads
pick_heads x t g [] j = refl
pick_heads x t g (v ∷ vs) j =
    pick_heads x (cond (same x v) (head_token g j) t) g vs (suc j) ∙ go (mem x vs) (same x v)
  where
    go : (m s : Bool) → cond m (head_token g (last vs (suc j) x)) (cond s (head_token g j) t) ≡ cond (s || m) (head_token g (cond m (last vs (suc j) x) j)) t
    go true true = refl
    go true false = refl
    go false true = refl
    go false false = refl

heads_length : (g vs : List Name) (j : ℕ) → length (block_heads g vs j) ≡ length vs
unfolding block_heads
heads_length g [] j = refl
heads_length g (v ∷ vs) j = ap suc (heads_length g vs (suc j))

pub found : (p : Prefix) (g : List Name) (k : Counts) (x : Name) (t : Token)
    → pick t (map (binds x) (prefix_code p)) (heads p g k) ≡ cond (mem x (binders p)) (head_of (terms p g k x)) t
unfolding prefix_code heads terms binders pick mem head_of
found plain g k x t = refl
found (more all vs p) g k x t =
    let g' = g ++ without (binders p) vs in
    rw (map-append (binds x) (map var_token vs) (prefix_code p))
    (pick_append t (map (binds x) (map var_token vs)) (map (binds x) (prefix_code p)) (map var_token vs) (heads p g' k) (simp length-map)
    ∙ rw (pick_vars x t vs) (found p g' k x (cond (mem x vs) (var_token x) t)
    ∙ rw (mem_append x vs (binders p)) (by_cases (mem x (binders p))
    (λ b. rw b (by_cases (mem x vs) (λ v. rw v) (λ v. rw v)))
    (λ b. rw (b, terms_else p g' k x b) (by_cases (mem x vs) (λ v. rw v) (λ v. rw v))))))
found (more ex vs p) g k x t =
    let k' = counts_after g (length vs) k in
    let j = first_number g k in
    rw (map-append (binds x) (map var_token vs) (prefix_code p))
    (pick_append t (map (binds x) (map var_token vs)) (map (binds x) (prefix_code p)) (block_heads g vs j) (heads p g k') (simp (length-map, heads_length))
    ∙ rw (pick_heads x t g vs j) (found p g k' x (cond (mem x vs) (head_token g (last vs j x)) t)
    ∙ rw (mem_append x vs (binders p)) (by_cases (mem x (binders p))
    (λ b. rw b (by_cases (mem x vs) (λ v. rw v) (λ v. rw v)))
    (λ b. rw b (by_cases (mem x vs)
    (λ v. rw (v, put_at vs (skolem_term g) j x v) (sym (head_skolem g (last vs j x))))
    (λ v. rw v))))))

-- The terms that are put in stand on the first of the whole scope.
data Drawn (F : List Name) : Term → Type 0 where
  as_var : {x : Name} → Drawn F (var x)
  as_con : {c : Name} → Drawn F (con c)
  as_fun : {f : Name} (g rest : List Name) → F ≡ g ++ rest → Drawn F (app f (as_vars g))

final_begins : (p : Prefix) (g : List Name) → (rest : List Name) × (final p g ≡ g ++ rest)
unfolding final
final_begins plain g = ([], sym (append-nil g))
final_begins (more all vs p) g =
    let (r, e) = final_begins p (g ++ without (binders p) vs) in (without (binders p) vs ++ r, e ∙ append_assoc g (without (binders p) vs) r)
final_begins (more ex vs p) g = final_begins p g

skolem_drawn : (p : Prefix) (g : List Name) (j : ℕ) → Drawn (final p g) (skolem_term g j)
skolem_drawn p [] j = as_con
skolem_drawn p (a ∷ l) j = let (r, e) = final_begins p (a ∷ l) in as_fun (a ∷ l) r e

terms_drawn : (p : Prefix) (g : List Name) (k : Counts) (x : Name) → Drawn (final p g) (terms p g k x)
unfolding final terms
terms_drawn plain g k x = as_var
terms_drawn (more all vs p) g k x = terms_drawn p (g ++ without (binders p) vs) k x
terms_drawn (more ex vs p) g k x =
    by_cases (mem x (binders p))
    (λ b. rw b (terms_drawn p g (counts_after g (length vs) k) x))
    (λ b. rw b (by_cases (mem x vs)
    (λ v. rw (put_at vs (skolem_term g) (first_number g k) x v) (skolem_drawn p g (last vs (first_number g k) x)))
    (λ v. rw (put_else vs (skolem_term g) (first_number g k) x v) as_var)))

pub reach_append : (a b : List Token) → reach (a ++ b) ≡ max (reach a) (reach b)
unfolding reach
reach_append [] b = omega arith
reach_append (t ∷ a) b = rw (reach_append a b) (omega arith)

reach_vars : (l : List Name) → reach (map var_token l) ≡ 0
unfolding reach
reach_vars [] = refl
reach_vars (x ∷ l) = rw (reach_vars l)

-- tokens a stand for tokens b: they are b where b has no function of more than 32 arguments, and else they have such a function too
pub record Stands (a b : List Token) : Type 0 where
  pub narrow : reach b ≤ 32 → a ≡ b
  pub wide : 32 < reach b → 32 < reach a

stands_same : (a : List Token) → Stands a a
stands_same a = record { narrow = λ h. refl; wide = λ h. h }

stands_both : {a b c d : List Token} → Stands a b → Stands c d → Stands (a ++ c) (b ++ d)
stands_both {a} {b} {c} {d} p q = record {
  narrow = λ h. ap₂ (◌++◌) (p.narrow (omega (arith, reach_append b d))) (q.narrow (omega (arith, reach_append b d)));
  wide = λ h. by_cases (leb (reach b) 32)
      (λ t. rw (reach_append a c) (omega (arith, q.wide (omega (arith, reach_append b d, leb-true (reach b) 32 t)))))
      (λ f. rw (reach_append a c) (omega (arith, p.wide (leb-false (reach b) 32 f))));
}

whole_stands : (F : List Name) (t : Term) → Drawn F t → Stands (whole (λ t. t) (map var_token (take most F)) (head_of t)) (term_code t)
unfolding head_of term_code reach
whole_stands F (var x) d = stands_same (var_token x ∷ [])
whole_stands F (con c) d = stands_same (sign 13 0 c ∷ [])
whole_stands F (app f ts) (as_fun g rest e) =
    rw (as_vars_code g, count_vars g) (record {
      narrow = λ h. let s : length g ≤ 32 = omega (arith, h) in let m : min most (length g) ≡ length g = omega arith in
          rw m (ap (sign 11 (length g) f ∷◌) (args s));
      wide = λ h. let s : 32 < length g = omega (arith, reach_vars g) in omega arith;
    })
  where
    args : length g ≤ 32 → take (length g) (map var_token (take most F)) ≡ map var_token g
    args s = sym (map_take var_token (length g) (take most F))
        ∙ ap (map var_token) (take-take (length g) most F (omega arith) ∙ ap (take (length g)) e ∙ take-append_seam g rest)

-- What the matrix becomes stands for the matrix of the Skolem form.
spread_stands : (f h : Name → List Token) → ((x : Name) → Stands (f x) (h x)) → (l : List Token) → Stands (spread f l) (spread h l)
unfolding flat_map
spread_stands f h s [] = stands_same []
spread_stands f h s (var_token x ∷ l) = stands_both (s x) (spread_stands f h s l)
spread_stands f h s (sign k n c ∷ l) = stands_both (stands_same (sign k n c ∷ [])) (spread_stands f h s l)

module _ (p : Prefix) (g : List Name) (k : Counts) where
  abbrev pub scope_tokens : List Token
  scope_tokens = map var_token (take most (final p g))

  belongs_is : (x : Name) → pick (var_token x) (map (binds x) (prefix_code p)) (heads p g k) ≡ head_of (terms p g k x)
  unfolding head_of
  belongs_is x = found p g k x (var_token x) ∙ by_cases (mem x (binders p)) (λ t. rw t) (λ f. rw (f, terms_else p g k x f))

  put_in_is : (t : Token) → put_in (λ t. t) scope_tokens (prefix_code p) (heads p g k) t ≡ on (λ x. whole (λ t. t) scope_tokens (head_of (terms p g k x))) t
  put_in_is (var_token x) = rw (belongs_is x)
  put_in_is (sign j n s) = refl

  pub filled_stands : (l : List Token) → Stands (filled (λ t. t) scope_tokens (prefix_code p) (heads p g k) l) (spread (λ x. term_code (terms p g k x)) l)
  filled_stands l = rw (flat_same _ _ put_in_is l)
      (spread_stands (λ x. whole (λ t. t) scope_tokens (head_of (terms p g k x))) (λ x. term_code (terms p g k x))
      (λ x. whole_stands (final p g) (terms p g k x) (terms_drawn p g k x)) l)

-- The largest number of arguments of a formula's functions, read off its tokens.
mutual
  unfolding term_code terms_code term_widest terms_widest reach

  term_reach : (t : Term) → reach (term_code t) ≡ term_widest t
  term_reach (var x) = refl
  term_reach (con c) = refl
  term_reach (app f ts) = ap (max (count ts)) (terms_reach ts)

  terms_reach : (ts : Terms) → reach (terms_code ts) ≡ terms_widest ts
  terms_reach nil = refl
  terms_reach (cons t ts) = reach_append (term_code t) (terms_code ts) ∙ ap₂ max (term_reach t) (terms_reach ts)

op_reach : (o : Op) (l : List Token) → reach (sign (op_kind o) 0 [] ∷ l) ≡ reach l
unfolding reach
op_reach and l = omega arith
op_reach or l = omega arith
op_reach imp l = omega arith
op_reach iff l = omega arith

pub reach_widest : (f : Formula) → reach (code f) ≡ widest f
unfolding code widest reach
reach_widest top = refl
reach_widest bot = refl
reach_widest (pred p ts) = omega (arith, terms_reach ts)
reach_widest (eq t u) = omega (arith, reach_append (term_code t) (term_code u), term_reach t, term_reach u)
reach_widest (neg f) = omega (arith, reach_widest f)
reach_widest (bin o f g) = op_reach o (code f ++ code g) ∙ reach_append (code f) (code g) ∙ ap₂ max (reach_widest f) (reach_widest g)
reach_widest (blk q vs f) = block_reach q vs (code f) ∙ reach_widest f
  where
    block_reach : (q : Quant) (vs : List Name) (l : List Token) → reach (sign (block_kind q) (length vs) [] ∷ (map var_token vs ++ l)) ≡ reach l
    block_reach all vs l = omega (arith, reach_append (map var_token vs) l, reach_vars vs)
    block_reach ex vs l = omega (arith, reach_append (map var_token vs) l, reach_vars vs)
