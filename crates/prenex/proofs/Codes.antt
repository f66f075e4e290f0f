-- The variables of a formula's tokens and of a prefix's, and what a renaming makes of a formula's tokens.
use mathlib.Core.Path.{◌≡◌, refl, sym, ap, ap₂, ◌∙◌}
use mathlib.Core.Bool.{Bool, true, false, not, ◌&&◌, ◌||◌, cond, and-true}
use mathlib.Core.List.{List, [], ◌∷◌, ◌++◌, map, map-append}
use Prim.Native.Nat.{ℕ, suc}
use Rattle.definitions.specs.Syntax.{Name, Term, var, con, app, Terms, nil, cons, count, Quant, Formula, top, bot, pred, eq, neg, bin, blk}
use Rattle.definitions.specs.Names.{mem, term_vars, terms_vars, free, bound}
use Rattle.definitions.specs.Prenex.{Subst, shade, term_sub, terms_sub, sub, Prefix, plain, more, close, shades, no_block}
use Rattle.definitions.proofs.Laws.Bools.{clash, and_true_left, and_true_right}
use Rattle.definitions.proofs.Laws.Sets.{mem_append, mem_union, mem_filter}
use Rattle.text.specs.Words.{Token, var_token, sign, term_code, terms_code, op_kind, code}
use Rattle.text.specs.Prefixes.{names, prefix_code}
use Rattle.text.specs.PrefixLaws.{names_append, names_vars}

mem_names : (y : Name) (a b : List Token) → mem y (names (a ++ b)) ≡ (mem y (names a) || mem y (names b))
mem_names y a b = ap (mem y) (names_append a b) ∙ mem_append y (names a) (names b)

mutual
  unfolding names term_code terms_code term_vars terms_vars

  term_names : (y : Name) (t : Term) → mem y (names (term_code t)) ≡ mem y (term_vars t)
  term_names y (var x) = refl
  term_names y (con c) = refl
  term_names y (app f ts) = terms_names y ts

  terms_names : (y : Name) (ts : Terms) → mem y (names (terms_code ts)) ≡ mem y (terms_vars ts)
  terms_names y nil = refl
  terms_names y (cons t ts) =
      mem_names y (term_code t) (terms_code ts) ∙ ap₂ (◌||◌) (term_names y t) (terms_names y ts) ∙ sym (mem_union y (term_vars t) (terms_vars ts))

-- the variables of a matrix are its free variables
pub code_names : (y : Name) (f : Formula) → no_block f ≡ true → mem y (names (code f)) ≡ mem y (free f)
unfolding names code free no_block
code_names y top n = refl
code_names y bot n = refl
code_names y (pred p ts) n = terms_names y ts
code_names y (eq t u) n = mem_names y (term_code t) (term_code u) ∙ ap₂ (◌||◌) (term_names y t) (term_names y u) ∙ sym (mem_union y (term_vars t) (term_vars u))
code_names y (neg f) n = code_names y f n
code_names y (bin o f g) n =
    mem_names y (code f) (code g)
    ∙ ap₂ (◌||◌) (code_names y f (and_true_left (no_block f) (no_block g) n)) (code_names y g (and_true_right (no_block f) (no_block g) n))
    ∙ sym (mem_union y (free f) (free g))
code_names y (blk q vs f) n = clash n refl

pub prefix_names : (y : Name) (q : Quant) (vs : List Name) (p : Prefix) → mem y (names (prefix_code (more q vs p))) ≡ (mem y vs || mem y (names (prefix_code p)))
unfolding names prefix_code
prefix_names y q vs p = mem_names y (map var_token vs) (prefix_code p) ∙ rw (names_vars vs)

no_bound : (f : Formula) → no_block f ≡ true → bound f ≡ []
unfolding bound no_block
no_bound top n = refl
no_bound bot n = refl
no_bound (pred p ts) n = refl
no_bound (eq t u) n = refl
no_bound (neg f) n = no_bound f n
no_bound (bin o f g) n = rw (no_bound f (and_true_left (no_block f) (no_block g) n), no_bound g (and_true_right (no_block f) (no_block g) n))
no_bound (blk q vs f) n = clash n refl

pub close_bound : (y : Name) (p : Prefix) (f : Formula) → no_block f ≡ true → mem y (bound (close p f)) ≡ mem y (names (prefix_code p))
unfolding bound close prefix_code names mem
close_bound y plain f n = rw (no_bound f n)
close_bound y (more q vs p) f n = mem_append y vs (bound (close p f)) ∙ rw (close_bound y p f n) (sym (prefix_names y q vs p))

pub close_free : (y : Name) (p : Prefix) (f : Formula) → no_block f ≡ true
    → mem y (free (close p f)) ≡ (mem y (names (code f)) && not (mem y (names (prefix_code p))))
unfolding free close prefix_code names mem
close_free y plain f n = sym (code_names y f n) ∙ sym (and-true (mem y (names (code f))))
close_free y (more q vs p) f n =
    mem_filter y (λ x. not (mem x vs)) (free (close p f)) ∙ rw (close_free y p f n, prefix_names y q vs p) (shift (mem y (names (code f))) (mem y (names (prefix_code p))) (mem y vs))
  where
    shift : (a b c : Bool) → (a && not b && not c) ≡ (a && not (c || b))
    shift true true true = refl
    shift true true false = refl
    shift true false true = refl
    shift true false false = refl
    shift false b c = refl

-- each variable x becomes σ x
unfoldable pub ren : (Name → Name) → Token → Token
ren σ (var_token x) = var_token (σ x)
ren σ (sign k n s) = sign k n s

module _ (s : Subst) (σ : Name → Name) (h : (x : Name) → s x ≡ var (σ x)) where
  mutual
    unfolding term_code terms_code term_sub terms_sub ren count

    term_ren : (t : Term) → term_code (term_sub s t) ≡ map (ren σ) (term_code t)
    term_ren (var x) = ap term_code (h x)
    term_ren (con c) = refl
    term_ren (app f ts) = ap₂ (λ (n : ℕ) (l : List Token). sign 11 n f ∷ l) (same_count ts) (terms_ren ts)

    terms_ren : (ts : Terms) → terms_code (terms_sub s ts) ≡ map (ren σ) (terms_code ts)
    terms_ren nil = refl
    terms_ren (cons t ts) = ap₂ (◌++◌) (term_ren t) (terms_ren ts) ∙ sym (map-append (ren σ) (term_code t) (terms_code ts))

    same_count : (ts : Terms) → count (terms_sub s ts) ≡ count ts
    same_count nil = refl
    same_count (cons t ts) = ap suc (same_count ts)

  pub code_ren : (f : Formula) → no_block f ≡ true → code (sub s f) ≡ map (ren σ) (code f)
  unfolding code sub ren no_block
  code_ren top n = refl
  code_ren bot n = refl
  code_ren (pred p ts) n = ap₂ (λ (k : ℕ) (l : List Token). sign 10 k p ∷ l) (same_count ts) (terms_ren ts)
  code_ren (eq t u) n = ap (sign 7 0 [] ∷◌) (ap₂ (◌++◌) (term_ren t) (term_ren u) ∙ sym (map-append (ren σ) (term_code t) (term_code u)))
  code_ren (neg f) n = ap (sign 2 0 [] ∷◌) (code_ren f n)
  code_ren (bin o f g) n =
      ap (sign (op_kind o) 0 [] ∷◌) (ap₂ (◌++◌) (code_ren f (and_true_left (no_block f) (no_block g) n)) (code_ren g (and_true_right (no_block f) (no_block g) n))
      ∙ sym (map-append (ren σ) (code f) (code g)))
  code_ren (blk q vs f) n = clash n refl

-- the blocks of a prefix shadow what they bind
pub shades_at : (p : Prefix) (s : Subst) (x : Name) → shades p s x ≡ cond (mem x (names (prefix_code p))) (var x) (s x)
unfolding shades prefix_code names mem
shades_at plain s x = refl
shades_at (more q vs p) s x =
    shades_at p (shade vs s) x ∙ rw (prefix_names x q vs p) (go (mem x (names (prefix_code p))) (mem x vs))
  where
    go : (a b : Bool) → cond a (var x) (cond b (var x) (s x)) ≡ cond (b || a) (var x) (s x)
    go true true = refl
    go true false = refl
    go false true = refl
    go false false = refl
