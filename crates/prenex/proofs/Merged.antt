-- Both sides of a binary node, each renamed apart from the other as its tables hold it, are `merge`: the left prefix, flipped where it is a
-- premise, before the right one. Quantifiers have no part in renaming, so a sign may flip the blocks before or after it.
use mathlib.Core.Path.{◌≡◌, refl, sym, ap, ap₂, ◌∙◌}
use mathlib.Core.Bool.{Bool, true, false, not}
use mathlib.Core.List.{List, [], ◌∷◌, ◌++◌, map, append_assoc}
use lib.ListN.{length}
use Rattle.definitions.specs.Syntax.{Op, and, or, imp, iff, Quant, all, ex, Formula, bin}
use Rattle.definitions.specs.Names.{free, bound}
use Rattle.definitions.specs.Negation.{flip}
use Rattle.definitions.specs.Prenex.{news, Subst, shade, sub, Prefix, plain, more, Prenex, close, add, shades, apart, as_subst, premise, pull_right, pull, merge, flips, no_block}
use Rattle.definitions.proofs.Laws.Prenex.{sub_no_block}
use Rattle.text.specs.Words.{Token, var_token, sign, op_kind, block_kind, code}
use Rattle.text.specs.Prefixes.{prefix_code}
use Rattle.prenex.specs.Walk.{Side, left_apart, right_apart, turning, left_sign, each, coded}
use Rattle.prenex.proofs.Apart.{aside, aside_walk}

unfoldable join : (Quant → Quant) → Prefix → Prefix → Prefix
join f plain r = r
join f (more k vs p) r = more (f k) vs (join f p r)

right_is : (o : Op) (m : Formula) (p : Prefix) (n : Formula)
    → pull_right o m p n ≡ record { prefix = (aside plain m p n).prefix; matrix = bin o m (aside plain m p n).matrix }
unfolding pull_right aside close
right_is o m plain n = refl
right_is o m (more q vs p) n =
    ap (add q (news (apart vs (close p n) m))) (right_is o m p (sub (shades p (as_subst (apart vs (close p n) m))) n))

-- the left side apart from the right, then the right apart from the left matrix
merge_is : (o : Op) (p : Prefix) (m : Formula) (q : Prefix) (n : Formula)
    → pull o p m q n ≡ record {
      prefix = join (premise o) (aside q n p m).prefix (aside plain (aside q n p m).matrix q n).prefix;
      matrix = bin o (aside q n p m).matrix (aside plain (aside q n p m).matrix q n).matrix;
    }
unfolding pull aside join
merge_is o plain m q n = right_is o m q n
merge_is o (more k vs p) m q n =
    ap (add (premise o k) (news (apart vs (close p m) (close q n)))) (merge_is o p (sub (shades p (as_subst (apart vs (close p m) (close q n)))) m) q n)

-- Quantifiers changed.
each_bound : (f : Quant → Quant) (p : Prefix) (m : Formula) → bound (close (each f p) m) ≡ bound (close p m)
unfolding each close bound
each_bound f plain m = refl
each_bound f (more k vs p) m = ap (λ l. vs ++ l) (each_bound f p m)

each_free : (f : Quant → Quant) (p : Prefix) (m : Formula) → free (close (each f p) m) ≡ free (close p m)
unfolding each close free
each_free f plain m = refl
each_free f (more k vs p) m = rw (each_free f p m)

each_shades : (f : Quant → Quant) (p : Prefix) (s : Subst) → shades (each f p) s ≡ shades p s
unfolding each shades
each_shades f plain s = refl
each_shades f (more k vs p) s = each_shades f p (shade vs s)

each_aside : (f : Quant → Quant) (q : Prefix) (n : Formula) (p : Prefix) (m : Formula)
    → aside q n (each f p) m ≡ record { prefix = each f (aside q n p m).prefix; matrix = (aside q n p m).matrix }
unfolding each aside
each_aside f q n plain m = refl
each_aside f q n (more k vs p) m =
    rw (each_bound f p m, each_free f p m, each_shades f p)
    (ap (add (f k) (news (apart vs (close p m) (close q n)))) (each_aside f q n p (sub (shades p (as_subst (apart vs (close p m) (close q n)))) m)))

aside_each : (f : Quant → Quant) (q : Prefix) (n : Formula) (p : Prefix) (m : Formula) → aside (each f q) n p m ≡ aside q n p m
unfolding aside
aside_each f q n plain m = refl
aside_each f q n (more k vs p) m =
    rw (each_bound f q n, each_free f q n)
    (ap (add k (news (apart vs (close p m) (close q n)))) (aside_each f q n p (sub (shades p (as_subst (apart vs (close p m) (close q n)))) m)))

each_join : (g f : Quant → Quant) (p q : Prefix) → prefix_code (each (λ k. g (f k)) p) ++ prefix_code (each g q) ≡ prefix_code (each g (join f p q))
unfolding each join prefix_code
each_join g f plain q = refl
each_join g f (more k vs p) q =
    ap (sign (block_kind (g (f k))) (length vs) [] ∷◌) (append_assoc (map var_token vs) (prefix_code (each (λ k. g (f k)) p)) (prefix_code (each g q)) ∙ ap (λ (l : List Token). map var_token vs ++ l) (each_join g f p q))

each_same : (f g : Quant → Quant) → ((k : Quant) → f k ≡ g k) → (p : Prefix) → each f p ≡ each g p
unfolding each
each_same f g h plain = refl
each_same f g h (more k vs p) = ap₂ (λ (j : Quant) (r : Prefix). more j vs r) (h k) (each_same f g h p)

aside_plain : (q : Prefix) (n : Formula) (p : Prefix) (m : Formula) → no_block m ≡ true → no_block (aside q n p m).matrix ≡ true
unfolding aside
aside_plain q n plain m b = b
aside_plain q n (more k vs p) m b =
    aside_plain q n p (sub (shades p (as_subst (apart vs (close p m) (close q n)))) m) (sub_no_block (shades p (as_subst (apart vs (close p m) (close q n)))) m ∙ b)

left_turning : (o : Op) (b : Bool) (k : Quant) → turning (left_sign o b) k ≡ turning b (premise o k)
left_turning and b k = refl
left_turning or b k = refl
left_turning imp true all = refl
left_turning imp true ex = refl
left_turning imp false k = refl
left_turning iff b k = refl

-- the two walks are the merged form: its prefix, and its matrix behind the node's own word
module _ (o : Op) (b : Bool) (x y : Prenex) (hx : no_block x.matrix ≡ true) (hy : no_block y.matrix ≡ true) where
  abbrev A : Prenex
  A = aside y.prefix y.matrix x.prefix x.matrix

  abbrev B : Prenex
  B = aside plain A.matrix y.prefix y.matrix

  lefts : left_apart (coded (left_sign o b) x) (coded b y) ≡ record { prefix = prefix_code (each (λ k. turning b (premise o k)) A.prefix); matrix = code A.matrix }
  lefts =
      aside_walk (each (turning b) y.prefix) y.matrix (each (turning (left_sign o b)) x.prefix) x.matrix [] hy hx
      ∙ rw (
        each_same (turning (left_sign o b)) (λ k. turning b (premise o k)) (left_turning o b) x.prefix,
        aside_each (turning b) y.prefix y.matrix,
        each_aside (λ k. turning b (premise o k)) y.prefix y.matrix x.prefix x.matrix,
      )

  rights : right_apart (coded (left_sign o b) x) (coded b y) ≡ record { prefix = prefix_code (each (turning b) B.prefix); matrix = code B.matrix }
  unfolding prefix_code
  rights =
      rw lefts (aside_walk plain A.matrix (each (turning b) y.prefix) y.matrix [] (aside_plain y.prefix y.matrix x.prefix x.matrix hx) hy
      ∙ rw (each_aside (turning b) plain A.matrix y.prefix y.matrix))

  pub merge_prefix : (left_apart (coded (left_sign o b) x) (coded b y)).prefix ++ (right_apart (coded (left_sign o b) x) (coded b y)).prefix ≡ (coded b (merge o x y)).prefix
  merge_prefix =
      ap₂ (λ (l r : Side). l.prefix ++ r.prefix) lefts rights ∙ each_join (turning b) (premise o) A.prefix B.prefix
      ∙ ap (λ (r : Prenex). prefix_code (each (turning b) r.prefix)) (sym (merge_is o x.prefix x.matrix y.prefix y.matrix))

  pub merge_matrix : sign (op_kind o) 0 [] ∷ ((left_apart (coded (left_sign o b) x) (coded b y)).matrix ++ (right_apart (coded (left_sign o b) x) (coded b y)).matrix) ≡ (coded b (merge o x y)).matrix
  unfolding code
  merge_matrix =
      ap (sign (op_kind o) 0 [] ∷◌) (ap₂ (λ (l r : Side). l.matrix ++ r.matrix) lefts rights)
      ∙ ap (λ (r : Prenex). code r.matrix) (sym (merge_is o x.prefix x.matrix y.prefix y.matrix))

-- under `not` a prefix flips
pub turned_flips : (b : Bool) (p : Prefix) → each (turning b) (flips p) ≡ each (turning (not b)) p
unfolding each flips
turned_flips b plain = refl
turned_flips b (more k vs p) = ap₂ (λ (j : Quant) (r : Prefix). more j vs r) (turning_flip b k) (turned_flips b p)
  where
    turning_flip : (b : Bool) (k : Quant) → turning b (flip k) ≡ turning (not b) k
    turning_flip true all = refl
    turning_flip true ex = refl
    turning_flip false k = refl
