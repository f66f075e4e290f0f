-- What the survey makes of the tokens of a prefix, with the names that its heads draw, block by block; and the forall blocks in it.
use mathlib.Core.Path.{◌≡◌, refl, ap, ap₂, ◌∙◌}
use mathlib.Core.Bool.{Bool, true, false}
use mathlib.Core.List.{List, [], ◌∷◌, ◌++◌, map, append_assoc, append-nil}
use Prim.Native.Nat.{ℕ, suc, ◌+◌}
use native.Mathlib.Omega.{arith}
use lib.ListN.{length, take, replicate, length-map}
use lib.Seq.{drop_at}
use Rattle.definitions.specs.Syntax.{Name, all, ex}
use Rattle.definitions.specs.Names.{mem, filter, without}
use Rattle.definitions.specs.Prenex.{Prefix, plain, more}
use Rattle.definitions.specs.Skolem.{Counts, constant_name, function_name, first_number, counts_after, binders}
use Rattle.definitions.proofs.Laws.Bools.{by_cases}
use Rattle.text.specs.Words.{Token, var_token, sign, block_code}
use Rattle.text.specs.Prefixes.{names, prefix_code}
use Rattle.text.specs.PrefixLaws.{prefix_names}
use Rattle.skolem.specs.Pass.{most, Survey, after, survey, blank_token, named, drawn_after, stays, keep}
use Rattle.skolem.proofs.Lists.{map_same_id}
use Rattle.skolem.proofs.OnePass.{counts, foralls}
use Rattle.skolem.proofs.Gathered.{push_first}

-- the scope behind a prefix
unfoldable pub final : Prefix → List Name → List Name
final plain g = g
final (more all vs p) g = final p (g ++ without (binders p) vs)
final (more ex vs p) g = final p g

-- the head of a term on g, and the heads that a block draws
abbrev pub head_token : List Name → ℕ → Token
head_token [] j = sign 13 0 (constant_name j)
head_token (a ∷ l) j = sign 11 (length (take most (a ∷ l))) (function_name j)

unfoldable pub block_heads : List Name → List Name → ℕ → List Token
block_heads g [] j = []
block_heads g (v ∷ vs) j = head_token g j ∷ block_heads g vs (suc j)

unfoldable pub heads : Prefix → List Name → Counts → List Token
heads plain g k = []
heads (more all vs p) g k = block_code all vs ++ heads p (g ++ without (binders p) vs) k
heads (more ex vs p) g k = sign 9 (length vs) [] ∷ (block_heads g vs (first_number g k) ++ heads p g (counts_after g (length vs) k))

unfoldable blanks : Prefix → List Name → List Token
blanks plain g = []
blanks (more all vs p) g = block_code all vs ++ blanks p (g ++ without (binders p) vs)
blanks (more ex vs p) g = sign 9 (length vs) [] ∷ (replicate (length vs) (blank_token (length (take most g))) ++ blanks p g)

-- The survey of a prefix.
abbrev behind : List Token → Survey Token → Survey Token
behind a s = record { heads = a ++ s.heads; scope = s.scope }

abbrev surveyed : ℕ → Bool → List Token → List Token → Survey Token
surveyed left exists g l = survey (λ t. t) blank_token left exists g l

abbrev kept : List Name → List Token
kept g = map var_token (take most g)

all_vars : (vs g : List Name) (l : List Token)
    → surveyed (length vs) false (kept g) (map var_token vs ++ l) ≡ behind (map var_token vs) (surveyed 0 false (kept (g ++ without (names l) vs)) l)
unfolding survey filter
all_vars [] g l = rw (append-nil g)
all_vars (v ∷ vs) g l =
    rw (map_same_id, drop_at (map var_token vs) l (length vs) (length-map vs var_token)) (by_cases (mem v (names l))
    (λ t. rw t (ap (after (var_token v)) (all_vars vs g l)))
    (λ f. rw (f, push_first var_token g v) (ap (after (var_token v)) (all_vars vs (g ++ (v ∷ [])) l ∙ rw (append_assoc g (v ∷ []) (without (names l) vs))))))

ex_vars : (vs : List Name) (g l : List Token)
    → surveyed (length vs) true g (map var_token vs ++ l) ≡ behind (replicate (length vs) (blank_token (length g))) (surveyed 0 true g l)
unfolding survey
ex_vars [] g l = refl
ex_vars (v ∷ vs) g l = ap (after (blank_token (length g))) (ex_vars vs g l)

kept_length : (g : List Name) → length (kept g) ≡ length (take most g)
kept_length g = length-map (take most g) var_token

survey_is : (p : Prefix) (g : List Name) (b : Bool)
    → surveyed 0 b (kept g) (prefix_code p) ≡ record { heads = blanks p g; scope = kept (final p g) }
unfolding survey prefix_code blanks final
survey_is plain g b = refl
survey_is (more all vs p) g b =
    ap (after (sign 8 (length vs) [])) (all_vars vs g (prefix_code p) ∙ rw (prefix_names p) (ap (behind (map var_token vs)) (survey_is p (g ++ without (binders p) vs) false)))
survey_is (more ex vs p) g b =
    ap (after (sign 9 (length vs) [])) (ex_vars vs (kept g) (prefix_code p) ∙ rw (kept_length g) (ap (behind (replicate (length vs) (blank_token (length (take most g))))) (survey_is p g true)))

-- The names.
named_vars : (k : Counts) (vs : List Name) (l : List Token) → named k (map var_token vs ++ l) ≡ map var_token vs ++ named k l
unfolding named
named_vars k [] l = refl
named_vars k (v ∷ vs) l = ap (var_token v ∷◌) (named_vars k vs l)

after_vars : (k : Counts) (vs : List Name) (l : List Token) → drawn_after k (map var_token vs ++ l) ≡ drawn_after k l
unfolding drawn_after
after_vars k [] l = refl
after_vars k (v ∷ vs) l = after_vars k vs l

constants_next : (k : Counts) (n : ℕ) → counts_after [] n (record { constant = suc k.constant; function = k.function }) ≡ counts_after [] (suc n) k
constants_next k n = let e : suc k.constant + n ≡ k.constant + suc n = omega arith in rw e

functions_next : (k : Counts) (a : Name) (l : List Name) (n : ℕ)
    → counts_after (a ∷ l) n (record { constant = k.constant; function = suc k.function }) ≡ counts_after (a ∷ l) (suc n) k
functions_next k a l n = let e : suc k.function + n ≡ k.function + suc n = omega arith in rw e

none_counted : (g : List Name) (k : Counts) → counts_after g 0 k ≡ k
none_counted [] k = let e : k.constant + 0 ≡ k.constant = omega arith in rw e
none_counted (a ∷ g) k = let e : k.function + 0 ≡ k.function = omega arith in rw e

named_block : (g vs : List Name) (k : Counts) (l : List Token)
    → named k (replicate (length vs) (blank_token (length (take most g))) ++ l) ≡ block_heads g vs (first_number g k) ++ named (counts_after g (length vs) k) l
unfolding named block_heads
named_block g [] k l = rw (none_counted g k)
named_block [] (v ∷ vs) k l =
    ap (sign 13 0 (constant_name k.constant) ∷◌) (named_block [] vs (record { constant = suc k.constant; function = k.function }) l ∙ rw (constants_next k (length vs)))
named_block (a ∷ g) (v ∷ vs) k l =
    ap (sign 11 (length (take most (a ∷ g))) (function_name k.function) ∷◌)
    (named_block (a ∷ g) vs (record { constant = k.constant; function = suc k.function }) l ∙ rw (functions_next k a g (length vs)))

after_block : (g vs : List Name) (k : Counts) (l : List Token)
    → drawn_after k (replicate (length vs) (blank_token (length (take most g))) ++ l) ≡ drawn_after (counts_after g (length vs) k) l
unfolding drawn_after
after_block g [] k l = rw (none_counted g k)
after_block [] (v ∷ vs) k l = after_block [] vs (record { constant = suc k.constant; function = k.function }) l ∙ rw (constants_next k (length vs))
after_block (a ∷ g) (v ∷ vs) k l =
    after_block (a ∷ g) vs (record { constant = k.constant; function = suc k.function }) l ∙ rw (functions_next k a g (length vs))

named_is : (p : Prefix) (g : List Name) (k : Counts) → named k (blanks p g) ≡ heads p g k
unfolding named blanks heads
named_is plain g k = refl
named_is (more all vs p) g k =
    ap (sign 8 (length vs) [] ∷◌) (named_vars k vs (blanks p (g ++ without (binders p) vs)) ∙ ap (λ (l : List Token). map var_token vs ++ l) (named_is p (g ++ without (binders p) vs) k))
named_is (more ex vs p) g k =
    ap (sign 9 (length vs) [] ∷◌) (named_block g vs k (blanks p g) ∙ ap (λ (l : List Token). block_heads g vs (first_number g k) ++ l) (named_is p g (counts_after g (length vs) k)))

after_is : (p : Prefix) (g : List Name) (k : Counts) → drawn_after k (blanks p g) ≡ counts p g k
unfolding drawn_after blanks counts
after_is plain g k = refl
after_is (more all vs p) g k = after_vars k vs (blanks p (g ++ without (binders p) vs)) ∙ after_is p (g ++ without (binders p) vs) k
after_is (more ex vs p) g k = after_block g vs k (blanks p g) ∙ after_is p g (counts_after g (length vs) k)

-- The survey of a prefix whose blocks leave g of the scope before it: with names drawn, the counts then, and the whole scope.
pub record Surveyed (p : Prefix) (g : List Name) (k : Counts) (s : Survey Token) : Type 0 where
  pub named_heads : named k s.heads ≡ heads p g k
  pub drawn : drawn_after k s.heads ≡ counts p g k
  pub whole_scope : s.scope ≡ map var_token (take most (final p g))

pub prefix_surveyed : (p : Prefix) (g : List Name) (k : Counts) → Surveyed p g k (survey (λ t. t) blank_token 0 false (map var_token (take most g)) (prefix_code p))
prefix_surveyed p g k = rw (survey_is p g false) (record { named_heads = named_is p g k; drawn = after_is p g k; whole_scope = refl })

-- The forall blocks stay.
pub keep_append : {A : Type 0} (q : A → Bool) (a b : List A) → keep q (a ++ b) ≡ keep q a ++ keep q b
unfolding keep
keep_append q [] b = refl
keep_append q (x ∷ a) b = by_cases (q x) (λ t. rw (t, keep_append q a b)) (λ f. rw (f, keep_append q a b))

keep_vars : (vs : List Name) → keep stays (map var_token vs) ≡ map var_token vs
unfolding keep
keep_vars [] = refl
keep_vars (v ∷ vs) = ap (var_token v ∷◌) (keep_vars vs)

keep_none : (g vs : List Name) (j : ℕ) → keep stays (block_heads g vs j) ≡ []
unfolding keep block_heads
keep_none g [] j = refl
keep_none [] (v ∷ vs) j = keep_none [] vs (suc j)
keep_none (a ∷ g) (v ∷ vs) j = keep_none (a ∷ g) vs (suc j)

pub foralls_kept : (p : Prefix) (g : List Name) (k : Counts) → keep stays (heads p g k) ≡ prefix_code (foralls p)
unfolding keep heads foralls prefix_code
foralls_kept plain g k = refl
foralls_kept (more all vs p) g k =
    ap (sign 8 (length vs) [] ∷◌) (keep_append stays (map var_token vs) (heads p (g ++ without (binders p) vs) k)
    ∙ ap₂ (◌++◌) (keep_vars vs) (foralls_kept p (g ++ without (binders p) vs) k))
foralls_kept (more ex vs p) g k =
    keep_append stays (block_heads g vs (first_number g k)) (heads p g (counts_after g (length vs) k))
    ∙ ap₂ (◌++◌) (keep_none g vs (first_number g k)) (foralls_kept p g (counts_after g (length vs) k))
