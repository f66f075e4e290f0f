-- A side renamed apart from the other, block by block, is the walk over its tokens.
use mathlib.Core.Path.{◌≡◌, refl, sym, ap, ap₂, ◌∙◌}
use mathlib.Core.Bool.{Bool, true, false, not, ◌&&◌, ◌||◌, cond, or-true}
use mathlib.Core.List.{List, [], ◌∷◌, ◌++◌, map, append_assoc, append-nil}
use Prim.Native.Nat.{suc}
use lib.ListN.{length}
use Rattle.definitions.specs.Bytes.{same}
use Rattle.definitions.specs.Syntax.{Name, Formula}
use Rattle.definitions.specs.Names.{mem, free, bound}
use Rattle.definitions.specs.Prenex.{fresh, Pairs, pair, olds, news, to, renames, next, sub, Prefix, plain, more, Prenex, close, add, shades, apart, as_subst, no_block}
use Rattle.definitions.proofs.Laws.Bools.{by_cases, clash, or_false_left, or_false_right, same_truth}
use Rattle.definitions.proofs.Laws.Sets.{same_eq, same_refl, mem_append}
use Rattle.definitions.proofs.Laws.Fresh.{fresh_new}
use Rattle.definitions.proofs.Laws.Prenex.{sub_no_block}
use Rattle.text.specs.Words.{Token, var_token, sign, block_kind, code}
use Rattle.text.specs.Prefixes.{names, prefix_code}
use Rattle.prenex.specs.Walk.{put, behind, is_free, reach, new_name, walk}
use Rattle.prenex.proofs.Fresh.{fresh_same}
use Rattle.text.specs.PrefixLaws.{names_append, names_vars}
use Rattle.prenex.proofs.Codes.{close_bound, close_free, ren, code_ren, shades_at}

-- a side, its blocks in turn renamed apart from the other side q, n
unfoldable pub aside : Prefix → Formula → Prefix → Formula → Prenex
aside q n plain m = record { prefix = plain; matrix = m }
aside q n (more k vs p) m =
    let ps = apart vs (close p m) (close q n) in
    add k (news ps) (aside q n p (sub (shades p (as_subst ps)) m))

olds_are : (vs away used : List Name) → olds (renames vs away used) ≡ vs
unfolding olds renames
olds_are [] away used = refl
olds_are (v ∷ vs) away used = ap (v ∷◌) (olds_are vs away (next away used v ∷ used))

to_else : (vs away used : List Name) (x : Name) → mem x vs ≡ false → to (renames vs away used) x ≡ x
unfolding mem to renames
to_else [] away used x n = refl
to_else (v ∷ vs) away used x n =
    rw (olds_are vs away (next away used v ∷ used), or_false_right (same x v) (mem x vs) n, or_false_left (same x v) (mem x vs) n)

news_length : (vs away used : List Name) → length (news (renames vs away used)) ≡ length vs
unfolding news renames
news_length [] away used = refl
news_length (v ∷ vs) away used = ap suc (news_length vs away (next away used v ∷ used))

map_ext : (f g : Token → Token) → ((t : Token) → f t ≡ g t) → (l : List Token) → map f l ≡ map g l
map_ext f g h [] = refl
map_ext f g h (t ∷ l) = ap₂ (λ (a : Token) (b : List Token). a ∷ b) (h t) (map_ext f g h l)

map_twice : (f g : Token → Token) (l : List Token) → map f (map g l) ≡ map (λ t. f (g t)) l
map_twice f g [] = refl
map_twice f g (t ∷ l) = ap (f (g t) ∷◌) (map_twice f g l)

ren_id : (σ : Name → Name) → ((x : Name) → σ x ≡ x) → (l : List Token) → map (ren σ) l ≡ l
unfolding ren
ren_id σ h [] = refl
ren_id σ h (var_token x ∷ l) = ap₂ (λ (a : Name) (b : List Token). var_token a ∷ b) (h x) (ren_id σ h l)
ren_id σ h (sign k n s ∷ l) = ap (sign k n s ∷◌) (ren_id σ h l)

same_swap : (x y : Name) → same x y ≡ same y x
same_swap x y = same_truth (same x y) (same y x) (λ t. rw (same_eq x y t) (same_refl y)) (λ t. rw (same_eq y x t) (same_refl x))

-- a name that is neither old nor new
put_names : (v w y : Name) (m : List Token) → same y v ≡ false → same y w ≡ false → mem y (names (map (put v w) m)) ≡ mem y (names m)
unfolding names put mem
put_names v w y [] a b = refl
put_names v w y (var_token z ∷ m) a b =
    by_cases (same v z)
    (λ t. rw (t, b, ← same_eq v z t, a) (put_names v w y m a b))
    (λ f. rw f (ap (λ (r : Bool). same y z || r) (put_names v w y m a b)))
put_names v w y (sign k n s ∷ m) a b = put_names v w y m a b

-- what a variable of the matrix becomes: B the names bound behind the block
abbrev pub become : List Name → Pairs → Name → Name
become B ps y = cond (mem y B) y (to ps y)

us_bool : (s e f a b q m n m' : Bool) → (f ≡ true → e ≡ false → n ≡ true) → (f ≡ false → e ≡ false → m' ≡ m)
    → (e || ((s || (((f || a) || b) || q)) || (m || n))) ≡ (((s || (e || false)) || ((a || b) || q)) || (m' || n))
us_bool true true f a b q m n m' h k = refl
us_bool true false f a b q m n m' h k = refl
us_bool false true f a b q m n m' h k = refl
us_bool false false true a b q m n m' h k = sym (rw (h refl refl, or-true m') (or-true ((a || b) || q)))
us_bool false false false a b q m n m' h k = rw (k refl refl)

in_bool : (s f a b q r : Bool) → a ≡ true → ((s || (((f || a) || b) || q)) || r) ≡ true
in_bool true f a b q r e = refl
in_bool false true a b q r e = refl
in_bool false false true b q r e = refl
in_bool false false false b q r e = clash e refl

-- Q, N: the other side; R: what stands behind the block
module _ (Q N R : List Token) (away : List Name) (aw : (y : Name) → mem y away ≡ is_free Q N y) where
  abbrev B : List Name
  B = names R

  abbrev all_of : List Name → List Name → List Token → List Name
  all_of S vs m = (S ++ ((vs ++ B) ++ names Q)) ++ (names m ++ names N)

  abbrev Us : List Name → List Name → List Token → List Name → Type 0
  Us S vs m used = (y : Name) → mem y used ≡ mem y (all_of S vs m)

  rest_names : (vs : List Name) → names (map var_token vs ++ R) ≡ vs ++ B
  rest_names vs = names_append (map var_token vs) R ∙ ap (λ (l : List Name). l ++ B) (names_vars vs)

  mem_all : (y : Name) (S vs : List Name) (m : List Token)
      → mem y (all_of S vs m) ≡ ((mem y S || ((mem y vs || mem y B) || mem y (names Q))) || (mem y (names m) || mem y (names N)))
  mem_all y S vs m =
      mem_append y (S ++ ((vs ++ B) ++ names Q)) (names m ++ names N)
      ∙ ap₂ (◌||◌)
      (mem_append y S ((vs ++ B) ++ names Q) ∙ ap (mem y S ||◌) (mem_append y (vs ++ B) (names Q) ∙ ap (λ (b : Bool). b || mem y (names Q)) (mem_append y vs B)))
      (mem_append y (names m) (names N))

  named : (S vs used : List Name) (v : Name) (m : List Token) → Us S (v ∷ vs) m used → new_name Q N S v (map var_token vs ++ R) m ≡ next away used v
  named S vs used v m us =
      ap₂ (λ (c : Bool) (z : Name). cond c z v) (sym (aw v))
      (fresh_same (reach Q N S v (map var_token vs ++ R) m) used v
      (λ y. ap (λ (l : List Name). mem y ((S ++ (v ∷ (l ++ names Q))) ++ (names m ++ names N))) (rest_names vs) ∙ sym (us y)))

  abbrev turned : List Name → Name → Name → List Token → List Token
  turned vs v w m = cond (mem v (vs ++ B)) m (map (put v w) m)

  us_step : (S vs used : List Name) (v : Name) (m : List Token) → Us S (v ∷ vs) m used → Us (S ++ (next away used v ∷ [])) vs (turned vs v (next away used v) m) (next away used v ∷ used)
  unfolding mem
  us_step S vs used v m us y =
      ap (same y w ||◌) (us y ∙ mem_all y S (v ∷ vs) m)
      ∙ us_bool (mem y S) (same y w) (same y v) (mem y vs) (mem y B) (mem y (names Q)) (mem y (names m)) (mem y (names N)) (mem y (names (turned vs v w m))) old kept
      ∙ ap (λ (b : Bool). (b || ((mem y vs || mem y B) || mem y (names Q))) || (mem y (names (turned vs v w m)) || mem y (names N))) (sym (mem_append y S (w ∷ [])))
      ∙ sym (mem_all y (S ++ (w ∷ [])) vs (turned vs v w m))
    where
      w : Name
      w = next away used v

      old : same y v ≡ true → same y w ≡ false → mem y (names N) ≡ true
      old t f = by_cases (mem v away)
          (λ a. rw (same_eq y v t) (left (mem v (names N)) (not (mem v (names Q))) (sym (aw v) ∙ a)))
          (λ n. clash t (rw n at f))
        where
          left : (a b : Bool) → (a && b) ≡ true → a ≡ true
          left true b e = refl
          left false b e = e

      kept : same y v ≡ false → same y w ≡ false → mem y (names (turned vs v w m)) ≡ mem y (names m)
      kept a b = by_cases (mem v (vs ++ B)) (λ t. rw t) (λ f. rw f (put_names v w y m a b))

  -- the new name is none of those to come
  new_later : (S vs used : List Name) (v : Name) (m : List Token) → Us S (v ∷ vs) m used → mem v (vs ++ B) ≡ false → mem (next away used v) vs ≡ false
  unfolding mem
  new_later S vs used v m us n =
      by_cases (mem v away)
      (λ t. rw t (by_cases (mem (fresh used v) vs)
      (λ i. clash (us (fresh used v) ∙ mem_all (fresh used v) S (v ∷ vs) m
      ∙ in_bool (mem (fresh used v) S) (same (fresh used v) v) (mem (fresh used v) vs) (mem (fresh used v) B) (mem (fresh used v) (names Q)) (mem (fresh used v) (names m) || mem (fresh used v) (names N)) i)
      (fresh_new used v))
      (λ o. o)))
      (λ f. rw f (or_false_left (mem v vs) (mem v B) (sym (mem_append v vs B) ∙ n)))

  -- one pair more, where what is bound again behind it keeps its name
  module _ (vs used : List Name) (v w : Name) where
    abbrev ps : Pairs
    ps = renames vs away used

    again : mem v (vs ++ B) ≡ true → (y : Name) → become B ps y ≡ become B (pair v w ps) y
    unfolding to
    again t y =
        by_cases (mem y B) (λ b. rw b) (λ b. rw (b, olds_are vs away used) (by_cases (mem y vs) (λ i. rw i) (λ i. rw i
        (to_else vs away used y i ∙ by_cases (same y v)
        (λ s. clash t (mem_append v vs B ∙ rw (← same_eq y v s, i, b)))
        (λ s. rw s)))))

    once : mem v (vs ++ B) ≡ false → mem w vs ≡ false → (y : Name) → become B ps (cond (same v y) w y) ≡ become B (pair v w ps) y
    unfolding to
    once n k y =
        by_cases (same v y)
        (λ s. let e = same_eq v y s in
        let f : mem y vs ≡ false = rw (← e) (or_false_left (mem v vs) (mem v B) (sym (mem_append v vs B) ∙ n)) in
        let b : mem y B ≡ false = rw (← e) (or_false_right (mem v vs) (mem v B) (sym (mem_append v vs B) ∙ n)) in
        rw (s, b, olds_are vs away used, f, same_swap y v ∙ s) (by_cases (mem w B) (λ i. rw i) (λ i. rw i (to_else vs away used w k))))
        (λ s. rw s (by_cases (mem y B) (λ b. rw b) (λ b. rw (b, olds_are vs away used) (by_cases (mem y vs) (λ i. rw i)
        (λ i. rw (i, same_swap y v ∙ s) (to_else vs away used y i))))))

    turn : (mem v (vs ++ B) ≡ false → mem w vs ≡ false) → (m : List Token)
        → map (ren (become B ps)) (turned vs v w m) ≡ map (ren (become B (pair v w ps))) m
    unfolding ren put
    turn later m =
        by_cases (mem v (vs ++ B))
        (λ t. rw t (map_ext (ren (become B ps)) (ren (become B (pair v w ps))) (λ k. each_again t k) m))
        (λ f. rw f (map_twice (ren (become B ps)) (put v w) m ∙ map_ext (λ k. ren (become B ps) (put v w k)) (ren (become B (pair v w ps))) (λ k. each_once f k) m))
      where
        each_again : mem v (vs ++ B) ≡ true → (k : Token) → ren (become B ps) k ≡ ren (become B (pair v w ps)) k
        each_again t (var_token y) = ap var_token (again t y)
        each_again t (sign k n s) = refl

        each_once : mem v (vs ++ B) ≡ false → (k : Token) → ren (become B ps) (put v w k) ≡ ren (become B (pair v w ps)) k
        each_once f (var_token y) = ap var_token (once f (later f) y)
        each_once f (sign k n s) = refl

  first : (S vs used : List Name) (v : Name) (m : List Token) → Us S (v ∷ vs) m used
      → walk Q N S (var_token v ∷ (map var_token vs ++ R)) m ≡ behind (var_token (next away used v) ∷ []) (walk Q N (S ++ (next away used v ∷ [])) (map var_token vs ++ R) (turned vs v (next away used v) m))
  unfolding walk
  first S vs used v m us =
      ap₂ (λ (z : Name) (c : Bool). behind (var_token z ∷ []) (walk Q N (S ++ (z ∷ [])) (map var_token vs ++ R) (cond c m (map (put v z) m))))
      (named S vs used v m us) (ap (mem v) (rest_names vs))

  -- a block's variables, walked
  block : (vs S used : List Name) (m : List Token) → Us S vs m used
      → walk Q N S (map var_token vs ++ R) m
      ≡ behind (map var_token (news (renames vs away used))) (walk Q N (S ++ news (renames vs away used)) R (map (ren (become B (renames vs away used))) m))
  unfolding renames news to
  block [] S used m us = rw (append-nil, ren_id (λ y. cond (mem y B) y y) (λ y. by_cases (mem y B) (λ t. rw t) (λ f. rw f)) m)
  block (v ∷ vs) S used m us =
      first S vs used v m us
      ∙ ap (behind (var_token (next away used v) ∷ [])) (block vs (S ++ (next away used v ∷ [])) (next away used v ∷ used) (turned vs v (next away used v) m) (us_step S vs used v m us)
      ∙ rw (append_assoc, turn vs (next away used v ∷ used) v (next away used v) (new_later S vs used v m us) m))

start_bool : (v b q m n : Bool) → (v || ((b || (m && not b)) || (q || (n && not q)))) ≡ ((v || b) || q) || (m || n)
start_bool true b q m n = refl
start_bool false true q m n = refl
start_bool false false true true n = refl
start_bool false false true false n = refl
start_bool false false false true n = refl
start_bool false false false false true = refl
start_bool false false false false false = refl

-- the names that a block's new ones avoid
start : (q : Prefix) (n : Formula) (p : Prefix) (m : Formula) (vs : List Name) → no_block n ≡ true → no_block m ≡ true → (y : Name)
    → mem y (vs ++ ((bound (close p m) ++ free (close p m)) ++ (bound (close q n) ++ free (close q n))))
    ≡ mem y (((vs ++ names (prefix_code p)) ++ names (prefix_code q)) ++ (names (code m) ++ names (code n)))
start q n p m vs bn bm y =
    mem_append y vs ((bound (close p m) ++ free (close p m)) ++ (bound (close q n) ++ free (close q n)))
    ∙ ap (mem y vs ||◌) (mem_append y (bound (close p m) ++ free (close p m)) (bound (close q n) ++ free (close q n)) ∙ ap₂ (◌||◌) (one p m bm) (one q n bn))
    ∙ start_bool (mem y vs) (mem y (names (prefix_code p))) (mem y (names (prefix_code q))) (mem y (names (code m))) (mem y (names (code n)))
    ∙ sym (mem_append y ((vs ++ names (prefix_code p)) ++ names (prefix_code q)) (names (code m) ++ names (code n))
    ∙ ap₂ (◌||◌) (mem_append y (vs ++ names (prefix_code p)) (names (prefix_code q)) ∙ ap (λ (b : Bool). b || mem y (names (prefix_code q))) (mem_append y vs (names (prefix_code p))))
    (mem_append y (names (code m)) (names (code n))))
  where
    one : (p : Prefix) (m : Formula) → no_block m ≡ true
        → mem y (bound (close p m) ++ free (close p m)) ≡ (mem y (names (prefix_code p)) || (mem y (names (code m)) && not (mem y (names (prefix_code p)))))
    one p m b = mem_append y (bound (close p m)) (free (close p m)) ∙ ap₂ (◌||◌) (close_bound y p m b) (close_free y p m b)

-- the walk over a side's tokens is the side renamed apart
pub aside_walk : (q : Prefix) (n : Formula) (p : Prefix) (m : Formula) (S : List Name) → no_block n ≡ true → no_block m ≡ true
    → walk (prefix_code q) (code n) S (prefix_code p) (code m) ≡ record { prefix = prefix_code (aside q n p m).prefix; matrix = code (aside q n p m).matrix }
unfolding walk prefix_code aside
aside_walk q n plain m S bn bm = refl
aside_walk q n (more k vs p) m S bn bm =
    ap (behind (sign (block_kind k) (length vs) [] ∷ []))
    (block (prefix_code q) (code n) (prefix_code p) away (λ y. close_free y q n bn) vs [] used (code m) (start q n p m vs bn bm)
    ∙ ap (λ (l : List Token). behind (map var_token (news ps)) (walk (prefix_code q) (code n) (news ps) (prefix_code p) l)) (sym moved)
    ∙ ap (behind (map var_token (news ps))) (aside_walk q n p (sub (shades p (as_subst ps)) m) (news ps) bn (sub_no_block (shades p (as_subst ps)) m ∙ bm)))
    ∙ rw (news_length vs away used)
  where
    away : List Name
    away = free (close q n)

    used : List Name
    used = vs ++ ((bound (close p m) ++ free (close p m)) ++ (bound (close q n) ++ free (close q n)))

    ps : Pairs
    ps = renames vs away used

    moved : code (sub (shades p (as_subst ps)) m) ≡ map (ren (become (names (prefix_code p)) ps)) (code m)
    moved = code_ren (shades p (as_subst ps)) (become (names (prefix_code p)) ps)
        (λ x. shades_at p (as_subst ps) x ∙ by_cases (mem x (names (prefix_code p))) (λ t. rw t) (λ f. rw f)) m bm
