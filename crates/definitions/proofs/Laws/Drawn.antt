-- The names that an exists block draws, the terms that it puts in, and new values for just what it draws.
use Rattle.std.specs.Prelude.{◌≡◌, Bool, true, false, ◌&&◌, ◌||◌, cond, ℕ, suc, ◌+◌, ◌≤◌, ◌<◌, eqb, length}
use Rattle.std.proofs.Math.Path.{refl}
use Rattle.std.proofs.Common.{sym, ap, arith}
use mathlib.Core.List.{List, [], ◌∷◌, tail}
use Rattle.definitions.specs.Bytes.{same}
use Rattle.definitions.specs.Syntax.{Name, Term, var}
use Rattle.definitions.specs.Names.{mem}
use Rattle.definitions.specs.Skolem.{among, constant_name, constant_symbol, drawn_symbols, function_name, function_symbol, put}
use Rattle.definitions.proofs.Laws.Bools.{by_cases, clash, or_false_left, or_false_right}
use Rattle.definitions.proofs.Laws.Sets.{same_eq, same_refl}
use Rattle.definitions.proofs.Laws.Decimal.{decimal_inj}
use Rattle.definitions.specs.Laws.Drawn.{last}

pub constant_inj : (j k : ℕ) → constant_name j ≡ constant_name k → j ≡ k
constant_inj j k e = decimal_inj j k (ap (λ l. tail (tail l)) e)

pub function_inj : (j k : ℕ) → function_name j ≡ function_name k → j ≡ k
function_inj j k e = decimal_inj j k (ap (λ l. tail (tail l)) e)

pub put_else : (vs : List Name) (t : ℕ → Term) (k : ℕ) (x : Name) → mem x vs ≡ false → put vs t k x ≡ var x
unfolding put mem
put_else [] t k x n = refl
put_else (v ∷ vs) t k x n = rw (or_false_right (same x v) (mem x vs) n, or_false_left (same x v) (mem x vs) n)

pub or_else : (a b : Bool) → (a || b) ≡ true → b ≡ false → a ≡ true
or_else true b e f = refl
or_else false b e f = clash e f

pub put_at : (vs : List Name) (t : ℕ → Term) (k : ℕ) (x : Name) → mem x vs ≡ true → put vs t k x ≡ t (last vs k x)
unfolding put last mem
put_at [] t k x m = clash m refl
put_at (v ∷ vs) t k x m =
    by_cases (mem x vs) (λ e. rw e (put_at vs t (suc k) x e)) (λ e. rw (e, or_else (same x v) (mem x vs) m e))

pub last_low : (vs : List Name) (k : ℕ) (x : Name) → k ≤ last vs k x
unfolding last
last_low [] k x = omega arith
last_low (v ∷ vs) k x = by_cases (mem x vs) (λ e. rw e (omega (arith, last_low vs (suc k) x))) (λ e. rw e (omega arith))

pub last_high : (vs : List Name) (k : ℕ) (x : Name) → mem x vs ≡ true → last vs k x < k + length vs
unfolding last mem
last_high [] k x m = clash m refl
last_high (v ∷ vs) k x m = by_cases (mem x vs) (λ e. rw e (omega (arith, last_high vs (suc k) x e))) (λ e. rw e (omega arith))

pub differ : (nm : ℕ → Name) → ((j k : ℕ) → nm j ≡ nm k → j ≡ k) → (j k : ℕ) → k < j → same (nm j) (nm k) ≡ false
differ nm inj j k l = by_cases (same (nm j) (nm k)) (λ e. absurd (omega (arith, inj j k (same_eq (nm j) (nm k) e)))) (λ e. e)

-- New values for the names from the k-th on, one for each variable.
module _ {A : Type 0} (nm : ℕ → Name) (inj : (j k : ℕ) → nm j ≡ nm k → j ≡ k) where
  unfoldable pub patch : (new old : Name → A) → List Name → ℕ → Name → A
  patch new old [] k n = old n
  patch new old (v ∷ vs) k n = cond (same n (nm k)) (new v) (patch new old vs (suc k) n)

  pub patch_at : (new old : Name → A) (vs : List Name) (k : ℕ) (x : Name) → mem x vs ≡ true → patch new old vs k (nm (last vs k x)) ≡ new x
  unfolding patch last mem
  patch_at new old [] k x m = clash m refl
  patch_at new old (v ∷ vs) k x m =
      by_cases (mem x vs)
      (λ e. rw (e, differ nm inj (last vs (suc k) x) k (last_low vs (suc k) x)) (patch_at new old vs (suc k) x e))
      (λ e. rw (e, same_refl (nm k)) (ap new (sym (same_eq x v (or_else (same x v) (mem x vs) m e)))))

-- What is not among the symbols drawn is not patched.
pub constants_kept : {A : Type 0} (new old : Name → A) (vs : List Name) (k : ℕ) (n : Name) → among (constant_symbol n) (drawn_symbols [] vs k) ≡ false
    → patch constant_name constant_inj new old vs k n ≡ old n
unfolding patch among drawn_symbols
constants_kept new old [] k n h = refl
constants_kept new old (v ∷ vs) k n h =
    rw (or_false_left (same n (constant_name k)) (among (constant_symbol n) (drawn_symbols [] vs (suc k))) h)
    (constants_kept new old vs (suc k) n (or_false_right (same n (constant_name k)) (among (constant_symbol n) (drawn_symbols [] vs (suc k))) h))

pub functions_kept : {A : Type 0} (a : Name) (l : List Name) (new old : Name → A) (vs : List Name) (k : ℕ) (n : Name) (m : ℕ) → eqb m (length (a ∷ l)) ≡ true
    → among (function_symbol n m) (drawn_symbols (a ∷ l) vs k) ≡ false → patch function_name function_inj new old vs k n ≡ old n
unfolding patch among drawn_symbols
functions_kept a l new old [] k n m e h = refl
functions_kept a l new old (v ∷ vs) k n m e h =
    let g = same_left (same n (function_name k)) (eqb m (length (a ∷ l))) (among (function_symbol n m) (drawn_symbols (a ∷ l) vs (suc k))) e h in
    rw (or_false_left (same n (function_name k)) (among (function_symbol n m) (drawn_symbols (a ∷ l) vs (suc k))) g)
    (functions_kept a l new old vs (suc k) n m e (or_false_right (same n (function_name k)) (among (function_symbol n m) (drawn_symbols (a ∷ l) vs (suc k))) g))
  where
    same_left : (b c r : Bool) → c ≡ true → (b && c || r) ≡ false → (b || r) ≡ false
    same_left true c r e h = rw e at h
    same_left false c r e h = h

-- A block that draws functions draws no constant, and the reverse.
pub constants_none : (a : Name) (l vs : List Name) (k : ℕ) (n : Name) → among (constant_symbol n) (drawn_symbols (a ∷ l) vs k) ≡ false
unfolding among drawn_symbols
constants_none a l [] k n = refl
constants_none a l (v ∷ vs) k n = constants_none a l vs (suc k) n

pub functions_none : (vs : List Name) (k : ℕ) (n : Name) (m : ℕ) → among (function_symbol n m) (drawn_symbols [] vs k) ≡ false
unfolding among drawn_symbols
functions_none [] k n m = refl
functions_none (v ∷ vs) k n m = functions_none vs (suc k) n m

-- Names that are none of those from the k-th on are not drawn.
pub constants_high : (args vs : List Name) (k : ℕ) (n : Name) → ((j : ℕ) → k ≤ j → same n (constant_name j) ≡ false)
    → among (constant_symbol n) (drawn_symbols args vs k) ≡ false
unfolding among drawn_symbols
constants_high args [] k n h = refl
constants_high [] (v ∷ vs) k n h = rw (h k (omega arith)) (constants_high [] vs (suc k) n (λ j b. h j (omega arith)))
constants_high (a ∷ l) (v ∷ vs) k n h = constants_none a l vs (suc k) n

pub functions_high : (args vs : List Name) (k : ℕ) (n : Name) (m : ℕ) → ((j : ℕ) → k ≤ j → same n (function_name j) ≡ false)
    → among (function_symbol n m) (drawn_symbols args vs k) ≡ false
unfolding among drawn_symbols
functions_high args [] k n m h = refl
functions_high [] (v ∷ vs) k n m h = functions_none vs (suc k) n m
functions_high (a ∷ l) (v ∷ vs) k n m h = rw (h k (omega arith)) (functions_high (a ∷ l) vs (suc k) n m (λ j b. h j (omega arith)))
