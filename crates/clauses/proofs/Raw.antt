-- The raw clauses of a plan: how many there are, which is the k-th, and that none has more literals than the plan has words.
use mathlib.Core.Path.{◌≡◌, refl, ap, ◌∙◌}
use mathlib.Core.List.{List, [], ◌∷◌, ◌++◌, map}
use Prim.Native.Nat.{ℕ, zero, suc, ◌+◌, ◌*◌, ◌-◌, ◌/◌, ◌%◌, ◌<◌, ◌≤◌}
use native.Mathlib.Omega.{arith}
use native.Mathlib.Nat.{add-mul, div-eq-sub-div, mod-eq-sub-mod, div-eq_of_lt, mod-eq_of_lt}
use native.Mathlib.Numerals.{add-one}
use lib.ListN.{length, get_or, length-append, length-map, get_or-append}
use lib.Seq.{get_or-append-add}
use Rattle.clauses.specs.Plans.{Plan, none, empty, leaf, sum, product, joined, made, counts, size}
use Rattle.clauses.proofs.Numbers.{either_way}

pub joined_length : (a b : List (List ℕ)) → length (joined a b) ≡ length a * length b
unfolding joined
joined_length [] b = omega arith
joined_length (c ∷ a) b = omega (arith, length-append (map (λ d. c ++ d) b) (joined a b), length-map b (λ d. c ++ d), joined_length a b)

pub made_length : (p : Plan) → length (made p) ≡ (counts p).clauses
unfolding made counts
made_length none = refl
made_length empty = refl
made_length (leaf n) = refl
made_length (sum a b) = length-append (made a) (made b) ∙ rw (made_length a, made_length b)
made_length (product a b) = joined_length (made a) (made b) ∙ rw (made_length a, made_length b)

-- the raw clause k
abbrev pub nth : List (List ℕ) → ℕ → List ℕ
nth l k = get_or l k []

pub nth_right : (a b : List (List ℕ)) (k : ℕ) → length a ≤ k → nth (a ++ b) k ≡ nth b (k - length a)
nth_right a b k h = let z : k ≡ length a + (k - length a) = omega arith in ap (nth (a ++ b)) z ∙ get_or-append-add a b (k - length a) []

nth_map : (c : List ℕ) (b : List (List ℕ)) (k : ℕ) → k < length b → nth (map (λ d. c ++ d) b) k ≡ c ++ nth b k
nth_map c [] k h = absurd (omega arith)
nth_map c (d ∷ b) zero h = refl
nth_map c (d ∷ b) (suc k) h = nth_map c b k (omega arith)

pub nth_joined : (a b : List (List ℕ)) (k : ℕ) → 0 < length b → k < length a * length b → nth (joined a b) k ≡ nth a (k / length b) ++ nth b (k % length b)
unfolding joined
nth_joined [] b k h l = absurd (omega arith)
nth_joined (c ∷ a) b k h l = either_way (length b) k (λ g. later g (λ j. nth_joined a b j h)) now
  where
    now : k < length b → nth (map (λ d. c ++ d) b ++ joined a b) k ≡ nth (c ∷ a) (k / length b) ++ nth b (k % length b)
    now g =
        get_or-append (map (λ d. c ++ d) b) (joined a b) [] k (rw (length-map b (λ d. c ++ d)) g)
        ∙ nth_map c b k g
        ∙ rw (div-eq_of_lt g, mod-eq_of_lt g)

    later : length b ≤ k → ((j : ℕ) → j < length a * length b → nth (joined a b) j ≡ nth a (j / length b) ++ nth b (j % length b))
        → nth (map (λ d. c ++ d) b ++ joined a b) k ≡ nth (c ∷ a) (k / length b) ++ nth b (k % length b)
    later g again =
        nth_right (map (λ d. c ++ d) b) (joined a b) k (rw (length-map b (λ d. c ++ d)) g)
        ∙ rw (length-map b (λ d. c ++ d), div-eq-sub-div h g, mod-eq-sub-mod g, add-one)
        (again (k - length b) (omega (arith, add-mul 1 (length a) (length b))))

-- no raw clause is longer than the plan
Short : ℕ → List (List ℕ) → Type 0
Short n [] = Unit {0}
Short n (c ∷ l) = (length c ≤ n) × Short n l

short_more : (n p : ℕ) (l : List (List ℕ)) → n ≤ p → Short n l → Short p l
unfolding Short
short_more n p [] h s = tt
short_more n p (c ∷ l) h s = (omega arith, short_more n p l h s.1)

short_append : (n : ℕ) (a b : List (List ℕ)) → Short n a → Short n b → Short n (a ++ b)
unfolding Short
short_append n [] b s t = t
short_append n (c ∷ a) b s t = (s.0, short_append n a b s.1 t)

short_map : (n p : ℕ) (c : List ℕ) (b : List (List ℕ)) → length c ≤ n → Short p b → Short (n + p) (map (λ d. c ++ d) b)
unfolding Short
short_map n p c [] h t = tt
short_map n p c (d ∷ b) h t = (rw (length-append c d) (omega (arith, t.0)), short_map n p c b h t.1)

short_joined : (n p : ℕ) (a b : List (List ℕ)) → Short n a → Short p b → Short (n + p) (joined a b)
unfolding Short joined
short_joined n p [] b s t = tt
short_joined n p (c ∷ a) b s t =
    short_append (n + p) (map (λ d. c ++ d) b) (joined a b) (short_map n p c b s.0 t) (short_joined n p a b s.1 t)

short_made : (p : Plan) → Short (size p) (made p)
unfolding Short made size
short_made none = tt
short_made empty = (omega arith, tt)
short_made (leaf n) = (omega arith, tt)
short_made (sum a b) =
    short_append (size (sum a b)) (made a) (made b) (short_more (size a) _ (made a) (omega arith) (short_made a)) (short_more (size b) _ (made b) (omega arith) (short_made b))
short_made (product a b) = short_more (size a + size b) _ (joined (made a) (made b)) (omega arith) (short_joined (size a) (size b) (made a) (made b) (short_made a) (short_made b))

short_nth : (n : ℕ) (l : List (List ℕ)) (k : ℕ) → Short n l → length (nth l k) ≤ n
unfolding Short
short_nth n [] k s = omega arith
short_nth n (c ∷ l) zero s = s.0
short_nth n (c ∷ l) (suc k) s = short_nth n l k s.1

pub clause_short : (p : Plan) (k : ℕ) → length (nth (made p) k) ≤ size p
clause_short p k = short_nth (size p) (made p) k (short_made p)
