-- Words and the tokens that they stand for: a table's tokens at a place, after a word was written, and while the made names grow.
use mathlib.Core.Path.{◌≡◌, refl, sym, ap, ap₂, ◌∙◌}
use mathlib.Core.Bool.{Bool, true, false, cond, ◌||◌}
use mathlib.Core.List.{List, [], ◌∷◌, ◌++◌}
use Prim.Native.Nat.{ℕ, zero, suc, ◌+◌, ◌-◌, ◌≤◌}
use lib.Dec.{eqb}
use lib.ListN.{take, drop, get_or, set, get_or-map}
use lib.Seq.{slice, take-take}
use Rattle.std.specs.List.{list_any}
use Rattle.std.proofs.lemmas.Slice.{between_is}
use Rattle.prenex.specs.Renaming.{is_spelled}
use Rattle.text.specs.WordLaws.{map_take, map_drop}
use Rattle.definitions.specs.Bytes.{Bytes, same}
use Rattle.definitions.specs.Syntax.{Name}
use Rattle.definitions.specs.Names.{mem}
use Rattle.definitions.proofs.Laws.Bools.{by_cases}
use Rattle.definitions.proofs.Laws.Sets.{mem_append}
use Rattle.text.specs.Words.{Token, var_token, sign, is_made, kind_of_word, count_of, size_of, start_of, spell, token, tokens, same_variable}
use Rattle.text.specs.Prefixes.{names}
use Rattle.prenex.specs.Tables.{Known, AllKnown}
use Rattle.prenex.proofs.Splices.{part}

module _ (T M : Bytes) where
  pub tokens_at : (W : List ℕ) (i : ℕ) → get_or (tokens T M W) i (token T M 0) ≡ token T M (get_or W i 0)
  tokens_at W i = get_or-map (token T M) W i 0

  pub tokens_set : (W : List ℕ) (i v : ℕ) → tokens T M (set W i v) ≡ set (tokens T M W) i (token T M v)
  tokens_set [] i v = refl
  tokens_set (w ∷ W) zero v = refl
  tokens_set (w ∷ W) (suc i) v = ap (token T M w ∷◌) (tokens_set W i v)

  -- a word's test, in words of its parts
  pub spelled_is : (w v : ℕ) → same_variable (spell T M w) (token T M v) ≡ is_spelled T M w v
  spelled_is w v = by_cases (eqb (kind_of_word v) 12) (λ t. rw t) (λ f. rw f)

  -- a name stands in a run where a word of it has that name
  pub some_spelled : (w : ℕ) (W : List ℕ) → list_any (is_spelled T M w) W ≡ mem (spell T M w) (names (tokens T M W))
  unfolding names mem
  some_spelled w [] = refl
  some_spelled w (v ∷ W) =
      by_cases (eqb (kind_of_word v) 12)
      (λ t. rw t (ap (λ (b : Bool). same (spell T M w) (spell T M v) || b) (some_spelled w W)))
      (λ f. rw f (some_spelled w W))

  -- a run of a table
  pub tokens_run : (W : List ℕ) (i j : ℕ) → tokens T M (take (j - i) (drop i W)) ≡ slice i j (tokens T M W)
  tokens_run W i j = ap (tokens T M) (between_is W i j) ∙ map_drop (token T M) i (take j W) ∙ ap (drop i) (map_take (token T M) j W)

  pub seen : (w : ℕ) (W : List ℕ) (i j : ℕ) {r : Bool} → r ≡ mem (spell T M w) (names (tokens T M (take (j - i) (drop i W)))) → r ≡ mem (spell T M w) (names (slice i j (tokens T M W)))
  seen w W i j e = e ∙ ap (λ (l : List Token). mem (spell T M w) (names l)) (tokens_run W i j)

-- a name in one of three lists, each asked in turn
module _ (x : Name) (a b d : List Name) where
  pub in_first : {r v : Bool} → r ≡ mem x a → r ≡ true → v ≡ r → v ≡ mem x (a ++ (b ++ d))
  in_first e t z = z ∙ t ∙ sym (mem_append x a (b ++ d) ∙ rw (sym e ∙ t))

  pub in_second : {r s v : Bool} → r ≡ mem x a → r ≡ false → s ≡ mem x b → v ≡ s → v ≡ true → v ≡ mem x (a ++ (b ++ d))
  in_second e f k z t = t ∙ sym (mem_append x a (b ++ d) ∙ rw (sym e ∙ f) (mem_append x b d ∙ rw (sym k ∙ sym z ∙ t)))

  pub in_third : {r s t : Bool} → r ≡ mem x a → r ≡ false → s ≡ mem x b → s ≡ false → t ≡ mem x d → t ≡ mem x (a ++ (b ++ d))
  in_third e f k g l = l ∙ sym (mem_append x a (b ++ d) ∙ rw (sym e ∙ f) (mem_append x b d ∙ rw (sym k ∙ g)))

-- Spellings stay where the made names only grow behind them.
part_kept : (a b n : ℕ) (l m : List ℕ) → b + a ≤ n → take n l ≡ take n m → take a (drop b l) ≡ take a (drop b m)
part_kept a b n l m h e =
    rw (part a b l, part a b m, ← take-take (b + a) n l h, ← take-take (b + a) n m h, e)

module _ (T M N : List ℕ) (n : ℕ) (e : take n M ≡ take n N) where
  spell_kept : (w : ℕ) → Known n w → spell T M w ≡ spell T N w
  spell_kept w k =
      by_cases (is_made w)
      (λ t. rw t (part_kept (size_of w) (start_of w) n M N (k t) e))
      (λ f. rw f)

  pub tokens_kept : (W : List ℕ) → AllKnown n W → tokens T M W ≡ tokens T N W
  tokens_kept [] k = refl
  tokens_kept (w ∷ W) k =
      ap₂ (λ (x : Name) (l : List Token). cond (eqb (kind_of_word w) 12) (var_token x) (sign (kind_of_word w) (count_of w) x) ∷ l) (spell_kept w (k zero)) (tokens_kept W (λ i. k (suc i)))
