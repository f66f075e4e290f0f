-- What a line does to what is due, where that is kept as a level for each depth: the node serves the first thing that is due at the top level,
-- and its parts are a level above.
use Rattle.std.proofs.Common.{◌≡◌, refl, sym, ap, ◌∙◌, Bool, true, false, List, [], ◌∷◌, ◌++◌, map, append_assoc, ℕ, zero, suc, ◌+◌, ◌-◌, ◌<◌, ◌≤◌}
use Rattle.std.proofs.Common.{length, set, length-set, arith}
use Rattle.std.specs.Prelude.{Some, Ok}
use mathlib.Core.Bool.{beq, not}
use mathlib.Core.Option.{Option as Perhaps, none, some}
use native.Mathlib.Numerals.{add-one}
use borrow.Author.Tests.{le-leb}
use lib.Seq.{get_or-set_same, get_or-set_other}
use Rattle.definitions.specs.Bytes.{Bytes}
use Rattle.definitions.specs.Limits.{house}
use Rattle.definitions.specs.RuleText.{Node}
use Rattle.definitions.specs.Reading.{node_weight, is_term, Due, some_due, parse, agree}
use Rattle.text.specs.Words.{Token, var_token}
use Rattle.text.specs.declared.table.Table.{Table}
use Rattle.reader.specs.declared.Seen.{Seen}
use Rattle.reader.specs.declared.Level.{Level}
use Rattle.reader.specs.declared.Stack.{Stack}
use Rattle.reader.specs.Lines.{kind_is_term, parts_are_terms, names_from, Lies, Sees, Saw}
use Rattle.reader.specs.Levels.{level_at, due_of, due, Ready, Top, Served, Written, move, Moves}
use Rattle.reader.proofs.Fields.{stand_more}

-- Levels.
pub nothing_due : (D : List Level) (n : ℕ) → 0 < n → (level_at D (n - 1)).parts ≡ 0 → due_of D (n - 1) ≡ due_of D n
unfolding due_of
nothing_due D zero h e = absurd (omega arith)
nothing_due D (suc k) h e = let z : suc k - 1 ≡ k = omega arith in let y = rw z at e in rw (z, y)

due_set : (D : List Level) (i : ℕ) (v : Level) (k : ℕ) → k ≤ i → due_of (set D i v) k ≡ due_of D k
unfolding due_of
due_set D i v zero h = refl
due_set D i v (suc k) h = rw (get_or-set_other D i k v (record { parts = 0; terms = false }) (omega arith), due_set D i v k (omega arith))

-- what is due at one level
abbrev level_due : Level → ℕ → List Due
level_due v d = some_due v.parts v.terms d

pushed : (D : List Level) (j : ℕ) (u v : Level) → suc j < length D
    → due_of (set (set D j u) (suc j) v) (suc (suc j)) ≡ level_due v (suc (suc j)) ++ (level_due u (suc j) ++ due_of D j)
unfolding due_of
pushed D j u v h =
    let n : Level = record { parts = 0; terms = false } in
    rw (
      get_or-set_same (set D j u) (suc j) v n (rw length-set h),
      get_or-set_other (set D j u) (suc j) j v n (omega arith),
      get_or-set_same D j u n
          (omega arith),
      due_set (set D j u) (suc j) v j (omega arith),
      due_set D j u j (omega arith),
    )

-- a level without the part that is due first
abbrev pub without : Level → Level
without v = record { parts = v.parts - 1; terms = v.terms }

due_split : (n : ℕ) (t : Bool) (d : ℕ) → 0 < n → some_due n t d ≡ record { term = t; depth = d } ∷ some_due (n - 1) t d
due_split zero t d h = absurd (omega arith)
due_split (suc n) t d h = let z : suc n - 1 ≡ n = omega arith in rw z

first_due : (D : List Level) (j : ℕ) → 0 < (level_at D j).parts
    → due_of D (suc j) ≡ record { term = (level_at D j).terms; depth = suc j } ∷ (level_due (without (level_at D j)) (suc j) ++ due_of D j)
unfolding due_of
first_due D j h = ap (λ (x : List Due). x ++ due_of D j) (due_split (level_at D j).parts (level_at D j).terms (suc j) h)

pub top_is : (s : Stack) → Ready s → (j : ℕ) → s.depth ≡ suc j → Top s (level_at s.levels j)
top_is s r j e =
    let z : s.depth - 1 ≡ j = omega arith in
    let h = rw z at (r.some_left (omega arith)) in
    record { some = omega arith; rest = level_due (without (level_at s.levels j)) (suc j) ++ due_of s.levels j; first = rw e (first_due s.levels j h) }

pub no_level : (s : Stack) → s.depth ≡ 0 → due s ≡ []
unfolding due_of
no_level s e = rw e

pub served : (s : Stack) (level : Level) (s' : Stack) → length s.levels ≡ 65 → Ready s → 0 < s.depth → s.depth ≤ 64
    → due s' ≡ due_of (set (set s.levels (s.depth - 1) (without (level_at s.levels (s.depth - 1)))) s.depth level) (s.depth + 1) → Served s level s'
served s level s' n r h g e = go (s.depth - 1) (omega arith)
  where
    go : (j : ℕ) → s.depth ≡ suc j → Served s level s'
    go j z =
        let y : s.depth - 1 ≡ j = omega arith in
        let w = rw y at (r.some_left h) in
        record {
          next = λ d rest q.
              let f : level_due (without (level_at s.levels j)) (suc j) ++ due_of s.levels j ≡ rest = let p = sym (first_due s.levels j w) ∙ rw z at q in cc in
              rw (← f, z) (rw (y, add-one, z) at e ∙ pushed s.levels j (without (level_at s.levels j)) level (omega arith));
        }

-- Lines.
agree_same : (a b : Bool) → a ≡ b → agree a b ≡ true
agree_same true b e = sym e
agree_same false b e = rw (← e)

pub same_sort : (a b : Bool) → not (beq a b) ≡ false → a ≡ b
same_sort true true e = refl
same_sort true false e = e
same_sort false true e = sym e
same_sort false false e = refl

module _ (at line : ℕ) (l : Bytes) (s : Stack) (t : Table) (s' : Stack) (t' : Table) where
  -- where something is due and a node is seen
  module _ (top : Level) (b : Top s top) (r : Seen) where
    seen : (o : Perhaps Node) → Saw at l o (Some r) → (n : Node) × (o ≡ some n) × Sees at l n r
    seen none w = absurd cc
    seen (some n) w = (n, refl, w)

    module _ (w : Saw at l (parse house l) (Some r)) (e : kind_is_term r.kind ≡ top.terms) where
      pub goes : s.depth ≤ 64 → t.used + r.variables < 1024 → length t.nodes ≡ 1024
          → Served s (record { parts = r.parts; terms = parts_are_terms r.kind }) s' → t'.used ≡ t.used + 1 + r.variables
          → ((T : Bytes) (ts : List Token) → Lies T at l → Written T (record { nodes = set t.nodes t.used r.word; used = t.used + 1 }) ts
          → Written T t' (ts ++ map var_token (names_from l r.from r.variables)))
          → Moves at line l t (move s t l) (Ok tt) s' t'
      goes h g f v u more =
          let q = seen (parse house l) w in
          let n = q.2 in
          rw (
            b.first,
            q.1,
            agree_same (is_term q.0) top.terms (sym n.sort ∙ e),
            le-leb s.depth 64 h,
            le-leb (t.used + node_weight q.0) 1024
                (omega (arith, n.weight)),
          ) (record {
            left = v.next _ b.rest b.first ∙ rw (n.below (suc s.depth)) refl;
            weight = omega (arith, n.weight);
            short = n.short;
            table = λ T ts i x.
                rw n.code
                (rw append_assoc at
                (more T (ts ++ (n.head ∷ [])) i (stand_more T t.nodes t.used r.word ts (n.head ∷ []) (omega (arith, f)) x (n.first T i))));
          })
