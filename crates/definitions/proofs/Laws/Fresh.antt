-- A new name is none of those taken; a block with its variables renamed says the same.
use Rattle.std.specs.Prelude.{◌≡◌, refl, Bool, true, false, ◌||◌, List, [], ◌∷◌, ℕ, zero, suc, ◌+◌, ◌≤◌, ◌<◌, length}
use Rattle.std.proofs.Common.{sym, ◌∙◌, ap, arith, length-append}
use Rattle.definitions.specs.Bytes.{same}
use Rattle.definitions.specs.Syntax.{Name, Quant}
use Rattle.definitions.specs.Names.{mem}
use Rattle.definitions.specs.Truth.{Assign, Domain, block}
use Rattle.definitions.specs.Prenex.{Pairs, fresh, fresh_from, longest, news, next, olds, renames, ticked, to}
use Rattle.definitions.proofs.Laws.Bools.{by_cases, clash, or_false_left, or_false_right, or_left, or_right}
use Rattle.definitions.proofs.Laws.Sets.{same_eq, same_refl}
use Rattle.definitions.proofs.Laws.Blocks.{block_same}
use Rattle.definitions.specs.Laws.Free.{Reads, mix}
use Rattle.definitions.proofs.Laws.Free.{mix_off}
use Rattle.definitions.specs.Laws.Fresh.{In, from}

mem_longest : (x : Name) (l : List Name) → mem x l ≡ true → length x ≤ longest l
unfolding mem longest
mem_longest x [] m = clash m refl
mem_longest x (y ∷ l) m =
    by_cases (same x y)
    (λ t. rw (same_eq x y t) (omega arith))
    (λ f. omega (arith, mem_longest x l (rw f at m)))

fresh_from_new : (k : ℕ) (used : List Name) (x : Name) → longest used < length x + k → mem (fresh_from k used x) used ≡ false
unfolding fresh_from
fresh_from_new zero used x h = by_cases (mem x used) (λ t. absurd (omega (arith, mem_longest x used t))) (λ f. f)
fresh_from_new (suc k) used x h =
    by_cases (mem x used)
    (λ t. rw t (fresh_from_new k used (ticked x) (omega (arith, length-append x (96 ∷ [])))))
    (λ f. rw f f)

pub fresh_new : (used : List Name) (x : Name) → mem (fresh used x) used ≡ false
unfolding fresh
fresh_new used x = fresh_from_new (suc (longest used)) used x (omega arith)

in_tail : (w : Name) (v : Name) (vs used : List Name) → In (v ∷ vs) used → In vs (w ∷ used)
unfolding mem
in_tail w v vs used h x m = or_right (same x w) (mem x used) (h x (or_right (same x v) (mem x vs) m))

-- a new name that is used is an old one that was kept
next_used : (away used : List Name) (v : Name) → mem (next away used v) used ≡ true → (next away used v ≡ v) × (mem v away ≡ false)
next_used away used v m = by_cases (mem v away) (λ t. clash (rw t at m) (fresh_new used v)) (λ f. (rw f, f))

olds_are : (vs away used : List Name) → olds (renames vs away used) ≡ vs
unfolding olds renames
olds_are [] away used = refl
olds_are (v ∷ vs) away used = ap (v ∷◌) (olds_are vs away (next away used v ∷ used))

or_else : (a b : Bool) → (a || b) ≡ true → b ≡ false → a ≡ true
or_else true b e f = refl
or_else false b e f = clash e f

-- where the first pair does not decide, and where it does
tail_at : (v : Name) (vs away used : List Name) (x : Name) → mem x vs ≡ true
    → to (renames (v ∷ vs) away used) x ≡ to (renames vs away (next away used v ∷ used)) x
unfolding to renames
tail_at v vs away used x t = rw (olds_are vs away (next away used v ∷ used), t)

head_at : (v : Name) (vs away used : List Name) (x : Name) → mem x vs ≡ false → same x v ≡ true
    → to (renames (v ∷ vs) away used) x ≡ next away used v
unfolding to renames
head_at v vs away used x f s = rw (olds_are vs away (next away used v ∷ used), f, s)

news_used : (vs away used : List Name) (y : Name) → mem y (news (renames vs away used)) ≡ true → mem y used ≡ true
    → (mem y vs ≡ true) × (mem y away ≡ false)
unfolding mem news renames
news_used [] away used y m u = clash m refl
news_used (v ∷ vs) away used y m u =
    by_cases (same y (next away used v))
    (λ t. let w = same_eq y (next away used v) t in
    let (e, n) = next_used away used v (rw (← w) u) in
    (or_left (same y v) (mem y vs) (ap (λ z. same z v) (w ∙ e) ∙ same_refl v), ap (λ z. mem z away) (w ∙ e) ∙ n))
    (λ f. let (a, b) = news_used vs away (next away used v ∷ used) y (rw f at m) (or_right (same y (next away used v)) (mem y used) u) in
    (or_right (same y v) (mem y vs) a, b))

to_else : (vs away used : List Name) (x : Name) → mem x vs ≡ false → to (renames vs away used) x ≡ x
unfolding mem to renames
to_else [] away used x n = refl
to_else (v ∷ vs) away used x n =
    rw (olds_are vs away (next away used v ∷ used), or_false_right (same x v) (mem x vs) n, or_false_left (same x v) (mem x vs) n)

to_new : (vs away used : List Name) (x : Name) → mem x vs ≡ true → mem (to (renames vs away used) x) (news (renames vs away used)) ≡ true
unfolding mem news renames
to_new [] away used x m = clash m refl
to_new (v ∷ vs) away used x m =
    let w : Name = next away used v in
    let ps : Pairs = renames vs away (w ∷ used) in
    let z : Name = to (renames (v ∷ vs) away used) x in
    by_cases (mem x vs)
    (λ t. or_right (same z w) (mem z (news ps)) (ap (λ a. mem a (news ps)) (tail_at v vs away used x t) ∙ to_new vs away (w ∷ used) x t))
    (λ f. or_left (same z w) (mem z (news ps)) (ap (λ a. same a w) (head_at v vs away used x f (or_else (same x v) (mem x vs) m f)) ∙ same_refl w))

to_used : (vs away used : List Name) (x : Name) → mem x vs ≡ true → mem (to (renames vs away used) x) used ≡ true → to (renames vs away used) x ≡ x
unfolding mem renames
to_used [] away used x m u = clash m refl
to_used (v ∷ vs) away used x m u =
    let w : Name = next away used v in
    let ps : Pairs = renames vs away (w ∷ used) in
    by_cases (mem x vs)
    (λ t. rw (tail_at v vs away used x t) (to_used vs away (w ∷ used) x t
    (or_right (same (to ps x) w) (mem (to ps x) used) (rw (tail_at v vs away used x t) at u))))
    (λ f. let s = or_else (same x v) (mem x vs) m f in
    rw (head_at v vs away used x f s) ((next_used away used v (rw (head_at v vs away used x f s) at u)).0 ∙ sym (same_eq x v s)))

from_to : (vs away used : List Name) (x : Name) → In vs used → mem x vs ≡ true → from (renames vs away used) (to (renames vs away used) x) ≡ x
unfolding mem from renames
from_to [] away used x i m = clash m refl
from_to (v ∷ vs) away used x i m =
    let w : Name = next away used v in
    let ps : Pairs = renames vs away (w ∷ used) in
    by_cases (mem x vs)
    (λ t. rw (tail_at v vs away used x t) (by_cases (same (to ps x) w)
    (λ s.
    let y = to_used vs away (w ∷ used) x t (or_left (same (to ps x) w) (mem (to ps x) used) s) in
    let e = sym (same_eq (to ps x) w s) ∙ y in
    rw s (sym (next_used away used v (ap (λ z. mem z used) e ∙ i x (or_right (same x v) (mem x vs) t))).0 ∙ e))
    (λ f. rw f (from_to vs away (w ∷ used) x (in_tail w v vs used i) t))))
    (λ f. let s = or_else (same x v) (mem x vs) m f in
    rw (head_at v vs away used x f s, same_refl w) (sym (same_eq x v s)))

-- what becomes a used name stays as it is
pub to_clear : (vs away used : List Name) (x : Name) → mem (to (renames vs away used) x) used ≡ true → to (renames vs away used) x ≡ x
to_clear vs away used x u = by_cases (mem x vs) (λ t. to_used vs away used x t u) (λ f. to_else vs away used x f)

-- what is renamed away from is not among the new names
pub news_away : (vs away used : List Name) (y : Name) → In away used → mem y (news (renames vs away used)) ≡ true → mem y away ≡ false
news_away vs away used y i m =
    by_cases (mem y away) (λ t. (news_used vs away used y m (i y t)).1) (λ f. f)

module _ (D : Domain) where
  -- a block with its variables renamed says the same
  pub renames_same : (q : Quant) (vs away used l : List Name) (k : Assign D → Bool) (ρ : Assign D) → Reads D l k → In vs used → In l used
      → block D q (news (renames vs away used)) (λ σ. k (λ x. σ (to (renames vs away used) x))) ρ ≡ block D q vs k ρ
  renames_same q vs away used l k ρ reads i j =
      block_same D q ws vs (λ σ. k (λ x. σ (to ps x))) k ρ ρ
      (λ σ off. (
        mix D vs (λ x. σ (to ps x)) ρ,
        mix_off D vs (λ x. σ (to ps x)) ρ,
        reads (mix D vs (λ x. σ (to ps x)) ρ) (λ x. σ (to ps x)) (λ x m. by_cases (mem x vs) (λ t. rw t)
            (λ f. rw (f, to_else vs away used x f) (sym (off x (not_new x m f))))),
      ))
      (λ σ off. (
        mix D ws (λ y. σ (from ps y)) ρ,
        mix_off D ws (λ y. σ (from ps y)) ρ,
        reads (λ x. mix D ws (λ y. σ (from ps y)) ρ (to ps x)) σ (λ x m. by_cases (mem x vs)
            (λ t. rw (to_new vs away used x t, from_to vs away used x i t))
            (λ f. rw (to_else vs away used x f, not_new x m f) (sym (off x f)))),
      ))
    where
      ps : Pairs
      ps = renames vs away used

      ws : List Name
      ws = news ps

      not_new : (x : Name) → mem x l ≡ true → mem x vs ≡ false → mem x ws ≡ false
      not_new x m f = by_cases (mem x ws) (λ t. clash (news_used vs away used x t (j x m)).0 f) (λ n. n)
