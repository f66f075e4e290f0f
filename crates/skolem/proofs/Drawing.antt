-- The heads of a prefix draw their names one behind another.
use mathlib.Core.Path.{◌≡◌, sym, ap, ap₂, ◌∙◌}
use mathlib.Core.List.{List, [], ◌∷◌, ◌++◌, map, map-append, append_assoc, append-nil}
use Prim.Native.Nat.{ℕ, suc, ◌+◌, ◌*◌, ◌≤◌, ◌<◌}
use native.Mathlib.Numerals.{add-one}
use native.Mathlib.Omega.{arith}
use lib.Dec.{eqb}
use lib.ListN.{length, take, drop, set, get_or, drop_of_length-le}
use lib.Seq.{take-take, take_all, take-suc-set, drop-set-lt, drop-cons}
use Rattle.definitions.specs.Bytes.{Bytes}
use Rattle.definitions.specs.Skolem.{Counts}
use Rattle.definitions.proofs.Laws.Bools.{by_cases}
use Rattle.text.specs.Words.{Token, var_token, sign, token, tokens}
use Rattle.skolem.specs.declared.counters.Counters.{Counters}
use Rattle.skolem.specs.declared.heads.Entitled.{Entitled}
use Rattle.skolem.specs.Counting.{counts_of}
use Rattle.skolem.specs.Pass.{entitled, moved, named, drawn_after}
use Rattle.skolem.specs.declared.Unmade.{Unmade}
use Rattle.skolem.specs.Naming.{longest, Grown, Lacks, IsEntitled, AreNamed}
use Rattle.skolem.proofs.NamingLaws.{grown_both}

-- a count rises by one at most
constant_low : (k : Counts) (t : Token) → (moved k t).constant ≤ k.constant + 1
constant_low k (var_token x) = omega arith
constant_low k (sign j n s) = by_cases (eqb j 13) (λ t. rw t (omega arith)) (λ f. rw f (omega arith))

function_low : (k : Counts) (t : Token) → (moved k t).function ≤ k.function + 1
function_low k (var_token x) = omega arith
function_low k (sign j n s) =
    by_cases (eqb j 13) (λ t. rw t (omega arith)) (λ f. rw f (by_cases (eqb j 11) (λ t. rw t (omega arith)) (λ g. rw g (omega arith))))

-- The heads named as far as i.
pub record Naming (H : List ℕ) (M : Bytes) (at : ℕ) (k : Counters) (H' : List ℕ) (M' : Bytes) (at' : ℕ) (k' : Counters) (i : ℕ) : Type 0 where
  pub grown : Grown M at M' at'
  pub short : at' ≤ at + longest * i
  pub rest : drop i H' ≡ drop i H
  pub heads : (T M'' : Bytes) → take at' M'' ≡ take at' M' → tokens T M'' (take i H') ++ named (counts_of k') (tokens T M'' (drop i H)) ≡ named (counts_of k) (tokens T M'' H)
  pub counts : (T M : Bytes) → drawn_after (counts_of k') (tokens T M (drop i H)) ≡ drawn_after (counts_of k) (tokens T M H)
  pub constants : k'.constants ≤ k.constants + i
  pub functions : k'.functions ≤ k.functions + i

module _ {H : List ℕ} {M : Bytes} {at : ℕ} {k : Counters} {H' : List ℕ} {M' : Bytes} {at' : ℕ} {k' : Counters} {i : ℕ} (size : length H' ≡ length H) (g : Naming H M at k H' M' at' k' i) where
  module _ (here : i < length H) {M₁ : Bytes} where
    pub naming_stop : {u : Unmade} → Lacks M' at' 1 k' M₁ u → Lacks M at (length H) k M₁ u
    naming_stop l = record {
      grown = grown_both g.grown l.grown;
      short = omega (arith, g.short, l.short);
      fate = l.fate;
      lack = λ h. l.lack (record {
        bytes = omega (arith, h.bytes, g.short, g.grown.size);
        near = omega (arith, h.near, g.short);
        constants = omega (arith, h.constants, g.constants);
        functions = omega (arith, h.functions, g.functions);
      });
    }

    module _ {r : Entitled} (e : IsEntitled M' at' (get_or H' i 0) k' M₁ r) where
      still : get_or H' i 0 ∷ drop (suc i) H' ≡ get_or H i 0 ∷ drop (suc i) H
      still = sym (drop-cons H' i 0 (omega (arith, size))) ∙ g.rest ∙ drop-cons H i 0 here

      same_word : get_or H' i 0 ≡ get_or H i 0
      same_word = cc still

      pub naming_on : Naming H M at k (set H' i r.word) M₁ r.at r.counters (i + 1)
      unfolding named drawn_after
      naming_on = record {
        grown = grown_both g.grown e.grown;
        short = omega (arith, g.short, e.short);
        rest = drop-set-lt (i + 1) H' i r.word (omega arith) ∙ rw (add-one i) (tail_same still);
        heads = λ T M'' t. let d = token T M'' in
            let old : take at' M'' ≡ take at' M' = sym (take-take at' r.at M'' e.grown.on) ∙ ap (take at') t ∙ take-take at' r.at M₁ e.grown.on ∙ e.grown.front in
            let first : d r.word ≡ entitled (counts_of k') (d (get_or H i 0)) = e.head T M'' t ∙ ap (λ (w : ℕ). entitled (counts_of k') (d w)) same_word in
            let then : counts_of r.counters ≡ moved (counts_of k') (d (get_or H i 0)) = e.counters T M'' ∙ ap (λ (w : ℕ). moved (counts_of k') (d w)) same_word in
            ap₂ (λ (a : List Token) (b : List Token). a ++ b)
            (ap (λ (n : ℕ). map d (take n (set H' i r.word))) (add-one i) ∙ ap (map d) (take-suc-set H' i r.word (omega (arith, size))) ∙ map-append d (take i H') (r.word ∷ []))
            (ap₂ (λ (z : Counts) (n : ℕ). named z (map d (drop n H))) then (add-one i))
            ∙ append_assoc (map d (take i H')) (d r.word ∷ []) (named (moved (counts_of k') (d (get_or H i 0))) (map d (drop (suc i) H)))
            ∙ ap (λ (z : Token). map d (take i H') ++ (z ∷ named (moved (counts_of k') (d (get_or H i 0))) (map d (drop (suc i) H)))) first
            ∙ ap (λ (z : List ℕ). map d (take i H') ++ named (counts_of k') (map d z)) (sym (drop-cons H i 0 here))
            ∙ g.heads T M'' old;
        counts = λ T M. let d = token T M in
            let then : counts_of r.counters ≡ moved (counts_of k') (d (get_or H i 0)) = e.counters T M ∙ ap (λ (w : ℕ). moved (counts_of k') (d w)) same_word in
            ap₂ (λ (z : Counts) (n : ℕ). drawn_after z (map d (drop n H))) then (add-one i)
            ∙ ap (λ (z : List ℕ). drawn_after (counts_of k') (map d z)) (sym (drop-cons H i 0 here))
            ∙ g.counts T M;
        constants = omega (arith, g.constants, ap (λ (z : Counts). z.constant) (e.counters [] []), constant_low (counts_of k') (token [] [] (get_or H' i 0)));
        functions = omega (arith, g.functions, ap (λ (z : Counts). z.function) (e.counters [] []), function_low (counts_of k') (token [] [] (get_or H' i 0)));
      }
        where
          tail_same : get_or H' i 0 ∷ drop (suc i) H' ≡ get_or H i 0 ∷ drop (suc i) H → drop (suc i) H' ≡ drop (suc i) H
          tail_same q = cc q

  pub naming_end : i ≡ length H → AreNamed H M at k H' M' at' k'
  unfolding named drawn_after
  naming_end e =
      let none : drop i H ≡ [] = drop_of_length-le H (omega arith) in
      let whole : take i H' ≡ H' = take_all i H' (omega (arith, size)) in record {
        grown = g.grown;
        short = omega (arith, g.short);
        heads = λ T M'' t. sym (append-nil (tokens T M'' H'))
            ∙ ap₂ (λ (a : List ℕ) (z : List ℕ). tokens T M'' a ++ named (counts_of k') (tokens T M'' z)) (sym whole) (sym none) ∙ g.heads T M'' t;
        counters = λ T M. ap (λ (z : List ℕ). drawn_after (counts_of k') (tokens T M z)) (sym none) ∙ g.counts T M;
      }
