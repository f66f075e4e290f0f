-- The pass over the tokens of a prenex form gives its Skolem form; the weight and the width of that form, read off its tokens.
use mathlib.Core.Path.{◌≡◌, refl, sym, ap, ◌∙◌}
use mathlib.Core.Bool.{Bool, true, false, not, ◌||◌}
use mathlib.Core.List.{List, [], ◌++◌}
use Prim.Native.Nat.{◌+◌}
use native.Mathlib.Omega.{arith}
use lib.ListN.{length, length-append, length-map}
use Rattle.definitions.specs.Syntax.{Formula, weight}
use Rattle.definitions.specs.Names.{mem, without, free, widest}
use Rattle.definitions.specs.Prenex.{Prefix, plain, more, Prenex, close, formula, no_block}
use Rattle.definitions.specs.Skolem.{Counts, binders, skolemise}
use Rattle.definitions.proofs.Laws.Sets.{mem_append}
use Rattle.text.specs.Words.{Token, code}
use Rattle.text.specs.Weights.{words_weight}
use Rattle.text.specs.Prefixes.{prefix_code}
use Rattle.skolem.specs.Pass.{Survey, gather, survey, blank_token, named, drawn_after, stays, keep, filled, reach}
use Rattle.skolem.proofs.Lists.{filter_same, without_twice}
use Rattle.skolem.proofs.OnePass.{matrix_once, counts_once, foralls_once}
use Rattle.skolem.proofs.Gathered.{gather_free, free_close}
use Rattle.skolem.proofs.Blocks.{prefix_surveyed, foralls_kept}
use Rattle.skolem.proofs.Found.{Stands, filled_stands, reach_widest}

-- the survey of a prenex form's prefix behind its free variables
abbrev pub surveyed : Prenex → Survey Token
surveyed p = survey (λ t. t) blank_token 0 false (gather (λ t. t) (binders p.prefix) [] (code p.matrix)) (prefix_code p.prefix)

abbrev pub all_heads : Prenex → Counts → List Token
all_heads p k = named k (surveyed p).heads

pub record Passes (p : Prenex) (k : Counts) : Type 0 where
  pub blocks : keep stays (all_heads p k) ≡ prefix_code (skolemise p k).prefix
  pub counts : drawn_after k (surveyed p).heads ≡ (skolemise p k).after
  pub matrix : Stands (filled (λ t. t) (surveyed p).scope (prefix_code p.prefix) (all_heads p k) (code p.matrix)) (code (skolemise p k).matrix)

none_bound : (p : Prefix) (m : Formula) → without (binders p) (free (close p m)) ≡ free (close p m)
none_bound p m =
    rw (free_close p m) (without_twice (binders p) (binders p) (free m)
    ∙ filter_same (λ x. not (mem x (binders p ++ binders p))) (λ x. not (mem x (binders p))) (λ x. rw (mem_append x (binders p) (binders p)) (twice (mem x (binders p)))) (free m))
  where
    twice : (b : Bool) → not (b || b) ≡ not b
    twice true = refl
    twice false = refl

pub passes : (p : Prenex) (k : Counts) → no_block p.matrix ≡ true → Passes p k
unfolding skolemise
passes p k n =
    let g = free (formula p) in
    let e = none_bound p.prefix p.matrix in
    let s = prefix_surveyed p.prefix g k in
    let f = gather_free p.prefix p.matrix n in record {
      blocks = rw f (ap (keep stays) s.named_heads ∙ foralls_kept p.prefix g k ∙ ap prefix_code (sym (foralls_once p.prefix p.matrix g k)));
      counts = rw f (s.drawn ∙ sym (counts_once p.prefix p.matrix g k ∙ rw e));
      matrix = rw (f, s.named_heads, s.whole_scope, matrix_once p.prefix p.matrix g k n, e) (filled_stands p.prefix g k (code p.matrix));
    }

pub close_weight : (p : Prefix) (m : Formula) → weight (close p m) ≡ length (prefix_code p) + length (code m)
unfolding weight close prefix_code
close_weight plain m = omega (arith, words_weight m)
close_weight (more q vs p) m = simp (length-append, length-map) (omega (arith, close_weight p m))

pub close_widest : (p : Prefix) (m : Formula) → widest (close p m) ≡ reach (code m)
unfolding widest close
close_widest plain m = sym (reach_widest m)
close_widest (more q vs p) m = close_widest p m
