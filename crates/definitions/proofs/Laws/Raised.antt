-- Demand 3, last sentence: raised limits, or a longer out buffer, never turn a form that was given into anything else.
use Rattle.std.specs.Prelude.{◌≡◌, refl, Bool, true, false, ◌||◌, List, [], ◌∷◌, ◌++◌, ℕ, ◌≤◌, ltb, length, drop, take}
use Rattle.std.proofs.Common.{sym, ◌∙◌, arith, take_at}
use Rattle.std.proofs.Math.Path.{ap}
use Rattle.std.proofs.Math.Bool.{not}
use Rattle.std.proofs.Math.Dec.{leb}
use borrow.Author.Tests.{le-leb, leb-true, ltb-false, ltb-true}
use Rattle.definitions.specs.Bytes.{Bytes}
use Rattle.definitions.specs.Syntax.{Formula, Name, Quant, all, ex, weight}
use Rattle.definitions.specs.Limits.{Limits, Raised, published}
use Rattle.definitions.specs.Names.{bound, free, widest}
use Rattle.definitions.specs.Truth.{every}
use Rattle.definitions.specs.Simplify.{simplify}
use Rattle.definitions.specs.Negation.{nnf}
use Rattle.definitions.specs.Prenex.{formula, is_prenex_form, is_skolem, parted, pnf}
use Rattle.definitions.specs.Skolem.{hash_free, skolem_formula}
use Rattle.definitions.specs.Clauses.{Raw, clauses, listing, raw}
use Rattle.definitions.specs.Convert.{Conversion, Result, accepted, answer, as_clauses, convert, convert_reading, convert_tree, fitted, given, not_given, out_after, snf_of_prenex, pnf_to_snf, refused, refused_if, snf, snf_to_cnf, snf_to_dnf, stage, through_prenex, through_skolem, to_cnf, to_dnf, to_nnf, to_pnf, to_simplified, to_snf, too_large, too_long, too_many}
use Rattle.definitions.proofs.Laws.Bools.{and_true_left, and_true_right, by_cases, or_false_left, or_false_right}
use Rattle.definitions.proofs.Laws.Reading.{read_raised}
use Rattle.definitions.specs.Laws.Given.{Passed}
use Rattle.definitions.proofs.Laws.Given.{not_refused, stage_passed, was_read}
use Rattle.definitions.specs.Laws.Raised.{Accepted}

-- what does not pass a limit does not pass a larger one
not_above : (a a' x : ℕ) → a ≤ a' → ltb a x ≡ false → ltb a' x ≡ false
not_above a a' x h e = by_cases (ltb a' x) (λ t. absurd (omega (arith, ltb-true a' x t, ltb-false a x e))) (λ f. f)

neither : (a b a' b' : Bool) → (a ≡ false → a' ≡ false) → (b ≡ false → b' ≡ false) → (a || b) ≡ false → (a' || b') ≡ false
neither a b a' b' f g e = rw (f (or_false_left a b e)) (g (or_false_right a b e))

every_more : (p q : Name → Bool) (l : List Name) → ((x : Name) → p x ≡ true → q x ≡ true) → every p l ≡ true → every q l ≡ true
unfolding every
every_more p q [] h e = refl
every_more p q (x ∷ l) h e = rw (h x (and_true_left (p x) (every p l) e)) (every_more p q l h (and_true_right (p x) (every p l) e))

not_not_false : (b : Bool) → not b ≡ false → b ≡ true
not_not_false true e = refl
not_not_false false e = sym e

module _ (L L' : Limits) (up : Raised L L') where
  pub passed_raised : (f : Formula) → Passed L f → Passed L' f
  unfolding too_large too_long
  passed_raised f p = record {
    small = neither (ltb L.weight (weight f)) (ltb L.arguments (widest f)) (ltb L'.weight (weight f)) (ltb L'.arguments (widest f))
        (not_above L.weight L'.weight (weight f) up.weight) (not_above L.arguments L'.arguments (widest f) up.arguments) p.small;
    short = ap not (every_more (λ x. leb (length x) L.name) (λ x. leb (length x) L'.name) (bound f ++ free f)
        (λ x h. le-leb (length x) L'.name (omega (arith, up.name, leb-true (length x) L.name h))) (not_not_false _ p.short));
  }

  many_raised : (r : Raw) → too_many L r ≡ false → too_many L' r ≡ false
  unfolding too_many
  many_raised r = neither (ltb L.clauses r.clauses) (ltb L.literals r.literals) (ltb L'.clauses r.clauses) (ltb L'.literals r.literals)
      (not_above L.clauses L'.clauses r.clauses up.clauses) (not_above L.literals L'.literals r.literals up.literals)

  stage_raised : (k : ℕ) (f : Formula) (r r' : Result) (s : Bytes) → (r ≡ given s → r' ≡ given s) → stage L k f r ≡ given s → stage L' k f r' ≡ given s
  stage_raised k f r r' s h e =
      let (p, g) = stage_passed L k f r s e in
      let p' = passed_raised f p in rw (p'.small, p'.short) (h g)

  refused_raised : (b : Bool) (n p : ℕ) (r r' : Result) (s : Bytes) → (r ≡ given s → r' ≡ given s) → refused_if b n p r ≡ given s → refused_if b n p r' ≡ given s
  refused_raised b n p r r' s h e = let (f, g) = not_refused b n p r s e in rw f (h g)

  clauses_raised : (q : Quant) (m : Formula) (s : Bytes) → as_clauses L q m ≡ given s → as_clauses L' q m ≡ given s
  unfolding as_clauses
  clauses_raised q m s = stage_raised 4 (nnf m) _ _ s (λ e.
      let (f, g) = not_refused (too_many L (raw q (nnf m))) 8 5 (given (listing (clauses q (nnf m)))) s e in rw (many_raised (raw q (nnf m)) f) g)

  prenex_raised : (f : Formula) (r r' : Result) (s : Bytes) → (r ≡ given s → r' ≡ given s) → through_prenex L f r ≡ given s → through_prenex L' f r' ≡ given s
  prenex_raised f r r' s h = stage_raised 1 (simplify f) _ _ s (stage_raised 2 (formula (pnf f)) r r' s h)

  skolem_raised : (f : Formula) (r r' : Result) (s : Bytes) → (r ≡ given s → r' ≡ given s) → through_skolem L f r ≡ given s → through_skolem L' f r' ≡ given s
  skolem_raised f r r' s h = refused_raised (not (hash_free f)) 5 0 _ _ s (prenex_raised f _ _ s (stage_raised 3 (skolem_formula (snf f)) r r' s h))

  tree_raised : (c : Conversion) (f : Formula) (s : Bytes) → convert_tree L c f ≡ given s → convert_tree L' c f ≡ given s
  unfolding convert_tree
  tree_raised to_simplified f s = stage_raised 1 (simplify f) _ _ s (λ e. e)
  tree_raised to_nnf f s = stage_raised 4 (nnf f) _ _ s (λ e. e)
  tree_raised to_pnf f s = prenex_raised f _ _ s (λ e. e)
  tree_raised to_snf f s = skolem_raised f _ _ s (λ e. e)
  tree_raised to_cnf f s = skolem_raised f _ _ s (clauses_raised all (snf f).matrix s)
  tree_raised to_dnf f s = skolem_raised f _ _ s (clauses_raised ex (snf f).matrix s)
  tree_raised pnf_to_snf f s = refused_raised (not (is_prenex_form f)) 4 0 _ _ s (refused_raised (not (hash_free f)) 5 0 _ _ s
      (stage_raised 3 (skolem_formula (snf_of_prenex f)) _ _ s (λ e. e)))
  tree_raised snf_to_cnf f s = refused_raised (not (is_skolem f)) 4 0 _ _ s (clauses_raised all (parted f).matrix s)
  tree_raised snf_to_dnf f s = refused_raised (not (is_skolem f)) 4 0 _ _ s (clauses_raised ex (parted f).matrix s)

  pub convert_raised : (c : Conversion) (text s : Bytes) → convert L c text ≡ given s → convert L' c text ≡ given s
  unfolding convert
  convert_raised c text s e =
      let (f, r, t) = was_read L c text s e in
      ap (convert_reading L' c) (read_raised L L' up text f r) ∙ tree_raised c f s t

pub accepted_given : (L : Limits) (c : Conversion) (text : Bytes) (room work n : ℕ) → answer L c text room work ≡ accepted n → Accepted L c text room n
unfolding answer
accepted_given L c text room work n e =
    by_cases (ltb work (published L)) (λ t. absurd (never (rw t at e))) (λ f. go (convert L c text) refl (rw f at e))
  where
    never : {k p : ℕ} → not_given k p ≡ accepted n → ⊥
    never d = let z : ◌≡◌ {A = ℕ} 0 1 = cc in omega arith

    same_length : {k : ℕ} → accepted k ≡ accepted n → k ≡ n
    same_length d = cc

    go : (r : Result) → convert L c text ≡ r → fitted r room ≡ accepted n → Accepted L c text room n
    go (given s) h d = by_cases (leb (length s) room)
        (λ t. let k = same_length (rw t at d) in record { bytes = s; was_given = h; size = k; fits = omega (arith, leb-true (length s) room t) })
        (λ f. absurd (never (rw f at d)))
    go (refused k p) h d = absurd (never d)

not_less : {k m : ℕ} → k ≤ m → ltb m k ≡ false
not_less {k} {m} h = by_cases (ltb m k) (λ t. absurd (omega (arith, ltb-true m k t))) (λ f. f)

-- With work at the published size, an accepted call is accepted again by raised limits and a longer out buffer, with the same length, and
-- both outs begin with the same text.
pub answer_raised : (L L' : Limits) → Raised L L' → (c : Conversion) (text : Bytes) (room room' work work' n : ℕ) → room ≤ room' → published L' ≤ work'
    → answer L c text room work ≡ accepted n → answer L' c text room' work' ≡ accepted n
unfolding answer
answer_raised L L' up c text room room' work work' n wider enough e =
    let a = accepted_given L c text room work n e in
    rw (not_less enough, convert_raised L L' up c text a.bytes a.was_given, a.size, le-leb n room' (omega (arith, a.fits)))

-- out begins with the text of the form that was given
begins_with : (L : Limits) (c : Conversion) (text s out : Bytes) (work n : ℕ) → convert L c text ≡ given s → length s ≡ n → n ≤ length out → published L ≤ work
    → take n (out_after L c text out work) ≡ s
unfolding out_after
begins_with L c text s out work n g size fits enough =
    rw (not_less enough, g, size, le-leb n (length out) fits) (take_at s (drop n out) n size)

pub out_raised : (L L' : Limits) → Raised L L' → (c : Conversion) (text out out' : Bytes) (work work' n : ℕ) → length out ≤ length out' → published L ≤ work
    → published L' ≤ work' → answer L c text (length out) work ≡ accepted n → take n (out_after L' c text out' work') ≡ take n (out_after L c text out work)
out_raised L L' up c text out out' work work' n wider enough enough' e =
    let a = accepted_given L c text (length out) work n e in
    begins_with L' c text a.bytes out' work' n (convert_raised L L' up c text a.bytes a.was_given) a.size (omega (arith, a.fits)) enough'
    ∙ sym (begins_with L c text a.bytes out work n a.was_given a.size a.fits enough)
