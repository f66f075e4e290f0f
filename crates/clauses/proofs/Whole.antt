-- A whole table that holds a matrix: its plan, its atoms, and the set that is gathered from the two.
use mathlib.Core.Path.{◌≡◌, refl, sym, ap, ◌∙◌}
use mathlib.Core.Bool.{true, false, ◌||◌}
use mathlib.Core.List.{List, [], ◌++◌, map, append-nil}
use Prim.Native.Nat.{ℕ, ◌<◌, ◌≤◌, min, compare}
use native.Mathlib.Omega.{arith}
use lib.Dec.{ltb}
use lib.ListN.{length, length-take, take, drop, get_or, length-map}
use borrow.Author.Tests.{lt-ltb, le-ltb}
use Rattle.definitions.specs.Bytes.{Bytes}
use Rattle.definitions.specs.Syntax.{Quant, Formula, weight}
use Rattle.definitions.specs.Limits.{house}
use Rattle.definitions.specs.Prenex.{no_block}
use Rattle.definitions.specs.Order.{Atom, cmp_atom, cmp_literal, set_of}
use Rattle.definitions.specs.Clauses.{distribute, clauses, raw, atom_formula}
use Rattle.definitions.specs.Convert.{too_many}
use Rattle.definitions.proofs.Laws.Bools.{and_true_left, and_true_right, or_left, or_right}
use Rattle.definitions.proofs.Laws.Order.{atom_orders}
use Rattle.definitions.proofs.Laws.Sorted.{set_of_sorted, set_of_has}
use Rattle.definitions.proofs.Laws.Counts.{distribute_length, distribute_total}
use Rattle.definitions.specs.Laws.Shapes.{negated, ready}
use Rattle.text.specs.Words.{Token, tokens, token, kind_of_word, code, kind}
use Rattle.text.specs.Weights.{words_weight}
use Rattle.text.specs.Tables.{words_of}
use Rattle.clauses.specs.Each.{Each, none, All}
use Rattle.clauses.specs.Plans.{Plan, made, size, clauses_of, literals_of, head, words}
use Rattle.clauses.specs.Laying.{plan, laid}
use Rattle.clauses.specs.Ranks.{cmp_parts, lead, spots, rank, relabelled}
use Rattle.clauses.specs.Search.{Falls, at_place, Findable}
use Rattle.clauses.specs.Sets.{Numbered, Spelled, entries, sets_of}
use Rattle.clauses.specs.Steps.{total}
use Rattle.std.specs.Prelude.{Ok}
use Rattle.clauses.specs.declared.set.Set.{Set}
use Rattle.clauses.specs.Stage.{Outcome}
use Rattle.clauses.proofs.Tokens.{kinds_of}
use Rattle.clauses.proofs.Related.{each_map, each_compare, each_length, each_set, each_total}
use Rattle.clauses.proofs.Planned.{head_clauses, head_literals, words_split, plan_small, laid_plan}
use Rattle.clauses.proofs.Ranked.{atoms, spots_each, place_agrees, parts_agree, ranked, numbers_agree}
use Rattle.clauses.proofs.Searching.{sorted_falls}
use Rattle.clauses.proofs.Placed.{plan_placed}
use Rattle.clauses.proofs.Labelled.{label, words_label, plan_fits, made_numbered, plan_counts}

module _ (T M : Bytes) (S : List ℕ) (f : Formula) (len : length S ≤ 1024) (h : tokens T M S ≡ code f) (r : ready f ≡ true) (q : Quant) where
  is_negated : negated f ≡ true
  unfolding ready
  is_negated = and_true_left (negated f) (no_block f) r

  has_no_block : no_block f ≡ true
  unfolding ready
  has_no_block = and_true_right (negated f) (no_block f) r

  from_start : tokens T M S ≡ code f ++ []
  from_start = h ∙ sym (append-nil (code f))

  kinds_are : map kind_of_word S ≡ map kind (code f ++ [])
  kinds_are = kinds_of T M S ∙ ap (map kind) from_start

  small : weight f ≤ 1024
  small = omega (arith, sym (length-map S (token T M)) ∙ ap length h ∙ words_weight f)

  abbrev the_plan : Plan
  the_plan = plan q 0 f

  plan_size : size the_plan < 2048
  plan_size = omega (arith, plan_small q 0 f, small)

  module _ (W : List ℕ) (laid_out : W ≡ laid q 0 (map kind_of_word S)) where
    plan_at : W ≡ words the_plan
    unfolding laid
    plan_at = laid_out ∙ ap (laid q 0) kinds_are ∙ laid_plan q 0 (weight f) f [] is_negated has_no_block (omega arith) small ∙ append-nil (words the_plan)

    root_is : get_or W 0 0 ≡ head the_plan
    root_is = ap (λ (l : List ℕ). get_or l 0 0) (plan_at ∙ words_split the_plan)

    module _ (root : ℕ) (root-read : root ≡ get_or W 0 0) where
      clauses_counted : clauses_of root ≡ min (raw q f).clauses 2049
      clauses_counted = ap clauses_of (root-read ∙ root_is) ∙ head_clauses the_plan plan_size ∙ ap (λ c. min c.clauses 2049) (plan_counts q 0 f is_negated)

      literals_counted : literals_of root ≡ min (raw q f).literals 2049
      literals_counted = ap literals_of (root-read ∙ root_is) ∙ head_literals the_plan plan_size ∙ ap (λ c. min c.literals 2049) (plan_counts q 0 f is_negated)

      pub over_clauses : 256 < clauses_of root → too_many house (raw q f) ≡ true
      unfolding too_many
      over_clauses l =
          (or_left (ltb 256 (raw q f).clauses) (ltb 2048 (raw q f).literals) (lt-ltb 256 (raw q f).clauses (omega (arith, clauses_counted))))

      pub over_literals : 2048 < literals_of root → too_many house (raw q f) ≡ true
      unfolding too_many
      over_literals l =
          (or_right (ltb 256 (raw q f).clauses) (ltb 2048 (raw q f).literals) (lt-ltb 2048 (raw q f).literals (omega (arith, literals_counted))))

      -- the atoms, and the plan with their ranks
      module _ (few : clauses_of root ≤ 256) (short : literals_of root ≤ 2048) (A : List ℕ) (n : ℕ) (n_fits : n ≤ length S)
          (collected : (m : List Atom) → Each (Spelled T M S) (spots 0 (map kind_of_word S)) m
          → take n A ≡ set_of (cmp_parts T M S) (spots 0 (map kind_of_word S)))
          (W' : List ℕ) (labelled : All (Findable T M S (take n A)) W → W' ≡ map (relabelled (rank T M S (take n A))) W) where
        abbrev found : List Atom
        found = set_of cmp_atom (atoms f)

        abbrev places : List ℕ
        places = spots 0 (map kind (code f ++ []))

        abbrev ranks : ℕ → ℕ
        ranks = rank T M S (take n A)

        parts_are : Each (Spelled T M S) places (atoms f)
        unfolding spots lead
        parts_are =
            rw (append-nil (atoms f)) at (spots_each T M S 0 (weight f) f [] [] [] is_negated has_no_block (omega arith) small from_start refl none)

        atoms_are : Each (Spelled T M S) (take n A) found
        atoms_are = rw (collected (atoms f) (rw kinds_are parts_are), kinds_are) (each_set (parts_agree T M S) parts_are)

        number_of_atoms : length found ≤ 1024
        number_of_atoms = omega (arith, each_length atoms_are, length-take n A)

        numbered : Each (Each (Numbered found)) (made (label ranks the_plan)) (distribute q f)
        numbered =
            made_numbered T M S ranks found (λ i a x e m. ranked T M S i a x atoms_are e m)
            q 0 (weight f) f [] is_negated has_no_block (omega arith) small from_start (λ a m. set_of_has atom_orders a (atoms f) ∙ m)

        -- the atoms' table falls for the atom at each place
        atoms_fall : (i : ℕ) (a : Atom) (x : List Token) → tokens T M (drop i S) ≡ code (atom_formula a) ++ x
            → Falls (at_place T M S i) (take n A)
        atoms_fall i a x e =
            sorted_falls atom_orders (at_place T M S i) a (λ w b s. place_agrees T M S i w a b x e s)
            (set_of_sorted atom_orders (atoms f)) atoms_are

        all_findable : All (Findable T M S (take n A)) W
        all_findable =
            rw plan_at
            (plan_placed T M S (λ i. Falls (at_place T M S i) (take n A)) atoms_fall
            q 0 (weight f) f [] is_negated (omega arith) small from_start)

        pub labelled_plan : W' ≡ words (label ranks the_plan) ++ []
        labelled_plan =
            labelled all_findable ∙ ap (map (relabelled ranks)) plan_at
            ∙ sym (words_label ranks the_plan (plan_fits q 0 f (omega (arith, small))) plan_size)
            ∙ sym (append-nil (words (label ranks the_plan)))

        pub all_made : clauses_of root ≡ length (made (label ranks the_plan))
        all_made = omega (arith, clauses_counted, each_length numbered, distribute_length q f)

        pub all_fit : total (made (label ranks the_plan)) ≤ 2048
        all_fit = omega (arith, literals_counted, each_total numbered, distribute_total q f)

        sorted_sets : Each (Each (Numbered found)) (sets_of (made (label ranks the_plan))) (clauses q f)
        unfolding clauses
        sorted_sets =
            let agree = numbers_agree found (set_of_sorted atom_orders (atoms f)) number_of_atoms in
            each_set (λ x y c d a b. each_compare agree a b)
            (each_map (set_of compare) (set_of cmp_literal) (λ x a s. each_set agree s) numbered)

        pub set_given : (s : Set) → words_of s.atoms ≡ take n A
            → ((b : Plan) (rest : List ℕ) → W' ≡ words b ++ rest → clauses_of root ≡ length (made b) → total (made b) ≤ 2048
            → entries s ≡ sets_of (made b))
            → Outcome T M S q f s (Ok tt)
        unfolding too_many
        set_given s y gathered = (
          within,
          record {
            atoms = found;
            few = number_of_atoms;
            spelled = rw y atoms_are;
            listed = rw (gathered (label ranks the_plan) [] labelled_plan all_made all_fit) sorted_sets;
          },
        )
          where
            within : (ltb 256 (raw q f).clauses || ltb 2048 (raw q f).literals) ≡ false
            within = rw (le-ltb 256 (raw q f).clauses (omega (arith, clauses_counted)), le-ltb 2048 (raw q f).literals (omega (arith, literals_counted)))
