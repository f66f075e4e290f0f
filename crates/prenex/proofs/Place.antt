-- One variable of a prefix, at its place: not free in the other side, or free with a new name, or free with one that is too long.
use mathlib.Core.Path.{◌≡◌, refl, sym, ap, ap₂, ◌∙◌}
use mathlib.Core.Bool.{Bool, true, false, cond}
use mathlib.Core.List.{List, [], ◌∷◌, map}
use Prim.Native.Nat.{ℕ, suc, ◌+◌, ◌*◌, ◌-◌, ◌≤◌, ◌<◌}
use native.Mathlib.Omega.{arith}
use native.Mathlib.Numerals.{add-one}
use borrow.Author.Tests.{eqb-true, eqb-false}
use lib.Dec.{eqb}
use lib.ListN.{length, take, drop, get_or, set, length-set, length-map}
use lib.Seq.{slice, slice-cons, length-slice, set-get_or, get_or-set_same, get_or-set_other}
use Rattle.definitions.specs.Bytes.{Bytes, same}
use Rattle.definitions.specs.Syntax.{Name}
use Rattle.definitions.specs.Names.{mem}
use Rattle.definitions.specs.Prenex.{fresh}
use Rattle.definitions.proofs.Laws.Bools.{by_cases}
use Rattle.definitions.proofs.Laws.Sets.{same_eq}
use Rattle.text.specs.Words.{Token, var_token, sign, kind_of_word, size_of, start_of, spell, token, tokens}
use Rattle.text.specs.WordLaws.{variable_word}
use Rattle.text.specs.Prefixes.{names}
use Rattle.prenex.specs.Walk.{put, is_free, reach, new_name}
use Rattle.prenex.specs.Tables.{Slot, Slots, Known, AllKnown, Ready}
use Rattle.prenex.specs.Renaming.{splice, all_names, Named, Bounds, Spot, RenamesAt}
use Rattle.text.specs.PrefixLaws.{names_append}
use Rattle.prenex.proofs.Splices.{slice_append, three_parts, splice_length}
use Rattle.std.specs.Prelude.{Ok}
use borrow.Rule.Slice.PartMut.{put_mid}
use Rattle.prenex.proofs.Words.{tokens_at, tokens_set, tokens_run, seen}
use Rattle.prenex.proofs.Putting.{set_known, part_tokens}
use Rattle.prenex.proofs.Growing.{slot_kind, slot_length, slot_start}

put_same : (x : Name) (m : List Token) → map (put x x) m ≡ m
unfolding put
put_same x [] = refl
put_same x (var_token y ∷ m) =
    by_cases (same x y) (λ t. rw t (ap₂ (λ (z : Name) (l : List Token). var_token z ∷ l) (same_eq x y t) (put_same x m))) (λ f. rw f (ap (var_token y ∷◌) (put_same x m)))
put_same x (sign k n s ∷ m) = ap (sign k n s ∷◌) (put_same x m)

pub put_length : (x w : Name) (m : List Token) (c : Bool) → length (cond c m (map (put x w) m)) ≡ length m
put_length x w m true = refl
put_length x w m false = length-map m (put x w)

-- a variable put into its slot's place
slots_set : (M : Bytes) (n at r : ℕ) (P : List ℕ) → at < length P → Slot M at r → Slots M n P → Slots M n (set P at r)
slots_set M n at r P h s a i l k =
    by_cases (eqb i at)
    (λ t. let e = eqb-true i at t in
    rw (e, get_or-set_same P at r 0 h) s)
    (λ f. let e : get_or (set P at r) i 0 ≡ get_or P i 0 = get_or-set_other P at i r 0 (eqb-false i at f) in
    rw e (a i l (rw e at k)))

module _ (T : Bytes) {M : Bytes} {P W : List ℕ} {low at last high from to other end : ℕ} (spot : Spot M P W low at last high from to other end) where
  abbrev b : Bounds M P W last high from to other end
  b = spot.bounds

  abbrev ready : Ready M P high W
  ready = spot.bounds.ready

  abbrev x : Name
  x = spell T M (get_or P at 0)

  abbrev P̂ : List Token
  P̂ = tokens T M P

  abbrev Ŵ : List Token
  Ŵ = tokens T M W

  abbrev rest : List Token
  rest = slice (at + 1) last P̂

  abbrev m : List Token
  m = slice from to Ŵ

  abbrev Q : List Token
  Q = slice last high P̂

  abbrev N : List Token
  N = slice other end Ŵ

  abbrev S : List Name
  S = names (slice low at P̂)

  abbrev U : List Name
  U = all_names (slice low high P̂) m N

  sized : length P̂ ≡ 1024
  sized = simp length-map ready.places.size

  -- the run of the prefix that the block sees, cut at the variable
  reached : U ≡ reach Q N S x rest m
  unfolding names
  reached =
      rw (
        slice_append low at high P̂ spot.block (omega (arith, b.mine, spot.before)) (omega (arith, sized, b.prefix)),
        names_append,
        slice-cons at high P̂ (token T M 0) (omega (arith, b.mine, spot.before)) (omega (arith, sized, b.prefix)),
        tokens_at T M P at,
        variable_word T M (get_or P at 0) spot.var,
        add-one at,
        slice_append (suc at) last high P̂ spot.before b.mine (omega (arith, sized, b.prefix)),
        names_append,
      )

  pub not_there : {r : Bool} → r ≡ mem x (names N) → r ≡ false → is_free Q N x ≡ false
  not_there e f = rw (sym e ∙ f)

  pub bound_there : {r s : Bool} → r ≡ mem x (names N) → r ≡ true → s ≡ mem x (names Q) → s ≡ true → is_free Q N x ≡ false
  bound_there e t f u = rw (sym e ∙ t, sym f ∙ u)

  pub free_there : {r s : Bool} → r ≡ mem x (names N) → r ≡ true → s ≡ mem x (names Q) → s ≡ false → is_free Q N x ≡ true
  free_there e t f u = rw (sym e ∙ t, sym f ∙ u)

  -- what is asked of the slices, and of the slot
  pub asked_matrix : {r : Bool} → r ≡ mem x (names (tokens T M (take (end - other) (drop other W)))) → r ≡ mem x (names N)
  asked_matrix e = seen T M (get_or P at 0) W other end e

  pub asked_prefix : {r : Bool} → r ≡ mem x (names (tokens T M (take (high - last) (drop last P)))) → r ≡ mem x (names Q)
  asked_prefix e = seen T M (get_or P at 0) P last high e

  -- its new name, and what it comes to in the matrix
  pub named_there : {r : ℕ} → Named T M at (fresh (all_names (tokens T M (take (high - low) (drop low P))) (tokens T M (take (to - from) (drop from W))) (tokens T M (take (end - other) (drop other W)))) x) r
      → Named T M at (fresh U x) r
  named_there n = rw (tokens_run T M P low high, tokens_run T M W from to, tokens_run T M W other end) at n

  pub rebound : (Y : List ℕ) (w : Name)
      → tokens T M Y ≡ cond (mem x (names (tokens T M (take (last - (at + 1)) (drop (at + 1) P))))) (tokens T M (take (to - from) (drop from W))) (map (put x w) (tokens T M (take (to - from) (drop from W))))
      → tokens T M (put_mid from (to - from) W Y) ≡ splice from to Ŵ (cond (mem x (names rest)) m (map (put x w) m))
  rebound Y w e = part_tokens T M W Y from to b.run ∙ ap (splice from to Ŵ) (rw (tokens_run T M P (at + 1) last, tokens_run T M W from to) at e)

  pub at_slot : Slot M at (get_or P at 0)
  at_slot = ready.places.slots at (omega (arith, b.mine, spot.before)) spot.var

  -- it is not free in the other side
  pub stays : is_free Q N x ≡ false → RenamesAt T M P high W low at last high from to other end P W x (Ok tt)
  stays f = record {
    ready = ready;
    here = rw f (sym (set-get_or P̂ at (token T M 0)) ∙ ap (set P̂ at) (tokens_at T M P at ∙ variable_word T M (get_or P at 0) spot.var));
    there = rw f (sym (three_parts from to Ŵ b.run) ∙ ap (splice from to Ŵ) as_before);
  }
    where
      as_before : m ≡ cond (mem x (names rest)) m (map (put x x) m)
      as_before = by_cases (mem x (names rest)) (λ t. rw t) (λ n. rw n (sym (put_same x m)))

  module _ {r : ℕ} (t : is_free Q N x ≡ true) (n : Named T M at (fresh U x) r) where
    below : at < 1024
    below = omega (arith, b.mine, b.prefix, spot.before)

    named : new_name Q N S x rest m ≡ fresh U x
    named = rw (t, ← reached)

    size : size_of r ≡ n.size
    size = ap size_of n.word ∙ slot_length at n.size below n.most

    -- it is, and its new name is too long
    pub fails : 24 < size_of r → 24 < length (new_name Q N S x rest m)
    fails l = rw named (n.long (omega (arith, size)))

    pub new_kind : kind_of_word r ≡ 12
    new_kind = ap kind_of_word n.word ∙ slot_kind at n.size below n.most

    -- it is, and has a new name
    pub takes : size_of r ≤ 24 → {W' : List ℕ}
        → tokens T M W' ≡ splice from to Ŵ (cond (mem x (names rest)) m (map (put x (spell T M r)) m))
        → ((k : ℕ) → Known k r → AllKnown k W → AllKnown k W')
        → RenamesAt T M P high W low at last high from to other end (set P at r) W' x (Ok tt)
    takes l {W'} e k = record {
      ready = record {
        places = record {
          room = ready.places.room;
          size = simp length-set ready.places.size;
          used = ready.places.used;
          slots = slots_set M high at r P (omega (arith, ready.places.size, below)) (n.slot (omega (arith, size))) ready.places.slots;
          known = set_known (25 * high) at r P known ready.places.known;
        };
        matrix_size = sym (length-map W' (token T M)) ∙ ap length e ∙ splice_length from to Ŵ (cond (mem x (names rest)) m (map (put x (spell T M r)) m)) b.run (omega (arith, long, b.matrix)) fitted ∙ long;
        matrix_known = k (25 * high) known ready.matrix_known;
      };
      here = tokens_set T M P at r ∙ ap (set P̂ at) (variable_word T M r new_kind ∙ ap var_token name);
      there = e ∙ ap (λ (y : Name). splice from to Ŵ (cond (mem x (names rest)) m (map (put x y) m))) name;
    }
      where
        long : length Ŵ ≡ 1024
        long = simp length-map ready.matrix_size

        fitted : length (cond (mem x (names rest)) m (map (put x (spell T M r)) m)) ≡ to - from
        fitted = put_length x (spell T M r) m (mem x (names rest)) ∙ length-slice from to Ŵ (omega (arith, long, b.matrix))

        known : Known (25 * high) r
        known z = omega (arith, size, ap start_of n.word ∙ slot_start at n.size below n.most, b.mine, spot.before)

        name : spell T M r ≡ new_name Q N S x rest m
        name = n.name (omega (arith, size)) ∙ sym named
