-- The stage as a whole: the weight first, and then the walk over the rule's own words, with its names.
use mathlib.Core.Path.{◌≡◌, refl, sym, ap, ap₂, ◌∙◌}
use mathlib.Core.Bool.{false}
use mathlib.Core.List.{List, [], ◌∷◌, ◌++◌}
use Prim.Native.Nat.{ℕ, zero, suc, ◌*◌, ◌≤◌, ◌<◌, max}
use native.Mathlib.Omega.{arith}
use lib.ListN.{length, take, get_or}
use lib.Seq.{take-append_seam}
use Rattle.std.specs.Prelude.{None, Some, Ok, Err}
use Rattle.text.specs.Prefixes.{names}
use Rattle.definitions.specs.Bytes.{Bytes}
use Rattle.definitions.specs.Syntax.{Formula, weight}
use Rattle.definitions.specs.Prenex.{longest, formula, outward}
use Rattle.definitions.proofs.Laws.Prenex.{outward_no_block}
use Rattle.text.specs.declared.table.Table.{Table}
use Rattle.text.specs.Words.{Token, token, tokens, code, is_made}
use Rattle.text.specs.Weights.{words_weight}
use Rattle.text.specs.WordLaws.{map_take}
use Rattle.prenex.specs.Walk.{coded}
use Rattle.prenex.specs.Weights.{clamped, Weighs}
use Rattle.prenex.specs.Writing.{Plain, Reads, widest_name, Stops}
use Rattle.prenex.specs.Outward.{Runs}
use Rattle.prenex.specs.Stage.{fate_of, Fails, Prenexes}
use Rattle.prenex.specs.declared.weight.Weighed.{Weighed}
use Rattle.prenex.specs.declared.write.Stop.{Stop}
use Rattle.prenex.specs.declared.write.Stop.TheVariants as Ends
use Rattle.prenex.specs.declared.Fate.TheVariants.{Heavy, Unfit, Long}
use Rattle.prenex.proofs.Words.{tokens_kept}
use Rattle.prenex.proofs.Lengths.{whole_read, empty}
use Rattle.prenex.proofs.Sizes.{coded_size, held_prefix, form_weight, form_long, form_short}

-- the first n words of S point into the rule text
abbrev PlainTo : ℕ → List ℕ → Type 0
PlainTo n S = (i : ℕ) → i < n → is_made (get_or S i 0) ≡ false

-- then the words cut there all do
cut_plain : (n : ℕ) (S : List ℕ) → PlainTo n S → Plain (take n S)
cut_plain zero S h i = refl
cut_plain (suc n) [] h i = refl
cut_plain (suc n) (w ∷ S) h zero = h zero (omega arith)
cut_plain (suc n) (w ∷ S) h (suc i) = cut_plain n S (λ j l. h (suc j) (omega (arith, l))) i

-- a formula's own words, cut from what stands behind them
cut_words : (T N : Bytes) (S : List ℕ) (f : Formula) (rest : List Token) → tokens T N S ≡ code f ++ rest → tokens T N (take (weight f) S) ≡ code f
cut_words T N S f rest h =
    map_take (token T N) (weight f) S ∙ ap (take (weight f)) h ∙ ap (λ (n : ℕ). take n (code f ++ rest)) (sym (words_weight f)) ∙ take-append_seam (code f) rest

-- the words hold no rule
pub no_rule : (T M : Bytes) (S : List ℕ) → Weighs S 0 None → Prenexes T M S M (Err (record { made = 0; fate = Unfit }))
no_rule T M S w = record {
  size = refl;
  count = omega arith;
  behind = refl;
  room = tt;
  unfit = λ z. refl;
  form = λ z y N f rest h p. w.told T N f rest h;
}

module _ (T : Bytes) (S : List ℕ) {e : Weighed} (w : Weighs S 0 (Some e)) where
  -- what was weighed is what the form weighs
  weighed : (N : Bytes) (f : Formula) (rest : List Token) → tokens T N S ≡ code f ++ rest → e.weight ≡ clamped (weight (formula (outward f)))
  weighed N f rest h = (w.told T N f rest h).1 ∙ ap clamped (sym (form_weight f))

  -- the rule's own words
  abbrev own : List ℕ
  own = take e.next S

  own_many : (N : Bytes) (f : Formula) (rest : List Token) → tokens T N S ≡ code f ++ rest → e.next ≡ weight f
  own_many N f rest h = omega (arith, (w.told T N f rest h).0)

  own_plain : (N : Bytes) (f : Formula) (rest : List Token) → tokens T N S ≡ code f ++ rest → PlainTo (weight f) S → Plain own
  own_plain N f rest h p = rw (own_many N f rest h) (cut_plain (weight f) S p)

  own_read : (N : Bytes) (f : Formula) (rest : List Token) → tokens T N S ≡ code f ++ rest → PlainTo (weight f) S → Reads T own 0 (code f) []
  own_read N f rest h p = whole_read N f (rw (own_many N f rest h) (cut_words T N S f rest h)) (own_plain N f rest h p)

  pub too_heavy : {M : Bytes} → 25600 ≤ length M → 1024 < e.weight → Prenexes T M S M (Err (record { made = 0; fate = Heavy }))
  too_heavy {M} r h = record {
    size = refl;
    count = omega arith;
    behind = refl;
    room = tt;
    unfit = λ z. absurd (omega arith);
    form = λ z y N f rest k p. omega (arith, weighed N f rest k);
  }

  module _ {M M' : Bytes} {P' W' : Table} (room : 25600 ≤ length M) (light : e.weight ≤ 1024) where
    -- the walk over the rule stops
    pub stopped : {j : Stop} → Runs T M empty empty own 0 false M' P' W' (Err j) → Prenexes T M S M' (Err (record { made = 25 * P'.used; fate = fate_of j }))
    stopped {j} runs = record {
      size = runs.safe.between.size;
      count = omega (arith, runs.safe.used);
      behind = runs.safe.between.after;
      room = tt;
      unfit = λ z. absurd (omega arith);
      form = λ z y N f rest h p. outcome j f (omega (arith, weighed N f rest h)) (runs.does f [] (own_plain N f rest h p) (own_read N f rest h p));
    }
      where
        outcome : (j : Stop) (f : Formula) → weight (formula (outward f)) ≤ 1024 → Stops 0 (coded false (outward f)) j → Fails (fate_of j) (outward f)
        outcome Ends.Unfit f b l = absurd (omega (arith, coded_size f false, form_weight f))
        outcome Ends.Long f b l = (b, form_long f l)

    module _ (runs : Runs T M empty empty own 0 false M' P' W' (Ok tt)) where
      abbrev P̂ : List Token
      P̂ = tokens T M' (take P'.used P'.nodes)

      abbrev Ŵ : List Token
      Ŵ = tokens T M' (take W'.used W'.nodes)

      widest : (f : Formula) → Plain own → Reads T own 0 (code f) [] → widest_name (coded false (outward f)) ≡ max (longest (names P̂)) (longest (names Ŵ))
      widest f p h =
          let e = runs.does f [] p h in
          ap₂ (λ (a b : List Token). max (longest (names a)) (longest (names b)))
          (sym (map_take (token T M') P'.used P'.nodes ∙ e.prefix)) (sym (map_take (token T M') W'.used W'.nodes ∙ e.matrix))

      -- it is done, with a name that is over the limit
      pub too_long_names : 24 < max (longest (names P̂)) (longest (names Ŵ)) → Prenexes T M S M' (Err (record { made = 25 * P'.used; fate = Long }))
      too_long_names l = record {
        size = runs.safe.between.size;
        count = omega (arith, runs.safe.ready.places.used);
        behind = runs.safe.between.after;
        room = tt;
        unfit = λ z. absurd (omega arith);
        form = λ z y N f rest h p. (omega (arith, weighed N f rest h), form_long f (omega (arith, widest f (own_plain N f rest h p) (own_read N f rest h p))));
      }

      -- it is done
      pub walked : max (longest (names P̂)) (longest (names Ŵ)) ≤ 24 → Prenexes T M S M' (Ok (record { prefix = P'; matrix = W'; made = 25 * P'.used }))
      walked s = record {
        size = runs.safe.between.size;
        count = omega (arith, runs.safe.ready.places.used);
        behind = runs.safe.between.after;
        room = (runs.safe.ready.places.used, runs.safe.room);
        unfit = λ z. absurd (omega arith);
        form = λ z y N f rest h p.
            let q = own_plain N f rest h p in
            let k = own_read N f rest h p in
            let e = runs.does f [] q k in (
              omega (arith, weighed N f rest h),
              form_short f (omega (arith, widest f q k)),
              record {
                prefix_room = runs.safe.ready.places.used;
                matrix_room = runs.safe.room;
                blocks = λ N k. map_take (token T N) P'.used P'.nodes ∙ ap (take P'.used) (tokens_kept T N M' (25 * P'.used) k P'.nodes runs.safe.ready.places.known) ∙ e.prefix ∙ held_prefix (outward f);
                body = λ N k. map_take (token T N) W'.used W'.nodes ∙ ap (take W'.used) (tokens_kept T N M' (25 * P'.used) k W'.nodes runs.safe.ready.matrix_known) ∙ e.matrix;
                flat = outward_no_block f;
              },
            );
      }
