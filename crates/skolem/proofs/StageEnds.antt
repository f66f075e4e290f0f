-- The ends of the stage: no room for a name, a form that is too large, and the form.
use Rattle.std.specs.Prelude.{false, Ok, Err}
use mathlib.Core.Path.{◌≡◌, ap, ◌∙◌}
use mathlib.Core.List.{List, [], ◌++◌}
use Prim.Native.Nat.{ℕ, ◌-◌, ◌≤◌}
use native.Mathlib.Omega.{arith}
use lib.ListN.{length, take, length-take}
use lib.Seq.{take-append-le}
use Rattle.definitions.specs.Bytes.{Bytes}
use Rattle.definitions.specs.Limits.{house}
use Rattle.text.specs.Words.{token, tokens}
use Rattle.text.specs.declared.table.Table.{Table}
use Rattle.text.specs.Tables.{as_table}
use Rattle.text.specs.Prefixes.{names}
use Rattle.skolem.specs.declared.counters.Counters.{Counters}
use Rattle.skolem.specs.declared.Fate.TheVariants.{Heavy}
use Rattle.skolem.specs.Pass.{most, gather, survey, blank_word, filled}
use Rattle.skolem.specs.Naming.{AreNamed}
use Rattle.skolem.specs.Filling.{Added, Lacks, Keeps}
use Rattle.skolem.specs.Stage.{Skolemises}
use Rattle.skolem.proofs.StageLaws.{counts_read, blocks_read, matrix_heavy, matrix_made}

module _ (T M : Bytes) (used : ℕ) (k : Counters) (P X : List ℕ) (short : length P ≤ house.weight)
    {g : List ℕ} (few : length g ≤ most) (free : g ≡ gather (token T M) (names (tokens T M P)) [] X)
    {H₁ g' : List ℕ} (around : survey (token T M) blank_word 0 false g P ≡ record { heads = H₁; scope = g' }) (heads : length H₁ ≤ length P)
    {H : List ℕ} {M' : Bytes} {end : ℕ} {k' : Counters} (titles : AreNamed H₁ M used k H M' end k') (same : length H ≡ length H₁)
    {O' : List ℕ} {n : ℕ} (kept : Keeps H O' n) (long : length O' ≡ house.weight) (Q : List ℕ) (wide : length Q ≡ house.weight) where
  abbrev out : List ℕ
  out = filled (token T M') g' P H X

  -- what the blocks leave of the room
  abbrev B : List ℕ
  B = take (house.weight - n) Q

  room : length B ≡ house.weight - n
  room = simp length-take (omega arith)

  few_blocks : n ≤ house.weight
  few_blocks = omega (arith, kept.few)

  pub form_heavy : {O Q₀ : Table} {Q' : List ℕ} → length O' ≡ length O.nodes → length Q' ≡ length Q₀.nodes → Lacks B 0 out
      → Skolemises T M used k P X O Q₀ M' (as_table O' 0) (as_table Q' 0) (Err (record { made = end; counters = k'; fate = Heavy }))
  form_heavy e d l = record {
    grown = titles.grown;
    short = omega (arith, titles.short);
    blocks_size = e;
    body_size = d;
    room = omega arith;
    form = λ p h. (
      matrix_heavy T M used k P X p h.blocks h.body h.flat few free around titles kept few_blocks long B room l,
      counts_read T M used k P X p h.blocks h.body h.flat few free around titles,
    );
  }

  pub form_made : {O Q₀ : Table} (B' rest : List ℕ) {m : ℕ} → length O' ≡ length O.nodes → length (B' ++ rest) ≡ length Q₀.nodes
      → Added B 0 B' m out → length B' ≡ length B
      → Skolemises T M used k P X O Q₀ M' (as_table O' n) (as_table (B' ++ rest) m) (Ok (record { made = end; counters = k' }))
  form_made B' rest {m} e d t z =
      let within : m ≤ house.weight = omega (arith, t.fits, room) in record {
        grown = titles.grown;
        short = omega (arith, titles.short);
        blocks_size = e;
        body_size = d;
        room = (few_blocks, within);
        form = λ p h. let all = matrix_made T M used k P X p h.blocks h.body h.flat few free around titles kept few_blocks long B room z t in record {
          small = all.0;
          blocks = blocks_read T M used k P X p h.blocks h.body h.flat few free around titles kept;
          body = record { room = within; words = ap (tokens T M') (take-append-le m B' rest t.fits) ∙ all.1 };
          after = counts_read T M used k P X p h.blocks h.body h.flat few free around titles;
        };
      }
