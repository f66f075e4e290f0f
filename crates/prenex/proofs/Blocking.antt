-- A block behind the prefix: its head, then its variables one at a time, each in the slot of its place.
use mathlib.Core.Path.{◌≡◌, refl, sym, ap, ap₂, ◌∙◌}
use mathlib.Core.Bool.{false}
use mathlib.Core.List.{List, [], ◌∷◌, ◌++◌, map, map-append, append_assoc}
use Prim.Native.Nat.{ℕ, zero, suc, ◌+◌, ◌*◌, ◌≤◌, ◌<◌}
use native.Mathlib.Omega.{arith}
use native.Mathlib.Numerals.{add-one}
use lib.Dec.{eqb, leb}
use lib.ListN.{length, take, drop, get_or, set, length-map, get_or-append}
use lib.Seq.{take-suc, take_all, get_or-drop}
use borrow.Author.Tests.{leb-true, leb-false}
use Rattle.std.specs.Prelude.{Ok, Err}
use Rattle.definitions.specs.Bytes.{Bytes}
use Rattle.text.specs.declared.table.Table.{Table}
use Rattle.prenex.specs.declared.write.Stop.TheVariants.{Unfit, Long}
use Rattle.definitions.specs.Syntax.{Name}
use Rattle.definitions.specs.Prenex.{longest}
use Rattle.definitions.proofs.Laws.Bools.{by_cases}
use Rattle.text.specs.Words.{Token, var_token, sign, is_made, kind_of_word, count_of, spell, token, tokens}
use Rattle.prenex.specs.Tables.{Places}
use Rattle.prenex.specs.Writing.{Plain, Reads, text_name, Between, Laid, Halts, Blocks}
use Rattle.prenex.proofs.Words.{tokens_at}
use Rattle.prenex.proofs.Splices.{drop_further, take_nearer}
use Rattle.prenex.proofs.Appending.{plain_token, one_written, read_bound}

-- the made names behind more places than one run and the next are as they were
pub between_none : (M : Bytes) (n : ℕ) → Between M n n M
between_none M n = record { more = omega arith; size = refl; before = refl; after = refl }

pub between_on : {M : Bytes} {n m k : ℕ} {N L : Bytes} → Between M n m N → Between N m k L → Between M n k L
between_on {M} {n} {m} {k} {N} {L} a b = record {
  more = omega (arith, a.more, b.more);
  size = b.size ∙ a.size;
  before = take_nearer (25 * n) (25 * m) L N (omega (arith, a.more)) b.before ∙ a.before;
  after = b.after ∙ drop_further (25 * m) (25 * k) N M (omega (arith, b.more)) a.after;
}

-- a run that stops where it began, and one that stops behind another
pub halts_here : {M : Bytes} {P : Table} → P.used ≤ 1024 → Halts M P M P
halts_here {M} {P} h = record { between = between_none M P.used; used = h }

pub halts_on : {M : Bytes} {P : Table} {N : Bytes} {Q : Table} {L : Bytes} {R : Table} → Between M P.used Q.used N → Halts N Q L R → Halts M P L R
halts_on b h = record { between = between_on b h.between; used = h.used }

-- a head put at the next place
module _ {M : Bytes} {P : List ℕ} {n : ℕ} (p : Places M P n) (h : ℕ) (kind : kind_of_word h < 12) (plain : is_made h ≡ false) (below : n < 1024) where
  -- what the table has then
  headed : (T : Bytes) → take (n + 1) (tokens T M (set P n h)) ≡ take n (tokens T M P) ++ (token T [] h ∷ [])
  headed T = one_written T M P n h (omega (arith, p.size)) ∙ ap (λ (t : Token). take n (tokens T M P) ++ (t ∷ [])) (plain_token T M [] h plain)

-- the name of a variable that was read
read_variable : {T : Bytes} {S : List ℕ} {at : ℕ} (vs : List Name) {rest : List Token} (i : ℕ) → Plain S → Reads T S at (map var_token vs) rest → i < length vs
    → text_name T (get_or S (at + i) 0) ≡ get_or vs i []
read_variable {T} {S} {at} vs {rest} i p r h =
    named (get_or S (at + i) 0) (p (at + i))
    (ap (token T []) (sym (get_or-drop at S i 0)) ∙ sym (tokens_at T [] (drop at S) i) ∙ ap (λ (l : List Token). get_or l i (token T [] 0)) r.stream
    ∙ get_or-append (map var_token vs) rest (token T [] 0) i (simp length-map h) ∙ inside vs i h)
  where
    inside : (vs : List Name) (i : ℕ) → i < length vs → get_or (map var_token vs) i (token T [] 0) ≡ var_token (get_or vs i [])
    inside [] i h = absurd (omega arith)
    inside (v ∷ vs) zero h = refl
    inside (v ∷ vs) (suc i) h = inside vs i (omega arith)

    named : (w : ℕ) {v : Name} → is_made w ≡ false → token T [] w ≡ var_token v → text_name T w ≡ v
    named w {v} p e =
        by_cases (eqb (kind_of_word w) 12)
        (λ t. let z : var_token (spell T [] w) ≡ var_token v = rw t at e in
        let y : spell T [] w ≡ v = cc in
        rw p at y)
        (λ f. let z : sign (kind_of_word w) (count_of w) (spell T [] w) ≡ var_token v = rw f at e in
        let y : ◌≡◌ {A = ℕ} 0 1 = cc in
        absurd (omega arith))

at_most_longest : (vs : List Name) (i : ℕ) → i < length vs → length (get_or vs i []) ≤ longest vs
unfolding longest
at_most_longest [] i h = absurd (omega arith)
at_most_longest (v ∷ vs) zero h = omega arith
at_most_longest (v ∷ vs) (suc i) h = omega (arith, at_most_longest vs i (omega arith))

-- where the loop over a block's variables stands: i of them are behind the words of P
pub record Laying (T M : Bytes) (P : Table) (S : List ℕ) (at i : ℕ) (M' : Bytes) (P' : Table) : Type 0 where
  pub count : P'.used ≡ P.used + i
  pub places : Places M' P'.nodes P'.used
  pub between : Between M P.used P'.used M'
  pub words : (vs : List Name) (rest : List Token) → Plain S → i ≤ length vs → Reads T S at (map var_token vs) rest
      → take P'.used (tokens T M' P'.nodes) ≡ take P.used (tokens T M P.nodes) ++ map var_token (take i vs)

pub laying_on : {T M : Bytes} {P : Table} {S : List ℕ} {at i : ℕ} {M' : Bytes} {P' : Table} {M'' : Bytes} {P'' : Table}
    → Laying T M P S at i M' P' → Laid T M' P' (get_or S (at + i) 0) M'' P'' → Laying T M P S at (i + 1) M'' P''
laying_on {T} {M} {P} {S} {at} {i} {M'} {P'} {M''} {P''} y v = record {
  count = omega (arith, y.count, v.used);
  places = v.places;
  between = between_on y.between v.between;
  words = λ vs rest pl b r.
      v.named ∙ ap₂ (λ (a : List Token) (x : Name). a ++ (var_token x ∷ [])) (y.words vs rest pl (omega arith) r) (read_variable vs i pl r (omega arith))
      ∙ append_assoc (take P.used (tokens T M P.nodes)) (map var_token (take i vs)) (var_token (get_or vs i []) ∷ [])
      ∙ ap (λ (l : List Token). take P.used (tokens T M P.nodes) ++ l) (one_more vs (omega arith));
}
  where
    one_more : (vs : List Name) → i < length vs → map var_token (take i vs) ++ (var_token (get_or vs i []) ∷ []) ≡ map var_token (take (i + 1) vs)
    one_more vs h = rw (add-one i, take-suc vs i [] h, map-append)

-- no place for the block, or the source ends
pub no_place : (T : Bytes) {M : Bytes} {P : Table} {S : List ℕ} {at variables : ℕ} (head : ℕ) → Places M P.nodes P.used
    → (P.used + 1 + variables ≤ 1024 → length S < at + variables) → at ≤ length S → Blocks T M P S at variables head M P (Err Unfit)
no_place T {M} {P} head p h k = record {
  safe = halts_here p.used;
  ends = λ vs rest pl l r.
      by_cases (leb (P.used + 1 + length vs) 1024)
      (λ t. absurd (omega (arith, leb-true (P.used + 1 + length vs) 1024 t, length-map vs var_token, read_bound r)))
      (λ f. omega (arith, leb-false (P.used + 1 + length vs) 1024 f));
}

-- the loop behind the head h of a block
module _ {T M : Bytes} {P : Table} {S : List ℕ} {at i : ℕ} {M' : Bytes} {P' : Table} (p : Places M P.nodes P.used) (h : ℕ) (kind : kind_of_word h < 12) (plain : is_made h ≡ false) (below : P.used < 1024)
    (y : Laying T M (record { nodes = set P.nodes P.used h; used = P.used + 1 }) S at i M' P') (variables : ℕ) where
  across : Between M P.used P'.used M'
  across = between_on (record { more = omega arith; size = refl; before = refl; after = refl }) y.between

  -- a name is too long
  pub laying_long : {M'' : Bytes} {P'' : Table} → (M'' ≡ M') × (P'' ≡ P') × (24 < length (text_name T (get_or S (at + i) 0))) → i < variables
      → Blocks T M P S at variables h M'' P'' (Err Long)
  laying_long {M''} {P''} v a = record {
    safe = rw (v.0, v.1) (record { between = across; used = y.places.used });
    ends = λ vs rest pl l r. omega (arith, v.2, ap length (read_variable vs i pl r (omega arith)), at_most_longest vs i (omega arith));
  }

  pub laying_done : i ≡ variables → Blocks T M P S at variables h M' P' (Ok tt)
  laying_done e = record {
    safe = (y.places, across);
    ends = λ vs rest pl l r. y.words vs rest pl (omega arith) r ∙ ap₂ (λ (k : List Token) (ws : List Name). k ++ map var_token ws) (headed p h kind plain below T) (take_all i vs (omega arith))
        ∙ append_assoc (take P.used (tokens T M P.nodes)) (token T [] h ∷ []) (map var_token vs);
  }
