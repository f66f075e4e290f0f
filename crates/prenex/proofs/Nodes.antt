-- A binary node: its word, the left side, the right side behind it, and both renamed apart.
use mathlib.Core.Path.{◌≡◌, ap, ap₂, subst, ◌∙◌}
use mathlib.Core.List.{List, [], ◌∷◌, ◌++◌, append_assoc}
use Prim.Native.Nat.{ℕ, ◌+◌, ◌*◌, ◌≤◌, ◌<◌}
use native.Mathlib.Omega.{arith}
use lib.ListN.{length, take, length-map}
use lib.Seq.{length-take-le}
use Rattle.definitions.specs.Bytes.{Bytes}
use Rattle.text.specs.Words.{Token, tokens}
use Rattle.definitions.specs.Prenex.{longest}
use Rattle.text.specs.Prefixes.{names}
use Rattle.text.specs.declared.table.Table.{Table}
use Rattle.prenex.specs.Walk.{Side}
use Rattle.prenex.specs.Tables.{Ready}
use Rattle.prenex.specs.Renaming.{Walked, held, both_apart, node_side}
use Rattle.prenex.specs.Writing.{Writes, Stops, Extends, Written, Between, Safe}
use Rattle.prenex.specs.Outward.{Begins}
use Rattle.prenex.specs.declared.write.Stop.{Stop}
use Rattle.prenex.specs.declared.write.Stop.TheVariants.{Unfit, Long}
use Rattle.prenex.proofs.Splices.{splice_front}
use Rattle.prenex.proofs.Blocking.{between_none, between_on}
use Rattle.prenex.proofs.Composing.{ended, put_count, first_part, second_part, third_part, topped_name, left_name, right_name, node_prefix_length, both_matrix_length, node_matrix_length}

-- Whatever the source holds.
pub safe_put : {M : Bytes} {P W W₁ : Table} → Ready M P.nodes P.used W.nodes → Extends W W₁ → Safe M P W M P W₁
safe_put {M} {P} d x = record {
  ready = record { places = d.places; matrix_size = x.size; matrix_known = x.known (25 * P.used) d.matrix_known };
  between = between_none M P.used;
  more = x.more;
  room = x.room;
}

pub safe_on : {M : Bytes} {P W : Table} {M₁ : Bytes} {P₁ W₁ : Table} {M' : Bytes} {P' W' : Table} → Between M P.used P₁.used M₁ → W.used ≤ W₁.used → Safe M₁ P₁ W₁ M' P' W' → Safe M P W M' P' W'
safe_on b h s = record { ready = s.ready; between = between_on b s.between; more = omega (arith, s.more); room = s.room }

pub safe_node : {M : Bytes} {P W W₁ : Table} {M₂ : Bytes} {P₂ W₂ : Table} {M₃ : Bytes} {P₃ W₃ P₄ W₄ : Table} → Extends W W₁ → Safe M P W₁ M₂ P₂ W₂ → Safe M₂ P₂ W₂ M₃ P₃ W₃
    → P₄.used ≡ P₃.used → W₄.used ≡ W₃.used → Ready M₃ P₄.nodes P₃.used W₄.nodes → Safe M P W M₃ P₄ W₄
safe_node x s v e f k = record {
  ready = rw e k;
  between = rw e (between_on s.between v.between);
  more = omega (arith, x.more, s.more, v.more);
  room = omega (arith, v.room);
}

-- what a run behind a word, and one behind another run, begin with
pub put_begins : {M : Bytes} {P W W₁ : Table} → Begins M P W → Extends W W₁ → Begins M P W₁
put_begins {M} {P} b x = record { ready = record { places = b.ready.places; matrix_size = x.size; matrix_known = x.known (25 * P.used) b.ready.matrix_known }; room = x.room }

module _ {T M : Bytes} {P W W₁ : Table} {t : Token} (ready : Ready M P.nodes P.used W.nodes) (room : W.used ≤ 1024) (x : Extends W W₁) (p : Written T W W₁ (t ∷ [])) where
  W₁Long : length (tokens T M W₁.nodes) ≡ 1024
  W₁Long = simp length-map x.size

  counted : W₁.used ≡ W.used + 1
  counted = put_count ready.matrix_size room x p

  pub left_stops : (a b : Side) (e : Stop) → Stops (P.used + W₁.used) a e → Stops (P.used + W.used) (node_side t a b) e
  left_stops a b Unfit q = omega (arith, counted, node_prefix_length t a b, node_matrix_length t a b)
  left_stops a b Long q = omega (arith, left_name t a b)

  module _ {M₂ : Bytes} {P₂ W₂ : Table} {a : Side} (s : Safe M P W₁ M₂ P₂ W₂) (e : Writes T M P W₁ M₂ P₂ W₂ a) where
    n_fits : P.used ≤ length (tokens T M P.nodes)
    n_fits = simp length-map (omega (arith, ready.places.size, ready.places.used))

    prefix_count : P₂.used ≡ P.used + length a.prefix
    prefix_count =
        ended (tokens T M₂ P₂.nodes) (tokens T M P.nodes) a.prefix P₂.used P.used (simp length-map (omega (arith, s.ready.places.size, s.ready.places.used))) n_fits e.prefix

    matrix_count : W₂.used ≡ W₁.used + length a.matrix
    matrix_count =
        ended (tokens T M₂ W₂.nodes) (tokens T M W₁.nodes) a.matrix W₂.used W₁.used (simp length-map (omega (arith, s.ready.matrix_size, s.room))) (omega (arith, W₁Long, x.room)) e.matrix

    pub right_stops : (b : Side) (e : Stop) → Stops (P₂.used + W₂.used) b e → Stops (P.used + W.used) (node_side t a b) e
    right_stops b Unfit q = omega (arith, counted, prefix_count, matrix_count, node_prefix_length t a b, node_matrix_length t a b)
    right_stops b Long q = omega (arith, right_name t a b)

    module _ {M₃ : Bytes} {P₃ W₃ : Table} {b : Side} (v : Safe M₂ P₂ W₂ M₃ P₃ W₃) (f : Writes T M₂ P₂ W₂ M₃ P₃ W₃ b) where
      all_prefix : take P₃.used (tokens T M₃ P₃.nodes) ≡ (take P.used (tokens T M P.nodes) ++ a.prefix) ++ b.prefix
      all_prefix = f.prefix ∙ ap (λ (k : List Token). k ++ b.prefix) e.prefix

      all_matrix : take W₃.used (tokens T M₃ W₃.nodes) ≡ (take W₁.used (tokens T M W₁.nodes) ++ a.matrix) ++ b.matrix
      all_matrix = f.matrix ∙ ap (λ (k : List Token). k ++ b.matrix) e.matrix

      n_long : length (take P.used (tokens T M P.nodes)) ≡ P.used
      n_long = length-take-le P.used (tokens T M P.nodes) n_fits

      h_long : length (take W₁.used (tokens T M W₁.nodes)) ≡ W₁.used
      h_long = length-take-le W₁.used (tokens T M W₁.nodes) (omega (arith, W₁Long, x.room))

      -- what the tables hold of the two sides is the two sides
      lefts : held T M₃ P₃.nodes W₃.nodes P.used P₂.used W₁.used W₂.used ≡ a
      lefts = ap₂ (λ (i j : List Token). record { prefix = i; matrix = j })
          (second_part (tokens T M₃ P₃.nodes) (take P.used (tokens T M P.nodes)) a.prefix b.prefix P.used P₂.used P₃.used all_prefix n_long prefix_count v.between.more)
          (second_part (tokens T M₃ W₃.nodes) (take W₁.used (tokens T M W₁.nodes)) a.matrix b.matrix W₁.used W₂.used W₃.used all_matrix h_long matrix_count v.more)

      rights : held T M₃ P₃.nodes W₃.nodes P₂.used P₃.used W₂.used W₃.used ≡ b
      rights = ap₂ (λ (i j : List Token). record { prefix = i; matrix = j })
          (third_part (tokens T M₃ P₃.nodes) (take P.used (tokens T M P.nodes)) a.prefix b.prefix P.used P₂.used P₃.used all_prefix n_long prefix_count v.between.more)
          (third_part (tokens T M₃ W₃.nodes) (take W₁.used (tokens T M W₁.nodes)) a.matrix b.matrix W₁.used W₂.used W₃.used all_matrix h_long matrix_count v.more)

      apart_as : both_apart (held T M₃ P₃.nodes W₃.nodes P.used P₂.used W₁.used W₂.used) (held T M₃ P₃.nodes W₃.nodes P₂.used P₃.used W₂.used W₃.used) ≡ both_apart a b
      apart_as = ap₂ both_apart lefts rights

      -- a new name is too long
      pub names_stop : 24 < longest (names (both_apart (held T M₃ P₃.nodes W₃.nodes P.used P₂.used W₁.used W₂.used) (held T M₃ P₃.nodes W₃.nodes P₂.used P₃.used W₂.used W₃.used)).prefix)
          → Stops (P.used + W.used) (node_side t a b) Long
      names_stop k = omega (arith, ap (λ (s : Side). longest (names s.prefix)) apart_as, topped_name t (both_apart a b))

      module _ {P₄ W₄ : Table} (i : P₄.used ≡ P₃.used) (j : W₄.used ≡ W₃.used)
          (k : Walked T M₃ P₃.nodes P₃.used W₃.nodes P.used P₃.used W₁.used W₃.used P₄.nodes W₄.nodes
          (both_apart (held T M₃ P₃.nodes W₃.nodes P.used P₂.used W₁.used W₂.used) (held T M₃ P₃.nodes W₃.nodes P₂.used P₃.used W₂.used W₃.used))) where
        sides : Walked T M₃ P₃.nodes P₃.used W₃.nodes P.used P₃.used W₁.used W₃.used P₄.nodes W₄.nodes (both_apart a b)
        sides = subst (λ (s : Side). Walked T M₃ P₃.nodes P₃.used W₃.nodes P.used P₃.used W₁.used W₃.used P₄.nodes W₄.nodes s) apart_as k

        P₃Long : length (tokens T M₃ P₃.nodes) ≡ 1024
        P₃Long = simp length-map v.ready.places.size

        W₃Long : length (tokens T M₃ W₃.nodes) ≡ 1024
        W₃Long = simp length-map v.ready.matrix_size

        prefix_whole : P₃.used ≡ P.used + length a.prefix + length b.prefix
        prefix_whole = omega (
          arith,
          prefix_count,
          ended (tokens T M₃ P₃.nodes) (tokens T M₂ P₂.nodes) b.prefix P₃.used P₂.used (omega (arith, P₃Long, v.ready.places.used))
              (simp length-map (omega (arith, s.ready.places.size, s.ready.places.used))) f.prefix,
        )

        matrix_whole : W₃.used ≡ W₁.used + length a.matrix + length b.matrix
        matrix_whole = omega (
          arith,
          matrix_count,
          ended (tokens T M₃ W₃.nodes) (tokens T M₂ W₂.nodes) b.matrix W₃.used W₂.used (omega (arith, W₃Long, v.room))
              (simp length-map (omega (arith, s.ready.matrix_size, s.room))) f.matrix,
        )

        pub node_ends : Writes T M P W M₃ P₄ W₄ (node_side t a b)
        node_ends = record {
          prefix = ap (λ (n : ℕ). take n (tokens T M₃ P₄.nodes)) i ∙ ap (take P₃.used) (sides.in_prefix)
              ∙ splice_front P.used P₃.used (tokens T M₃ P₃.nodes) (both_apart a b).prefix (omega (arith, prefix_whole)) (omega (arith, P₃Long, v.ready.places.used)) (omega (arith, node_prefix_length t a b, prefix_whole))
              ∙ ap (λ (q : List Token). q ++ (both_apart a b).prefix) (first_part (tokens T M₃ P₃.nodes) (take P.used (tokens T M P.nodes)) a.prefix b.prefix P.used P₂.used P₃.used all_prefix n_long prefix_count v.between.more);
          matrix = ap (λ (n : ℕ). take n (tokens T M₃ W₄.nodes)) j ∙ ap (take W₃.used) (sides.in_matrix)
              ∙ splice_front W₁.used W₃.used (tokens T M₃ W₃.nodes) (both_apart a b).matrix (omega (arith, matrix_whole)) (omega (arith, W₃Long, v.room)) (omega (arith, both_matrix_length t a b, matrix_whole))
              ∙ ap (λ (q : List Token). q ++ (both_apart a b).matrix) (first_part (tokens T M₃ W₃.nodes) (take W₁.used (tokens T M W₁.nodes)) a.matrix b.matrix W₁.used W₂.used W₃.used all_matrix h_long matrix_count v.more
              ∙ p.words M)
              ∙ append_assoc (take W.used (tokens T M W.nodes)) (t ∷ []) (both_apart a b).matrix;
        }
