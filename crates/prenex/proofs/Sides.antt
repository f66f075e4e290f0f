-- A node over two sides, each written by a run of its own: where its walk stops, and what it comes to. A side is what two formulae give: in
-- a pair each side is one of them, and an iff has an implication on each side.
use mathlib.Core.Path.{◌≡◌}
use mathlib.Core.Bool.{Bool}
use mathlib.Core.List.{List, [], ◌∷◌}
use Prim.Native.Nat.{ℕ, ◌<◌}
use Rattle.std.specs.Prelude.{Result, Ok, Err}
use Rattle.definitions.specs.Bytes.{Bytes}
use Rattle.definitions.specs.Syntax.{Formula}
use Rattle.definitions.specs.Prenex.{longest, outward}
use Rattle.text.specs.Words.{Token}
use Rattle.text.specs.Prefixes.{names}
use Rattle.text.specs.declared.table.Table.{Table}
use Rattle.prenex.specs.Walk.{Side, coded}
use Rattle.prenex.specs.Renaming.{Walked, held, both_apart, node_side}
use Rattle.prenex.specs.Writing.{Extends, Written, Appends}
use Rattle.prenex.specs.Outward.{Begins, Runs, RunsBoth}
use Rattle.prenex.specs.declared.write.Stop.{Stop}
use Rattle.prenex.specs.declared.write.Stop.TheVariants.{Long}
use Rattle.prenex.proofs.Blocking.{between_on, halts_here, halts_on}
use Rattle.prenex.proofs.Composing.{topped_stops}
use Rattle.prenex.proofs.Nodes.{left_stops, right_stops, names_stop, node_ends, safe_node}

-- the sides of a pair
abbrev pub left_form : Bool → Formula → Formula → Side
left_form flip a b = coded flip (outward a)

abbrev pub right_form : Bool → Formula → Formula → Side
right_form flip a b = coded flip (outward b)

-- a run over one of two formulae
module _ {T M : Bytes} {P W : Table} {S : List ℕ} {flip : Bool} {M' : Bytes} {P' W' : Table} {r : Result Unit Stop} where
  pub of_left : {left right : ℕ} → Runs T M P W S left flip M' P' W' r → RunsBoth T M P W S left right M' P' W' r (left_form flip)
  of_left k = record { safe = k.safe; does = λ a b rest rest' pl ra rb. k.does a rest pl ra }

  pub of_right : {left right : ℕ} → Runs T M P W S right flip M' P' W' r → RunsBoth T M P W S left right M' P' W' r (right_form flip)
  of_right k = record { safe = k.safe; does = λ a b rest rest' pl ra rb. k.does b rest' pl rb }

-- a run over two formulae, told the other way round
pub turned_round : {T M : Bytes} {P W : Table} {S : List ℕ} {left right : ℕ} {M' : Bytes} {P' W' : Table} {r : Result Unit Stop} {X : Formula → Formula → Side}
    → RunsBoth T M P W S right left M' P' W' r X → RunsBoth T M P W S left right M' P' W' r (λ a b. X b a)
turned_round k = record { safe = k.safe; does = λ a b rest rest' pl ra rb. k.does b a rest' rest pl rb ra }

-- the node over two sides
abbrev node_of : Token → (Formula → Formula → Side) → (Formula → Formula → Side) → Formula → Formula → Side
node_of t X Y f g = node_side t (X f g) (Y f g)

-- what the walk over a node with the word t comes to, from what its word, its first side and its second side come to
module _ {T M : Bytes} {P W : Table} (S : List ℕ) (left right : ℕ) {W₁ : Table} (t : Token) (X Y : Formula → Formula → Side) (b : Begins M P W) where
  pub word_stops : (e : Stop) → Appends T W W₁ (Err e) (t ∷ []) → RunsBoth T M P W S left right M P W₁ (Err e) (node_of t X Y)
  word_stops e p = record {
    safe = halts_here b.ready.places.used;
    does = λ f g rest rest' pl rf rg. topped_stops T W W₁ t e P.used (both_apart (X f g) (Y f g)) p;
  }

  module _ (x : Extends W W₁) (p : Written T W W₁ (t ∷ [])) where
    pub first_stops : {M₂ : Bytes} {P₂ W₂ : Table} {e : Stop} → RunsBoth T M P W₁ S left right M₂ P₂ W₂ (Err e) X → RunsBoth T M P W S left right M₂ P₂ W₂ (Err e) (node_of t X Y)
    first_stops {e = e} u = record {
      safe = u.safe;
      does = λ f g rest rest' pl rf rg. left_stops b.ready b.room x p (X f g) (Y f g) e (u.does f g rest rest' pl rf rg);
    }

    module _ {M₂ : Bytes} {P₂ W₂ : Table} (u : RunsBoth T M P W₁ S left right M₂ P₂ W₂ (Ok tt) X) where
      pub second_stops : {M₃ : Bytes} {P₃ W₃ : Table} {e : Stop} → RunsBoth T M₂ P₂ W₂ S left right M₃ P₃ W₃ (Err e) Y → RunsBoth T M P W S left right M₃ P₃ W₃ (Err e) (node_of t X Y)
      second_stops {e = e} v = record {
        safe = halts_on u.safe.between v.safe;
        does = λ f g rest rest' pl rf rg.
            right_stops b.ready b.room x p u.safe (u.does f g rest rest' pl rf rg) (Y f g) e (v.does f g rest rest' pl rf rg);
      }

      module _ {M₃ : Bytes} {P₃ W₃ : Table} (v : RunsBoth T M₂ P₂ W₂ S left right M₃ P₃ W₃ (Ok tt) Y) where
        abbrev Apart : Side
        Apart = both_apart (held T M₃ P₃.nodes W₃.nodes P.used P₂.used W₁.used W₂.used) (held T M₃ P₃.nodes W₃.nodes P₂.used P₃.used W₂.used W₃.used)

        pub merge_stops : {P₅ : Table} (W₅ : Table) → P₅.used ≡ P₃.used → 24 < longest (names Apart.prefix) → RunsBoth T M P W S left right M₃ P₅ W₅ (Err Long) (node_of t X Y)
        merge_stops W₅ i k = record {
          safe = rw i (record { between = between_on u.safe.between v.safe.between; used = v.safe.ready.places.used });
          does = λ f g rest rest' pl rf rg.
              names_stop b.ready b.room x p u.safe (u.does f g rest rest' pl rf rg) v.safe (v.does f g rest rest' pl rf rg) k;
        }

        pub merge_ends : {P₄ W₄ : Table} → P₄.used ≡ P₃.used → W₄.used ≡ W₃.used
            → Walked T M₃ P₃.nodes P₃.used W₃.nodes P.used P₃.used W₁.used W₃.used P₄.nodes W₄.nodes Apart
            → RunsBoth T M P W S left right M₃ P₄ W₄ (Ok tt) (node_of t X Y)
        merge_ends i j k = record {
          safe = safe_node x u.safe v.safe i j k.ready;
          does = λ f g rest rest' pl rf rg.
              node_ends b.ready b.room x p u.safe (u.does f g rest rest' pl rf rg) v.safe (v.does f g rest rest' pl rf rg) i j k;
        }
