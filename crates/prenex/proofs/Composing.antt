-- How the ends of runs come together: a run behind a word, a run behind a block, and two runs with the renaming behind them.
use mathlib.Core.Path.{◌≡◌, sym, ap, ap₂, ◌∙◌}
use mathlib.Core.List.{List, [], ◌∷◌, ◌++◌, map, append_assoc}
use Prim.Native.Nat.{ℕ, ◌+◌, ◌≤◌}
use native.Mathlib.Omega.{arith}
use lib.ListN.{length, take, drop, length-append, length-map}
use lib.Seq.{slice, length-take-le, take-take, take_at, drop_at}
use Rattle.definitions.specs.Bytes.{Bytes}
use Rattle.definitions.specs.Syntax.{Name}
use Rattle.definitions.specs.Prenex.{longest}
use Rattle.text.specs.Words.{Token, var_token, sign, tokens}
use Rattle.text.specs.Prefixes.{names}
use Rattle.prenex.specs.Walk.{Side, left_apart, right_apart}
use Rattle.prenex.specs.Renaming.{both_apart, topped, node_side}
use Rattle.std.specs.Prelude.{Result, Ok, Err}
use Rattle.text.specs.declared.table.Table.{Table}
use Rattle.prenex.specs.Tables.{Places}
use Rattle.prenex.specs.Writing.{widest_name, Stops, End, Extends, Written, Appends, BlockEnd}
use Rattle.prenex.specs.declared.write.Stop.{Stop}
use Rattle.prenex.specs.declared.write.Stop.TheVariants.{Unfit, Long}
use Rattle.text.specs.PrefixLaws.{names_append, names_vars}
use Rattle.prenex.proofs.Grown.{prefix_grows, matrix_grows}
use Rattle.prenex.proofs.Joins.{walk_prefix_length, walk_matrix_length, longest_left, longest_right}

-- a part that is known to be written ends where its length says
pub ended : (X Y l : List Token) (m n : ℕ) → m ≤ length X → n ≤ length Y → take m X ≡ take n Y ++ l → m ≡ n + length l
ended X Y l m n h k e = omega (arith, simp (length-append, length-take-le m X h, length-take-le n Y k) at (ap length e))

-- three parts, one behind the other
module _ (X A B C : List Token) (a b c : ℕ) (e : take c X ≡ (A ++ B) ++ C) (la : length A ≡ a) (lb : b ≡ a + length B) (k : b ≤ c) where
  two_long : length (A ++ B) ≡ b
  two_long = simp length-append (omega arith)

  pub second_part : slice a b X ≡ B
  second_part = ap (drop a) (sym (take-take b c X k) ∙ ap (take b) e ∙ take_at (A ++ B) C b two_long) ∙ drop_at A B a la

  pub third_part : slice b c X ≡ C
  third_part = ap (drop b) e ∙ drop_at (A ++ B) C b two_long

  pub first_part : take a X ≡ A
  first_part = sym (take-take a c X (omega arith)) ∙ ap (take a) (e ∙ append_assoc A B C) ∙ take_at A (B ++ C) a la

-- a word only adds names
pub topped_name : (t : Token) (s : Side) → widest_name s ≤ widest_name (topped t s)
unfolding names longest
topped_name (var_token x) s = omega arith
topped_name (sign k n x) s = omega arith

-- one word, and a run behind it
module _ {T : Bytes} {W W₁ : Table} {t : Token} (lw : length W.nodes ≡ 1024) (u : W.used ≤ 1024) (x : Extends W W₁) (p : Written T W W₁ (t ∷ [])) where
  pub put_count : W₁.used ≡ W.used + 1
  put_count = ended (tokens T [] W₁.nodes) (tokens T [] W.nodes) (t ∷ []) W₁.used W.used (simp length-map (omega (arith, x.size, x.room))) (simp length-map (omega arith)) (p.words [])

  pub topped_ends : (M : Bytes) (P : Table) (M' : Bytes) (P' W' : Table) (r : Result Unit Stop) (s : Side) → End T M P W₁ M' P' W' r s → End T M P W M' P' W' r (topped t s)
  topped_ends M P M' P' W' (Ok u) s e = record {
    prefix = e.prefix;
    matrix = e.matrix ∙ ap (λ (l : List Token). l ++ s.matrix) (p.words M) ∙ append_assoc (take W.used (tokens T M W.nodes)) (t ∷ []) s.matrix;
  }
  topped_ends M P M' P' W' (Err Unfit) s l = omega (arith, put_count)
  topped_ends M P M' P' W' (Err Long) s l = omega (arith, topped_name t s)

-- there was no room for the word
pub topped_stops : (T : Bytes) (W W₁ : Table) (t : Token) (e : Stop) (n : ℕ) (s : Side) → Appends T W W₁ (Err e) (t ∷ []) → Stops (n + W.used) (topped t s) e
topped_stops T W W₁ t Unfit n s p = omega arith
topped_stops T W W₁ t Long n s p = absurd p

-- a side behind a block
abbrev pub behind_block : Token → List Name → Side → Side
behind_block t vs s = record { prefix = t ∷ (map var_token vs ++ s.prefix); matrix = s.matrix }

block_names : (k n : ℕ) (x : Name) (vs : List Name) (s : Side) → names (behind_block (sign k n x) vs s).prefix ≡ vs ++ names s.prefix
unfolding names
block_names k n x vs s = names_append (map var_token vs) s.prefix ∙ ap (λ (l : List Name). l ++ names s.prefix) (names_vars vs)

module _ (T M : Bytes) (P : Table) (M₁ : Bytes) (P₁ : Table) (k c : ℕ) (x : Name) (vs : List Name) where
  abbrev blocked : Side → Side
  blocked s = behind_block (sign k c x) vs s

  block_size : (s : Side) → length (blocked s).prefix ≡ 1 + length vs + length s.prefix
  block_size s = simp (length-append, length-map) (omega arith)

  -- the block does not fit, or has a name that is too long
  pub block_stops : (n : ℕ) (s : Side) (e : Stop) → BlockEnd T M P M₁ P₁ (Err e) (sign k c x) vs → Stops (P.used + n) (blocked s) e
  block_stops n s Unfit l = omega (arith, block_size s)
  block_stops n s Long l = omega (arith, ap longest (block_names k c x vs s), longest_left vs (names s.prefix))

  -- a run behind it; the matrix W is what it was
  pub block_ends : Places M P.nodes P.used → Places M₁ P₁.nodes P₁.used → BlockEnd T M P M₁ P₁ (Ok tt) (sign k c x) vs
      → (W : Table) (M' : Bytes) (P' W' : Table) (r : Result Unit Stop) (s : Side)
      → tokens T M₁ W.nodes ≡ tokens T M W.nodes → End T M₁ P₁ W M' P' W' r s → End T M P W M' P' W' r (blocked s)
  block_ends p q b W M' P' W' (Ok u) s w e = record {
    prefix = e.prefix ∙ ap (λ (l : List Token). l ++ s.prefix) b ∙ append_assoc (take P.used (tokens T M P.nodes)) (sign k c x ∷ map var_token vs) s.prefix;
    matrix = e.matrix ∙ rw w;
  }
  block_ends p q b W M' P' W' (Err Unfit) s w l =
      omega (
        arith,
        block_size s,
        length-map vs var_token,
        ended (tokens T M₁ P₁.nodes) (tokens T M P.nodes) (sign k c x ∷ map var_token vs) P₁.used P.used (simp length-map (omega (arith, q.size, q.used))) (simp length-map (omega (arith, p.size, p.used))) b,
      )
  block_ends p q b W M' P' W' (Err Long) s w l =
      omega (arith, ap longest (block_names k c x vs s), longest_right vs (names s.prefix))

module _ (t : Token) (a b : Side) where
  pub left_name : widest_name a ≤ widest_name (node_side t a b)
  left_name =
      omega (
        arith,
        topped_name t (both_apart a b),
        prefix_grows b.prefix b.matrix [] a.prefix a.matrix,
        matrix_grows b.prefix b.matrix [] a.prefix a.matrix,
        ap longest (names_append (left_apart a b).prefix (right_apart a b).prefix),
        longest_left (names (left_apart a b).prefix) (names (right_apart a b).prefix),
        ap longest (names_append (left_apart a b).matrix (right_apart a b).matrix),
        longest_left (names (left_apart a b).matrix) (names (right_apart a b).matrix),
      )

  pub right_name : widest_name b ≤ widest_name (node_side t a b)
  right_name =
      omega (
        arith,
        topped_name t (both_apart a b),
        prefix_grows [] (left_apart a b).matrix [] b.prefix b.matrix,
        matrix_grows [] (left_apart a b).matrix [] b.prefix b.matrix,
        ap longest (names_append (left_apart a b).prefix (right_apart a b).prefix),
        longest_right (names (left_apart a b).prefix) (names (right_apart a b).prefix),
        ap longest (names_append (left_apart a b).matrix (right_apart a b).matrix),
        longest_right (names (left_apart a b).matrix) (names (right_apart a b).matrix),
      )

  pub node_prefix_length : length (node_side t a b).prefix ≡ length a.prefix + length b.prefix
  node_prefix_length =
      length-append (left_apart a b).prefix (right_apart a b).prefix
      ∙ ap₂ (λ (i j : ℕ). i + j) (walk_prefix_length b.prefix b.matrix [] a.prefix a.matrix) (walk_prefix_length [] (left_apart a b).matrix [] b.prefix b.matrix)

  pub both_matrix_length : length (both_apart a b).matrix ≡ length a.matrix + length b.matrix
  both_matrix_length =
      length-append (left_apart a b).matrix (right_apart a b).matrix
      ∙ ap₂ (λ (i j : ℕ). i + j) (walk_matrix_length b.prefix b.matrix [] a.prefix a.matrix) (walk_matrix_length [] (left_apart a b).matrix [] b.prefix b.matrix)

  pub node_matrix_length : length (node_side t a b).matrix ≡ 1 + (length a.matrix + length b.matrix)
  node_matrix_length = omega (arith, both_matrix_length)
