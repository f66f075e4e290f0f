-- What looks at a table tell: whether one of its words passes a test, where the blocks of its formula end, and what its two parts hold.
use mathlib.Core.Path.{◌≡◌, refl, sym, ap, ◌∙◌}
use mathlib.Core.Bool.{Bool, true, false, not}
use mathlib.Core.List.{List, [], ◌∷◌, map}
use Prim.Native.Nat.{ℕ, zero, suc, ◌+◌, ◌-◌, ◌%◌, ◌≤◌, ◌<◌, min}
use native.Mathlib.Omega.{arith}
use borrow.Author.Tests.{leb-true}
use lib.Dec.{eqb, leb}
use lib.ListN.{length, take, drop, get_or, length-map, length-drop, take-append-drop, drop_of_length-le}
use lib.Seq.{drop-cons, drop-drop, take_at, drop_at}
use Rattle.std.specs.List.{list_any}
use Rattle.definitions.specs.Bytes.{Bytes}
use Rattle.definitions.specs.Syntax.{Name, Formula}
use Rattle.definitions.specs.Prenex.{parted}
use Rattle.definitions.specs.Skolem.{holds_hash, hash_free}
use Rattle.definitions.proofs.Laws.Bools.{and_true_right}
use Rattle.text.specs.Words.{Token, token, tokens, kind_of_word, count_of, code, kind}
use Rattle.text.specs.WordLaws.{other_word, kind_is, map_take, map_drop}
use Rattle.text.specs.Prefixes.{prefix_code}
use Rattle.skolem.specs.declared.shape.Shape.TheVariants.{Skolem, Prenex, Other}
use Rattle.skolem.specs.Shape.{between, blocks_size, hashed, Shaped, Splits}
use Rattle.skolem.proofs.ShapeLaws.{block_token, exists_token, code_parted, blocks_size_read, other_shape, prenex_shape, skolem_shape, hash_read}

any_map : {A B : Type 0} (p : B → Bool) (f : A → B) (l : List A) → list_any p (map f l) ≡ list_any (λ a. p (f a)) l
any_map p f [] = refl
any_map p f (a ∷ l) = rw (any_map p f l)

any_same : {A : Type 0} (p q : A → Bool) → ((a : A) → p a ≡ q a) → (l : List A) → list_any p l ≡ list_any q l
any_same p q h [] = refl
any_same p q h (a ∷ l) = rw (h a, any_same p q h l)

-- words by their kinds are tokens by theirs
kinds_read : (T M : Bytes) (low high : ℕ) (ws : List ℕ) → list_any (λ w. between low high (kind_of_word w)) ws ≡ list_any (λ t. between low high (kind t)) (tokens T M ws)
kinds_read T M low high ws =
    any_same (λ w. between low high (kind_of_word w)) (λ w. between low high (kind (token T M w))) (λ w. ap (between low high) (sym (kind_is T M w))) ws
    ∙ sym (any_map (λ t. between low high (kind t)) (token T M) ws)

-- `#` in a name
pub hash_any : (s : Name) → list_any (λ b. eqb b 35) s ≡ holds_hash s
unfolding holds_hash
hash_any [] = refl
hash_any (b ∷ s) = rw (hash_any s)

pub hash_told : (T M : Bytes) (ws : List ℕ) {b : Bool} → b ≡ list_any (λ w. hashed (token T M w)) ws → (f : Formula) → tokens T M ws ≡ code f → b ≡ not (hash_free f)
hash_told T M ws h f c = h ∙ sym (any_map hashed (token T M) ws) ∙ ap (list_any hashed) c ∙ hash_read f

-- Where the blocks end, as far as `end`: a block's entries are passed at once, and may go past the end of the words.
past_entries : (n : ℕ) (l : List Token) → blocks_size n l ≡ min n (length l) + blocks_size 0 (drop n l)
unfolding blocks_size
past_entries zero l = omega arith
past_entries (suc n) [] = omega arith
past_entries (suc n) (t ∷ l) = omega (arith, past_entries n l)

abbrev pub Ends : List ℕ → ℕ → Type 0
Ends ws end = (T M : Bytes) → min end (length ws) + blocks_size 0 (tokens T M (drop end ws)) ≡ blocks_size 0 (tokens T M ws)

module _ (ws : List ℕ) (end : ℕ) (g : Ends ws end) where
  abbrev w : ℕ
  w = get_or ws end 0

  next : (T M : Bytes) → end < length ws → tokens T M (drop end ws) ≡ token T M w ∷ tokens T M (drop (suc end) ws)
  next T M h = ap (tokens T M) (drop-cons ws end 0 h)

  pub ends_on : end < length ws → between 8 9 (w % 16) ≡ true → Ends ws (end + (1 + count_of w))
  unfolding blocks_size
  ends_on h b T M =
      let no_var : w % 16 ≡ 12 → ⊥ = λ q. omega (arith, leb-true (w % 16) 9 (and_true_right (leb 8 (w % 16)) (leb (w % 16) 9) b)) in
      let l : List Token = tokens T M (drop (suc end) ws) in
      let old : min end (length ws) + blocks_size 0 (token T M w ∷ l) ≡ blocks_size 0 (tokens T M ws) = rw (next T M h) at (g T M) in
      let step : min end (length ws) + suc (blocks_size (count_of w) l) ≡ blocks_size 0 (tokens T M ws) = rw (other_word T M w no_var, b) at old in
      let rest : drop (count_of w) l ≡ tokens T M (drop (end + (1 + count_of w)) ws) =
      sym (map_drop (token T M) (count_of w) (drop (suc end) ws)) ∙ ap (tokens T M) (drop-drop (count_of w) (suc end) ws ∙ ap (λ (k : ℕ). drop k ws) (ahead end (count_of w))) in
      let long : length l ≡ length ws - suc end = length-map (drop (suc end) ws) (token T M) ∙ length-drop (suc end) ws in
      omega (arith, past_entries (count_of w) l, long, ap (blocks_size 0) rest)
    where
      ahead : (e n : ℕ) → suc e + n ≡ e + (1 + n)
      ahead e n = omega arith

  pub ends_here : end < length ws → between 8 9 (w % 16) ≡ false → (T M : Bytes) → min end (length ws) ≡ blocks_size 0 (tokens T M ws)
  unfolding blocks_size
  ends_here h b T M =
      let old : min end (length ws) + blocks_size 0 (token T M w ∷ tokens T M (drop (suc end) ws)) ≡ blocks_size 0 (tokens T M ws) = rw (next T M h) at (g T M) in
      omega (arith, rw (kind_is T M w, b) at old)

  pub ends_last : length ws ≤ end → (T M : Bytes) → min end (length ws) ≡ blocks_size 0 (tokens T M ws)
  unfolding blocks_size
  ends_last h T M = omega (arith, rw (drop_of_length-le ws h) at (g T M))

-- The words of the blocks and of the matrix.
module _ {W B X : List ℕ} {start : ℕ} (ends : (T M : Bytes) → start ≡ blocks_size 0 (tokens T M W)) (b : B ≡ take start W) (x : X ≡ drop start W) where
  pub parts_told : Splits W B X
  parts_told = record {
    whole = rw (b, x) (sym (take-append-drop start W));
    parts = λ T M f c.
        let p = (parted f).prefix in let m = (parted f).matrix in
        let read : length (prefix_code p) ≡ start = sym (ends T M ∙ ap (blocks_size 0) c ∙ blocks_size_read f) in record {
          blocks = ap (tokens T M) b ∙ map_take (token T M) start W ∙ ap (take start) (c ∙ code_parted f) ∙ take_at (prefix_code p) (code m) start read;
          body = ap (tokens T M) x ∙ map_drop (token T M) start W ∙ ap (drop start) (c ∙ code_parted f) ∙ drop_at (prefix_code p) (code m) start read;
        };
  }

-- The shape that looks at the two parts tell.
module _ {W B X : List ℕ} (s : Splits W B X) (T M : Bytes) (f : Formula) (c : tokens T M W ≡ code f) where
  matrix_told : {b : Bool} → b ≡ list_any (λ w. between 8 9 (kind_of_word w)) X → list_any block_token (code (parted f).matrix) ≡ b
  matrix_told h = sym (h ∙ kinds_read T M 8 9 X ∙ ap (list_any block_token) (s.parts T M f c).body)

  prefix_told : {b : Bool} → b ≡ list_any (λ w. between 9 9 (kind_of_word w)) B → list_any exists_token (prefix_code (parted f).prefix) ≡ b
  prefix_told h = sym (h ∙ kinds_read T M 9 9 B ∙ ap (list_any exists_token) (s.parts T M f c).blocks)

  pub other_told : {b : Bool} → b ≡ list_any (λ w. between 8 9 (kind_of_word w)) X → b ≡ true → Shaped f Other
  other_told h t = other_shape f (matrix_told h ∙ t)

  pub prenex_told : {b e : Bool} → b ≡ list_any (λ w. between 8 9 (kind_of_word w)) X → b ≡ false → e ≡ list_any (λ w. between 9 9 (kind_of_word w)) B → e ≡ true
      → Shaped f Prenex
  prenex_told h t k u = prenex_shape f (matrix_told h ∙ t) (prefix_told k ∙ u)

  pub skolem_told : {b e : Bool} → b ≡ list_any (λ w. between 8 9 (kind_of_word w)) X → b ≡ false → e ≡ list_any (λ w. between 9 9 (kind_of_word w)) B → e ≡ false
      → Shaped f Skolem
  skolem_told h t k u = skolem_shape f (matrix_told h ∙ t) (prefix_told k ∙ u)
