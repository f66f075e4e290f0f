-- The walk over a side's prefix, one word at a time: what is done stands before `at`, and the walk of what is left gives the rest.
use mathlib.Core.Path.{◌≡◌, refl, sym, ap, ◌∙◌}
use mathlib.Core.List.{List, [], ◌∷◌, ◌++◌, append_assoc, append-nil}
use Prim.Native.Nat.{ℕ, ◌+◌, ◌-◌, ◌≤◌, ◌<◌}
use native.Mathlib.Omega.{arith}
use native.Mathlib.Numerals.{add-one}
use lib.ListN.{length, take, drop, get_or, set, length-map}
use lib.Seq.{slice, slice_empty, slice-cons, length-slice, take-set-le, drop-set-lt}
use Rattle.definitions.specs.Bytes.{Bytes}
use Rattle.definitions.specs.Syntax.{Name}
use Rattle.definitions.specs.Names.{mem}
use Rattle.definitions.specs.Prenex.{longest}
use Rattle.text.specs.Words.{Token, var_token, sign, kind_of_word, spell, token, tokens}
use Rattle.text.specs.WordLaws.{variable_word, other_word}
use Rattle.text.specs.Prefixes.{names}
use Rattle.prenex.specs.Walk.{Side, behind, new_name, renamed, walk}
use Rattle.prenex.specs.Tables.{Ready}
use Rattle.prenex.specs.Renaming.{splice, Bounds, over, Spot, Renames, RenamesAt, Walked, apart_side}
use Rattle.text.specs.PrefixLaws.{names_append}
use Rattle.prenex.proofs.Splices.{slice_more, slice_set, slice_end, as_splice, beside_kept, splice_take, splice_drop, splice_slice}
use Rattle.prenex.proofs.Words.{tokens_at}
use Rattle.prenex.proofs.Place.{put_length}
use Rattle.std.specs.Prelude.{Ok}

behind_behind : (a b : List Token) (s : Side) → behind a (behind b s) ≡ behind (a ++ b) s
behind_behind a b s = ap (λ (l : List Token). record { prefix = l; matrix = s.matrix }) (sym (append_assoc a b s.prefix))

-- a name in the middle is no longer than the longest
longest_mid : (a : List Token) (w : Name) (b : List Token) → length w ≤ longest (names ((a ++ (var_token w ∷ [])) ++ b))
unfolding names longest
longest_mid [] w b = omega arith
longest_mid (var_token y ∷ a) w b = omega (arith, longest_mid a w b)
longest_mid (sign k n s ∷ a) w b = longest_mid a w b

-- where the walk stands: low, at, and what has become of the two tables
pub record Goes (T M : Bytes) (P W : List ℕ) (first last high from to other end : ℕ) (P' W' : List ℕ) (low at : ℕ) : Type 0 where
  pub ready : Ready M P' high W'
  pub lower : first ≤ low
  pub block : low ≤ at
  pub most : at ≤ last
  pub low_prefix : take first (tokens T M P') ≡ take first (tokens T M P)
  pub high_prefix : drop last (tokens T M P') ≡ drop last (tokens T M P)
  pub low_matrix : take from (tokens T M W') ≡ take from (tokens T M W)
  pub high_matrix : drop to (tokens T M W') ≡ drop to (tokens T M W)
  pub goes : apart_side T M P W first last high from to other end
      ≡ behind (slice first at (tokens T M P')) (walk (slice last high (tokens T M P)) (slice other end (tokens T M W))
      (names (slice low at (tokens T M P'))) (slice at last (tokens T M P')) (slice from to (tokens T M W')))

module _ (T : Bytes) (first : ℕ) {M : Bytes} {P W : List ℕ} {last high from to other end : ℕ} (b : Bounds M P W last high from to other end) where
  pub goes_start : first ≤ last → Goes T M P W first last high from to other end P W first first
  unfolding names
  goes_start h = record {
    ready = b.ready;
    lower = omega arith;
    block = omega arith;
    most = h;
    low_prefix = refl;
    high_prefix = refl;
    low_matrix = refl;
    high_matrix = refl;
    goes = rw (slice_empty first (tokens T M P));
  }

  abbrev Q : List Token
  Q = slice last high (tokens T M P)

  abbrev N : List Token
  N = slice other end (tokens T M W)

  module _ {P' W' : List ℕ} {low at : ℕ} (g : Goes T M P W first last high from to other end P' W' low at) (h : at < last) where
    abbrev P̂ : List Token
    P̂ = tokens T M P'

    abbrev Ŵ : List Token
    Ŵ = tokens T M W'

    sized : length P̂ ≡ 1024
    sized = simp length-map g.ready.places.size

    -- the bounds stay as they were
    pub still : Bounds M P' W' last high from to other end
    still = record { ready = g.ready; mine = b.mine; prefix = b.prefix; run = b.run; matrix = b.matrix; others_run = b.others_run; others = b.others; beside = b.beside }

    head : slice at last P̂ ≡ token T M (get_or P' at 0) ∷ slice (at + 1) last P̂
    head = rw (add-one at, slice-cons at last P̂ (token T M 0) h (omega (arith, b.mine, b.prefix, sized)), tokens_at T M P' at)

    -- a block's head
    pub goes_head : (kind_of_word (get_or P' at 0) ≡ 12 → ⊥) → Goes T M P W first last high from to other end P' W' (at + 1) (at + 1)
    unfolding walk names
    goes_head n = record {
      ready = g.ready;
      lower = omega (arith, g.lower, g.block);
      block = omega arith;
      most = omega arith;
      low_prefix = g.low_prefix;
      high_prefix = g.high_prefix;
      low_matrix = g.low_matrix;
      high_matrix = g.high_matrix;
      goes = g.goes ∙ ap (behind (slice first at P̂)) next ∙ behind_behind (slice first at P̂) (token T M (get_or P' at 0) ∷ []) (walk Q N [] (slice (at + 1) last P̂) (slice from to Ŵ)) ∙ rw (run, none_low);
    }
      where
        next : walk Q N (names (slice low at P̂)) (slice at last P̂) (slice from to Ŵ) ≡ behind (token T M (get_or P' at 0) ∷ []) (walk Q N [] (slice (at + 1) last P̂) (slice from to Ŵ))
        next = rw (head, other_word T M (get_or P' at 0) n)

        run : slice first (at + 1) P̂ ≡ slice first at P̂ ++ (token T M (get_or P' at 0) ∷ [])
        run = slice_more first at P̂ (token T M 0) (omega (arith, g.lower, g.block)) (omega (arith, b.mine, b.prefix, sized)) ∙ rw (tokens_at T M P' at)

        none_low : names (slice (at + 1) (at + 1) P̂) ≡ []
        none_low = rw (slice_empty (at + 1) P̂)

    pub spot : kind_of_word (get_or P' at 0) ≡ 12 → Spot M P' W' low at last high from to other end
    spot v = record { bounds = still; block = g.block; before = h; var = v }

    -- a variable, and what `one` says of it
    module _ (v : kind_of_word (get_or P' at 0) ≡ 12) where
      abbrev x : Name
      x = spell T M (get_or P' at 0)

      abbrev S : List Name
      S = names (slice low at P̂)

      abbrev rest : List Token
      rest = slice (at + 1) last P̂

      abbrev m : List Token
      m = slice from to Ŵ

      abbrev w : Name
      w = new_name Q N S x rest m

      kept_prefix : slice last high P̂ ≡ Q
      kept_prefix = beside_kept first last last high (tokens T M P) P̂ (over (omega arith)) g.low_prefix g.high_prefix

      kept_matrix : slice other end Ŵ ≡ N
      kept_matrix = beside_kept from to other end (tokens T M W) Ŵ b.beside g.low_matrix g.high_matrix

      next : walk Q N S (slice at last P̂) m ≡ behind (var_token w ∷ []) (walk Q N (S ++ (w ∷ [])) rest (renamed Q N x w rest m))
      unfolding walk
      next = rw (head, variable_word T M (get_or P' at 0) v)

      whole : apart_side T M P W first last high from to other end ≡ behind (slice first at P̂ ++ (var_token w ∷ [])) (walk Q N (S ++ (w ∷ [])) rest (renamed Q N x w rest m))
      whole = g.goes ∙ ap (behind (slice first at P̂)) next ∙ behind_behind (slice first at P̂) (var_token w ∷ []) _

      pub goes_stop : 24 < length (new_name (slice last high P̂) (slice other end Ŵ) S x rest m) → 24 < longest (names (apart_side T M P W first last high from to other end).prefix)
      goes_stop o = rw whole (omega (arith, moved, longest_mid (slice first at P̂) w (walk Q N (S ++ (w ∷ [])) rest (renamed Q N x w rest m)).prefix))
        where
          moved : 24 < length w
          moved = rw (kept_prefix, kept_matrix) at o

      pub goes_var : {P'' W'' : List ℕ} → RenamesAt T M P' high W' low at last high from to other end P'' W'' x (Ok tt) → Goes T M P W first last high from to other end P'' W'' low (at + 1)
      unfolding names
      goes_var {P''} {W''} o = record {
        ready = k.ready;
        lower = g.lower;
        block = omega (arith, g.block);
        most = omega arith;
        low_prefix = ap (take first) here ∙ take-set-le first P̂ at (var_token w) (omega (arith, g.lower, g.block)) ∙ g.low_prefix;
        high_prefix = ap (drop last) here ∙ drop-set-lt last P̂ at (var_token w) h ∙ g.high_prefix;
        low_matrix = ap (take from) there ∙ splice_take from to Ŵ (renamed Q N x w rest m) b.run fits fitted ∙ g.low_matrix;
        high_matrix = ap (drop to) there ∙ splice_drop from to Ŵ (renamed Q N x w rest m) b.run fits fitted ∙ g.high_matrix;
        goes = whole ∙ rw (run first (omega (arith, g.lower, g.block)), run low g.block, left, names_append, mine);
      }
        where
          k : Renames T M P' high W' at from to P'' W'' w (renamed Q N x w rest m)
          k = rw (kept_prefix, kept_matrix) at o

          here : tokens T M P'' ≡ set P̂ at (var_token w)
          here = k.here

          there : tokens T M W'' ≡ splice from to Ŵ (renamed Q N x w rest m)
          there = k.there

          fits : to ≤ length Ŵ
          fits = simp length-map (omega (arith, g.ready.matrix_size, b.matrix))

          fitted : length (renamed Q N x w rest m) ≡ to - from
          fitted = put_length x w m (mem x (names rest)) ∙ length-slice from to Ŵ fits

          run : (f : ℕ) → f ≤ at → slice f (at + 1) (tokens T M P'') ≡ slice f at P̂ ++ (var_token w ∷ [])
          run f q = ap (slice f (at + 1)) here ∙ slice_end f at (var_token w) P̂ q (omega (arith, b.mine, b.prefix, sized))

          left : slice (at + 1) last (tokens T M P'') ≡ rest
          left = ap (slice (at + 1) last) here ∙ slice_set (at + 1) last at (var_token w) P̂ (omega arith) (omega arith)

          mine : slice from to (tokens T M W'') ≡ renamed Q N x w rest m
          mine = ap (slice from to) there ∙ splice_slice from to Ŵ (renamed Q N x w rest m) b.run fits fitted

  all_read : (a : List Token) (S : List Name) (rest m : List Token) → rest ≡ [] → behind a (walk Q N S rest m) ≡ record { prefix = a; matrix = m }
  unfolding walk
  all_read a S rest m e = rw (e, append-nil)

  pub goes_end : {P' W' : List ℕ} {low at : ℕ} → Goes T M P W first last high from to other end P' W' low at → first ≤ last → last ≤ at
      → Walked T M P high W first last from to P' W' (apart_side T M P W first last high from to other end)
  goes_end {P'} {W'} {low} {at} g f h = record {
    ready = g.ready;
    in_prefix = as_splice first last (tokens T M P) (tokens T M P') f g.low_prefix g.high_prefix ∙ rw ended;
    in_matrix = as_splice from to (tokens T M W) (tokens T M W') b.run g.low_matrix g.high_matrix ∙ rw ended;
  }
    where
      there : at ≡ last
      there = omega (arith, g.most)

      ended : apart_side T M P W first last high from to other end ≡ record { prefix = slice first last (tokens T M P'); matrix = slice from to (tokens T M W') }
      ended = (rw there at g.goes) ∙ all_read (slice first last (tokens T M P')) (names (slice low last (tokens T M P'))) (slice last last (tokens T M P')) (slice from to (tokens T M W')) (slice_empty last (tokens T M P'))
