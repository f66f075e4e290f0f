-- The scope with one word more, and whether a name is bound in a stretch.
use mathlib.Core.Path.{◌≡◌, refl}
use mathlib.Core.Bool.{◌||◌}
use mathlib.Core.List.{List, [], ◌∷◌}
use Prim.Native.Nat.{ℕ, ◌+◌, ◌≤◌, ◌<◌}
use native.Mathlib.Numerals.{add-one}
use native.Mathlib.Omega.{arith}
use borrow.Author.Tests.{lt-ltb, le-ltb}
use lib.ListN.{length, take, set, length-take}
use lib.Seq.{take-suc-set}
use Rattle.std.specs.List.{list_any}
use Rattle.definitions.specs.Bytes.{Bytes}
use Rattle.definitions.specs.Syntax.{Name}
use Rattle.definitions.specs.Names.{mem}
use Rattle.text.specs.Words.{Token, var_token, sign, token, tokens}
use Rattle.text.specs.Prefixes.{names}
use Rattle.skolem.specs.Pass.{most, push, binds}

mem_names : (x : Name) (t : Token) (l : List Token) → mem x (names (t ∷ l)) ≡ (binds x t || mem x (names l))
unfolding mem names
mem_names x (var_token y) l = refl
mem_names x (sign k n s) l = refl

pub mem_any : (T M : Bytes) (x : Name) (ws : List ℕ) → mem x (names (tokens T M ws)) ≡ list_any (λ w. binds x (token T M w)) ws
unfolding mem names
mem_any T M x [] = refl
mem_any T M x (w ∷ ws) = rw (mem_names x (token T M w) (tokens T M ws), mem_any T M x ws)

-- the scope
pub push_full : (S : List ℕ) (n w : ℕ) → n ≤ length S → most ≤ n → take n S ≡ push (take n S) w
unfolding push
push_full S n w f h = rw (le-ltb (length (take n S)) most (simp length-take (omega arith)))

pub push_one : (S : List ℕ) (n w : ℕ) → n < length S → n < most → take (n + 1) (set S n w) ≡ push (take n S) w
unfolding push
push_one S n w f h = rw (add-one n, take-suc-set S n w f, lt-ltb (length (take n S)) most (simp length-take (omega arith)))
