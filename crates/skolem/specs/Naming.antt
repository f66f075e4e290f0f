-- Names drawn and written behind the made names.
use Rattle.std.specs.Prelude.{◌≡◌, List, ℕ, ◌+◌, ◌*◌, ◌≤◌, ◌<◌, length, take, drop, Option, MatchOption, Result, MatchResult}
use Rattle.definitions.specs.Bytes.{Bytes}
use Rattle.definitions.specs.Syntax.{Name}
use Rattle.text.specs.Words.{token, tokens, spell, kind_of_word, count_of}
use Rattle.skolem.specs.declared.counters.Counters.{Counters}
use Rattle.skolem.specs.declared.heads.Named.{Named}
use Rattle.skolem.specs.declared.heads.Entitled.{Entitled}
use Rattle.skolem.specs.declared.Fate.TheVariants.{NoRoom}
use Rattle.skolem.specs.declared.Unmade.{Unmade}
use Rattle.skolem.specs.Counting.{last_number, counts_of}
use Rattle.skolem.specs.Pass.{entitled, moved, named, drawn_after}

-- the bytes of the longest name
abbrev pub longest : ℕ
longest = 7

-- where a name cannot start any more
abbrev pub far : ℕ
far = 4294967296

-- the made names grow from `at` to `end`: nothing else changes
pub record Grown (M : Bytes) (at : ℕ) (M' : Bytes) (end : ℕ) : Type 0 where
  pub size : length M' ≡ length M
  pub on : at ≤ end
  pub front : take at M' ≡ take at M
  pub back : drop end M' ≡ drop end M

-- room for n names of which none has a number past the last
pub record Roomy (M : Bytes) (at n : ℕ) (k : Counters) : Type 0 where
  pub bytes : at + longest * n ≤ length M
  pub near : at + longest * n ≤ far
  pub constants : k.constants + n ≤ last_number + 1
  pub functions : k.functions + n ≤ last_number + 1

-- no room for n names: the made names grow at most by those before the one that has none
pub record Lacks (M : Bytes) (at n : ℕ) (k : Counters) (M' : Bytes) (u : Unmade) : Type 0 where
  pub grown : Grown M at M' u.made
  pub short : u.made ≤ at + longest * n
  pub fate : u.fate ≡ NoRoom
  pub lack : Roomy M at n k → ⊥

-- whatever follows the made names, the word is spelled by the name
pub record IsNamed (M : Bytes) (at : ℕ) (s : Name) (number head : ℕ) (M' : Bytes) (r : Named) : Type 0 where
  pub grown : Grown M at M' r.at
  pub short : r.at ≤ at + longest
  pub within : number ≤ last_number
  pub kind : kind_of_word r.word ≡ kind_of_word head
  pub count : count_of r.word ≡ count_of head
  pub spelled : (T M'' : Bytes) → take r.at M'' ≡ take r.at M' → spell T M'' r.word ≡ s

-- a name is written, or nothing, for want of room
abbrev pub Names : Bytes → ℕ → Name → ℕ → ℕ → Bytes → Option Named → Type 0
Names M at s number head M' r =
    MatchOption r ((M' ≡ M) × (at + longest ≤ length M → at < far → number ≤ last_number → ⊥)) (λ n. IsNamed M at s number head M' n)

pub record IsEntitled (M : Bytes) (at word : ℕ) (k : Counters) (M' : Bytes) (r : Entitled) : Type 0 where
  pub grown : Grown M at M' r.at
  pub short : r.at ≤ at + longest
  pub head : (T M'' : Bytes) → take r.at M'' ≡ take r.at M' → token T M'' r.word ≡ entitled (counts_of k) (token T M'' word)
  pub counters : (T M : Bytes) → counts_of r.counters ≡ moved (counts_of k) (token T M word)

abbrev pub Entitles : Bytes → ℕ → ℕ → Counters → Bytes → Result Entitled Unmade → Type 0
Entitles M at word k M' r = MatchResult r (λ e. IsEntitled M at word k M' e) (λ u. Lacks M at 1 k M' u)

pub record AreNamed (H : List ℕ) (M : Bytes) (at : ℕ) (k : Counters) (H' : List ℕ) (M' : Bytes) (end : ℕ) (k' : Counters) : Type 0 where
  pub grown : Grown M at M' end
  pub short : end ≤ at + longest * length H
  pub heads : (T M'' : Bytes) → take end M'' ≡ take end M' → tokens T M'' H' ≡ named (counts_of k) (tokens T M'' H)
  pub counters : (T M : Bytes) → counts_of k' ≡ drawn_after (counts_of k) (tokens T M H)

abbrev pub NamesAll : List ℕ → Bytes → ℕ → Counters → List ℕ → Bytes → Result (ℕ × Counters) Unmade → Type 0
NamesAll H M at k H' M' r = MatchResult r (λ e. AreNamed H M at k H' M' e.0 e.1) (λ u. Lacks M at (length H) k M' u)
