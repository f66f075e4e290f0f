-- What stage 2 makes of the words S: prefix and matrix of the prenex form, or refusal 7 or 6.
-- It asks for words that begin with a formula's, which all point into the rule text, and for made names with a slot for each word of a prefix.
use Rattle.std.specs.Prelude.{Bool, true, false, ◌&&◌, eqb, ltb, List, ◌++◌, ◌≡◌, ℕ, ◌*◌, ◌≤◌, ◌<◌, length, drop, get_or, Result, Ok, Err, MatchResult}
use Rattle.definitions.specs.Bytes.{Bytes}
use Rattle.definitions.specs.Limits.{house}
use Rattle.definitions.specs.Syntax.{Formula, weight}
use Rattle.definitions.specs.Prenex.{Prenex, formula, outward}
use Rattle.definitions.specs.Convert.{too_long}
use Rattle.text.specs.Words.{Token, kind_of_word, spell, tokens, code, is_made}
use Rattle.text.specs.Prefixes.{Apart}
use Rattle.text.specs.declared.table.Table.{Table}
use Rattle.prenex.specs.Tables.{slot_size}
use Rattle.prenex.specs.declared.Prenexed.{Prenexed}
use Rattle.prenex.specs.declared.Unmade.{Unmade}
use Rattle.prenex.specs.declared.Fate.{Fate}
use Rattle.prenex.specs.declared.write.Stop.{Stop}
use Rattle.prenex.specs.declared.write.Stop.TheVariants as Stops
use Rattle.prenex.specs.declared.Fate.TheVariants.{Heavy, Long, Unfit}

-- the bytes that the made names may take
abbrev pub made_size : ℕ
made_size = slot_size * house.weight

-- no form, 7 before 6: it weighs too much, or it does not and has a name over the limit
abbrev pub Fails : Fate → Prenex → Type 0
Fails Heavy p = house.weight < weight (formula p)
Fails Long p = (weight (formula p) ≤ house.weight) × (too_long house (formula p) ≡ true)
Fails Unfit p = ⊥

-- how the stage ends for a form p: it is in the two tables, or there is none
abbrev pub Outcome : Bytes → Bytes → Result Prenexed Unmade → Prenex → Type 0
Outcome T M (Ok q) p = (weight (formula p) ≤ house.weight) × (too_long house (formula p) ≡ false) × Apart T M q.made q.prefix q.matrix p
Outcome T M (Err u) p = Fails u.fate p

-- a walk that stops
abbrev pub fate_of : Stop → Fate
fate_of Stops.Unfit = Unfit
fate_of Stops.Long = Long

-- the word w is a variable with a name over the limit
abbrev pub long_variable : Bytes → Bytes → ℕ → Bool
long_variable T M w = eqb (kind_of_word w) 12 && ltb house.name (length (spell T M w))

-- what two tables that are lent, and an answer beside them, say together
abbrev pub held : Result ℕ Unmade → Table → Table → Result Prenexed Unmade
held (Ok n) prefix matrix = Ok (record { prefix = prefix; matrix = matrix; made = n })
held (Err u) prefix matrix = Err u

-- how many bytes of the made names are used, with a form or without
abbrev pub written : Result Prenexed Unmade → ℕ
written (Ok p) = p.made
written (Err u) = u.made

pub record Prenexes (T M : Bytes) (S : List ℕ) (M' : Bytes) (r : Result Prenexed Unmade) : Type 0 where
  -- whatever the words are: the made names are the first bytes of what was lent for them, and all else is as it was
  pub size : length M' ≡ length M
  pub count : written r ≤ made_size
  pub behind : drop (written r) M' ≡ drop (written r) M
  pub room : MatchResult r (λ p. (p.prefix.used ≤ house.weight) × (p.matrix.used ≤ house.weight)) (λ e. Unit)
  pub unfit : length M < made_size → r ≡ Err (record { made = 0; fate = Unfit })
  -- a formula that they begin with, whatever stands behind it, if they are no more than a table has
  pub form : made_size ≤ length M → length S ≤ house.weight → (N : Bytes) (f : Formula) (rest : List Token) → tokens T N S ≡ code f ++ rest
      → ((i : ℕ) → i < weight f → is_made (get_or S i 0) ≡ false) → Outcome T M' r (outward f)
