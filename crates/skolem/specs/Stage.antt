-- What stage 3 makes of a prenex form in two lists of words, from given counters: its Skolem form in two tables, or refusal 7 where that is too
-- large.
use Rattle.std.specs.Prelude.{◌≡◌, true, false, List, ℕ, ◌+◌, ◌*◌, ◌≤◌, length, Result, Ok, Err, MatchResult}
use Rattle.definitions.specs.Bytes.{Bytes}
use Rattle.definitions.specs.Limits.{house}
use Rattle.definitions.specs.Prenex.{Prenex}
use Rattle.definitions.specs.Skolem as form
use Rattle.definitions.specs.Skolem.{skolemise, skolem_formula}
use Rattle.definitions.specs.Convert.{too_large}
use Rattle.text.specs.Words.{tokens}
use Rattle.text.specs.declared.table.Table.{Table}
use Rattle.text.specs.Tables.{words_of, Holds}
use Rattle.text.specs.Prefixes.{prefix_code}
use Rattle.skolem.specs.declared.counters.Counters.{Counters}
use Rattle.skolem.specs.declared.Fate.{Fate}
use Rattle.skolem.specs.declared.Fate.TheVariants.{Heavy, NoRoom}
use Rattle.skolem.specs.declared.Skolemised.{Skolemised}
use Rattle.skolem.specs.declared.Unmade.{Unmade}
use Rattle.skolem.specs.Counting.{counts_of}
use Rattle.skolem.specs.Naming.{longest, Grown, Roomy}
use Rattle.skolem.specs.Parts.{Parts}

-- a form s in the two tables O and Q
pub record Made (T M' : Bytes) (O Q : Table) (r : Skolemised) (s : form.Skolemised) : Type 0 where
  pub small : too_large house (skolem_formula s) ≡ false
  pub blocks : tokens T M' (words_of O) ≡ prefix_code s.prefix
  pub body : Holds T M' Q s.matrix
  pub after : counts_of r.counters ≡ s.after

-- no form: s weighs over 1,024 or has a function of more than 32 arguments; or the buffer or the counters have no room for a table of names
abbrev pub Fails : Bytes → ℕ → Counters → Fate → Counters → form.Skolemised → Type 0
Fails M used k Heavy k' s = (too_large house (skolem_formula s) ≡ true) × (counts_of k' ≡ s.after)
Fails M used k NoRoom k' s = Roomy M used house.weight k → ⊥

-- how the stage ends for a form s
abbrev pub Outcome : Bytes → Bytes → ℕ → Counters → Bytes → Table → Table → Result Skolemised Unmade → form.Skolemised → Type 0
Outcome T M used k M' O Q r s = MatchResult r (λ m. Made T M' O Q m s) (λ u. Fails M used k u.fate u.counters s)

-- where the made names end, with a form or without
abbrev pub made_end : Result Skolemised Unmade → ℕ
made_end (Ok m) = m.made
made_end (Err u) = u.made

pub record Skolemises (T M : Bytes) (used : ℕ) (k : Counters) (P X : List ℕ) (O Q : Table) (M' : Bytes) (O' Q' : Table)
    (r : Result Skolemised Unmade) : Type 0 where
  -- whatever the words are: only bytes behind the first `used` are written, up to where the made names end
  pub grown : Grown M used M' (made_end r)
  pub short : made_end r ≤ used + longest * house.weight
  -- with a form or without, the lent tables O and Q stay as long as they were, and count no more words than a table has
  pub blocks_size : length O'.nodes ≡ length O.nodes
  pub body_size : length Q'.nodes ≡ length Q.nodes
  pub room : (O'.used ≤ house.weight) × (Q'.used ≤ house.weight)
  -- a prenex form of the words P and X
  pub form : (p : Prenex) → Parts T M used P X p → Outcome T M used k M' O' Q' r (skolemise p (counts_of k))
