-- Names added to a list: nothing, one, and one list after another.
use Rattle.std.specs.Prelude.{◌≡◌, true, false, List, [], ◌∷◌, map, ℕ, ◌+◌, ◌<◌, length, take, set}
use Rattle.std.proofs.Common.{sym, ap, ◌∙◌, arith, add-one, append-nil}
use Rattle.std.proofs.Math.Seq.{take-suc-set}
use Rattle.std.proofs.lemmas.List.{map-append}
use Rattle.definitions.specs.Bytes.{Bytes}
use Rattle.definitions.specs.Syntax.{Name}
use Rattle.definitions.specs.Names.{mem, filter, union, keep}
use Rattle.text.specs.Words.{var_token, token, tokens, spell, kind_of_word}
use Rattle.text.specs.WordLaws.{variable_word, other_word}
use Rattle.substitution.specs.Runs.{spells, Adds, Notes}
use Rattle.substitution.specs.Unions.{nothing_union, union_assoc, keep_union}
use Rattle.substitution.specs.Spelled.{vars_spelled}
use Rattle.substitution.specs.Keeping.{keeps_all, keeps_put}

module _ {T M : Bytes} {N O : List ℕ} {used : ℕ} where
  pub adds_none : Adds T M N O used O used []
  unfolding filter
  adds_none = record { list = λ l e. rw (nothing_union l) e }

  pub adds_on : {O₁ : List ℕ} {u₁ : ℕ} {O₂ : List ℕ} {u₂ : ℕ} {a b : List Name} → Adds T M N O used O₁ u₁ a → Adds T M N O₁ u₁ O₂ u₂ b → Adds T M N O used O₂ u₂ (union a b)
  adds_on {a = a} {b = b} f g =
      record {
        list = λ l e. g.list (union l (keep (spells T M N) a)) (f.list l e) ∙ ap (map var_token) (union_assoc l (keep (spells T M N) a) (keep (spells T M N) b) ∙ ap (union l) (sym (keep_union (spells T M N) a b)));
      }

-- a word that is no variable, a variable that is not asked for, one that is there, and one that is not
module _ {T M : Bytes} {N O : List ℕ} {used word : ℕ} where
  pub no_variable : (kind_of_word word ≡ 12 → ⊥) → Notes T M N word O used O used
  no_variable h = record { keeps = keeps_all; short = omega arith; adds = rw (other_word T M word h) adds_none }

  module _ (kind : kind_of_word word ≡ 12) where
    pub unasked_variable : false ≡ mem (spell T M word) (spells T M N) → Notes T M N word O used O used
    unfolding filter
    unasked_variable f = record { keeps = keeps_all; short = omega arith; adds = rw (variable_word T M word kind) (record { list = λ l e. rw (sym f, append-nil l) e }) }

    module _ (asked : true ≡ mem (spell T M word) (spells T M N)) where
      pub known_variable : true ≡ mem (spell T M word) (spells T M (take used O)) → Notes T M N word O used O used
      unfolding filter
      known_variable f =
          record {
            keeps = keeps_all;
            short = omega arith;
            adds = rw (variable_word T M word kind) (record { list = λ l e. rw (sym asked, sym (f ∙ ap (mem (spell T M word)) (vars_spelled T M (take used O) l e)), append-nil l) e });
          }

      pub new_variable : used < length O → false ≡ mem (spell T M word) (spells T M (take used O)) → Notes T M N word O used (set O used word) (used + 1)
      unfolding filter
      new_variable k f =
          record {
            keeps = keeps_put;
            short = omega arith;
            adds =
                rw (variable_word T M word kind) (record {
                  list = λ l e. ap (tokens T M) (rw add-one (take-suc-set O used word k)) ∙ map-append (token T M) (take used O) (word ∷ [])
                      ∙ rw (e, variable_word T M word kind, sym asked, sym (f ∙ ap (mem (spell T M word)) (vars_spelled T M (take used O) l e))) (sym (map-append var_token l (spell T M word ∷ [])));
                });
          }
