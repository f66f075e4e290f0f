-- From a conversion's promise to that of a call.
use mathlib.Core.Path.{◌≡◌, ap, ◌∙◌}
use Prim.Native.Nat.{ℕ}
use Rattle.definitions.specs.Bytes.{Bytes}
use Rattle.definitions.specs.Convert.{Conversion}
use Rattle.convert.specs.Answers.{meaning, number_of, place_of, Meets}
use Rattle.std.specs.Prelude.{Result}
use Rattle.convert.specs.declared.Refusal.{Refusal}
use Rattle.exports.specs.Calls.{Calls}

pub told
    : {c : Conversion} {text out work out' work' : Bytes} {r : Result ℕ Refusal} {number place : ℕ}
    → Meets c text out work r out' work'
    → number ≡ number_of (meaning r)
    → place ≡ place_of (meaning r)
    → Calls c text out work number place out' work'
told m n p = record { numbers = n ∙ ap number_of m.answers; places = p ∙ ap place_of m.answers; lays = m.lays; clears = m.clears }
