-- The variables among tokens, and among those of a prefix.
use Rattle.std.specs.Prelude.{◌≡◌, refl, List, [], ◌∷◌, ◌++◌, map}
use Rattle.std.proofs.Common.{ap, ◌∙◌}
use Rattle.definitions.specs.Syntax.{Name}
use Rattle.definitions.specs.Prenex.{Prefix, plain, more}
use Rattle.definitions.specs.Skolem.{binders}
use Rattle.text.specs.Words.{Token, var_token, sign}
use Rattle.text.specs.Prefixes.{names, prefix_code}

pub names_append : (a b : List Token) → names (a ++ b) ≡ names a ++ names b
unfolding names
names_append [] b = refl
names_append (var_token x ∷ a) b = ap (x ∷◌) (names_append a b)
names_append (sign k n s ∷ a) b = names_append a b

pub names_vars : (vs : List Name) → names (map var_token vs) ≡ vs
unfolding names
names_vars [] = refl
names_vars (v ∷ vs) = ap (v ∷◌) (names_vars vs)

-- those that the blocks bind
pub prefix_names : (p : Prefix) → names (prefix_code p) ≡ binders p
unfolding names prefix_code binders
prefix_names plain = refl
prefix_names (more q vs p) = names_append (map var_token vs) (prefix_code p) ∙ rw (names_vars vs, prefix_names p)
