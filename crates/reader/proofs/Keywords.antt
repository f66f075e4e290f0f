-- Keywords by their bytes: the word that a kind's line begins with, and what is none of these words.
use Rattle.std.proofs.Common.{◌≡◌, refl, ap, ◌∙◌, [], ◌∷◌, length, false}
use Rattle.std.proofs.lemmas.Slice.Eq.{HasBytesAt, text_from_reads}
use Rattle.definitions.specs.Bytes.{Bytes, same}
use Rattle.definitions.specs.Reading.{keywords, look_up}
use Rattle.definitions.proofs.Laws.Bools.{by_cases}
use Rattle.definitions.proofs.Laws.Sets.{same_eq}
use Rattle.text.specs.declared.kind.Kind.{Kind}
use Rattle.text.specs.declared.kind.Kind.TheVariants.{Top, Bottom, Not, And, Or, Implies, Iff, Equals, All, Exists, Predicate, Function, Variable, Constant}
use Rattle.reader.specs.Lines.{keyword_of, Named, Unnamed}

abbrev pub spelling : Kind → Bytes
spelling Top = 116 ∷ 111 ∷ 112 ∷ []
spelling Bottom = 98 ∷ 111 ∷ 116 ∷ []
spelling Not = 110 ∷ 111 ∷ 116 ∷ []
spelling And = 97 ∷ 110 ∷ 100 ∷ []
spelling Or = 111 ∷ 114 ∷ []
spelling Implies = 105 ∷ 109 ∷ 112 ∷ []
spelling Iff = 105 ∷ 102 ∷ 102 ∷ []
spelling Equals = 101 ∷ 113 ∷ []
spelling All = 97 ∷ 108 ∷ 108 ∷ []
spelling Exists = 101 ∷ 120 ∷ []
spelling Predicate = 112 ∷ 114 ∷ 101 ∷ 100 ∷ []
spelling Function = 102 ∷ 117 ∷ 110 ∷ []
spelling Variable = 118 ∷ 97 ∷ 114 ∷ []
spelling Constant = 99 ∷ 111 ∷ 110 ∷ []

-- w is the word p, byte for byte
abbrev pub Spelled : Bytes → Bytes → Type 0
Spelled w p = (length w ≡ length p) × HasBytesAt w 0 p

meaning : (kind : Kind) → look_up keywords (spelling kind) ≡ keyword_of kind
unfolding look_up same
meaning Top = refl
meaning Bottom = refl
meaning Not = refl
meaning And = refl
meaning Or = refl
meaning Implies = refl
meaning Iff = refl
meaning Equals = refl
meaning All = refl
meaning Exists = refl
meaning Predicate = refl
meaning Function = refl
meaning Variable = refl
meaning Constant = refl

pub named : (w : Bytes) (kind : Kind) → Spelled w (spelling kind) → Named w kind
named w kind h = record { meaning = ap (look_up keywords) (text_from_reads w (spelling kind) h.0 h.1) ∙ meaning kind }

differs : (w p : Bytes) → Spelled p p → (Spelled w p → ⊥) → same w p ≡ false
differs w p s h = by_cases (same w p) (λ t. absurd (h (rw (same_eq w p t) s))) (λ f. f)

pub unnamed : (w : Bytes) → (Spelled w (spelling Top) → ⊥)
    → (Spelled w (spelling Bottom) → ⊥)
    → (Spelled w (spelling Not) → ⊥)
    → (Spelled w (spelling And) → ⊥)
    → (Spelled w (spelling Or) → ⊥)
    → (Spelled w (spelling Implies) → ⊥)
    → (Spelled w (spelling Iff) → ⊥)
    → (Spelled w (spelling Equals) → ⊥)
    → (Spelled w (spelling All) → ⊥)
    → (Spelled w (spelling Exists) → ⊥)
    → (Spelled w (spelling Predicate) → ⊥)
    → (Spelled w (spelling Function) → ⊥)
    → (Spelled w (spelling Variable) → ⊥)
    → (Spelled w (spelling Constant) → ⊥) → Unnamed w
unfolding look_up
unnamed w h0 h1 h2 h3 h4 h5 h6 h7 h8 h9 h10 h11 h12 h13 =
    record {
      meaning = rw (
        differs w (spelling Top) (refl, (refl, (refl, (refl, tt)))) h0,
        differs w (spelling Bottom) (refl, (refl, (refl, (refl, tt)))) h1,
        differs w
            (spelling Not) (refl, (refl, (refl, (refl, tt)))) h2,
        differs w (spelling And) (refl, (refl, (refl, (refl, tt)))) h3,
        differs w (spelling Or)
            (refl, (refl, (refl, tt))) h4,
        differs w (spelling Implies) (refl, (refl, (refl, (refl, tt)))) h5,
        differs w (spelling Iff)
            (refl, (refl, (refl, (refl, tt)))) h6,
        differs w (spelling Equals) (refl, (refl, (refl, tt))) h7,
        differs w (spelling All)
            (refl, (refl, (refl, (refl, tt)))) h8,
        differs w (spelling Exists) (refl, (refl, (refl, tt))) h9,
        differs w (spelling Predicate)
            (refl, (refl, (refl, (refl, (refl, tt))))) h10,
        differs w (spelling Function) (refl, (refl, (refl, (refl, tt)))) h11,
        differs w
            (spelling Variable) (refl, (refl, (refl, (refl, tt)))) h12,
        differs w (spelling Constant) (refl, (refl, (refl, (refl, tt)))) h13,
      );
    }
