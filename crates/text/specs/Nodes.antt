-- Nodes and their words: a node has a word, and the word has the node again (NodeLaws).
use Rattle.std.specs.Prelude.{Bool, true, false, cond, List, [], ◌∷◌, ℕ, ◌%◌, leb, get_or, Option, Some, None}
use Rattle.text.specs.declared.kind.Kind.{Kind}
use Rattle.text.specs.declared.kind.Kind.TheVariants.{Top, Bottom, Not, And, Or, Implies, Iff, Equals, All, Exists, Predicate, Function, Variable, Constant}
use Rattle.text.specs.declared.node.Node.{Node}
use Rattle.text.specs.Kinds.{number}
use Rattle.text.specs.Words.{word_of, kind_of_word, count_of, is_made, size_of, start_of}

-- the kinds before the last, and the kind at a place
abbrev pub kinds : List Kind
kinds = Top ∷ Bottom ∷ Not ∷ And ∷ Or ∷ Implies ∷ Iff ∷ Equals ∷ All ∷ Exists ∷ Predicate ∷ Function ∷ Variable ∷ []

unfoldable pub kind_at : ℕ → Kind
kind_at n = get_or kinds n Constant

abbrev pub origin : Bool → ℕ
origin true = 1
origin false = 0

-- the word of a node, each field cut to its place
abbrev pub packed : Node → ℕ
packed n = word_of (number n.kind) (n.count % 64) (origin n.made) (n.size % 64) (n.start % 4294967296)

-- the node of a word
abbrev pub node_of : ℕ → Node
node_of w = record { kind = kind_at (kind_of_word w); count = count_of w; made = is_made w; start = start_of w; size = size_of w }

abbrev pub unpacked : ℕ → Option Node
unpacked w = cond (leb (kind_of_word w) 13) (Some (node_of w)) None
