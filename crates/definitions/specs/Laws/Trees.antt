-- The nodes of trees, one behind another, are planted to those trees again.
use Rattle.std.specs.Prelude.{List, ◌∷◌}
use Rattle.definitions.specs.Syntax.{Terms, nil, cons}
use Rattle.definitions.specs.Reading.{Tree, term_tree}

-- terms as trees, before other trees
abbrev pub term_trees : Terms → List Tree → List Tree
term_trees nil l = l
term_trees (cons t ts) l = term_tree t ∷ term_trees ts l
