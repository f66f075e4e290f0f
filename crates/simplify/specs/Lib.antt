-- Simplify (source document 005, stage 1) over node tables: constants vanish by the usual laws; a double negation goes; an implication to
-- bottom, or an iff with it, becomes the other part's simplified negation; a block keeps its body's free variables that it binds, in the
-- body's order, and vanishes if none is left. The form itself is `simplify` of the definitions.
pub mod Parts
pub mod Stage
