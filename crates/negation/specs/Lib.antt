-- Negation form (source document 002, stage 4) over node tables. In document 01's words: it does not simplify first. A negation is handed
-- to the second routine, which hands its parts back to the first. Iff becomes (¬a ∨ b) ∧ (a ∨ ¬b); its negation (a ∧ ¬b) ∨ (¬a ∧ b).
-- Implies becomes ¬a ∨ b, its negation a ∧ ¬b; a negated and, or, block or constant turns into its opposite. Constants inside stay.
-- The definition is `nnf` of the crate `definitions`; here is said what a run over tables does, and what the stage gives.
pub mod Runs
pub mod Stage
