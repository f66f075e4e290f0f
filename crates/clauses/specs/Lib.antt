-- Clauses (source documents 003, 004, 006, stage 5): the matrix in negation form is distributed; a clause is a set of literals, the result
-- a set of clauses. The sets themselves are `clauses` of the definitions; here stands how a table of words is turned into one:
-- Plans: which raw clauses a matrix makes, and how many. Forms: those of its words. Laying: the plan of a formula's words. Ranks: the distinct atoms in order.
-- Search: how one of them is found. Sets: what a clause set stands for. Stage: what stage 5 answers.
pub mod Plans
pub mod Forms
pub mod Laying
pub mod Ranks
pub mod Search
pub mod Each
pub mod Sets
pub mod Steps
pub mod Stage
