-- The clause listing (document 01, the file program): `listing` of the definitions, written from a clause set.
-- Texts: the text that any set gives. Lists: what the writer answers.
pub mod Texts
pub mod Lists
