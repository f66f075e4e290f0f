-- What the proofs of several functions use.
mod RunLaws
mod TermLaws
mod NodeLaws
