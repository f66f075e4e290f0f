-- What the proofs of several functions use.
mod Roots
mod Moving
mod Joining
mod Fitting
mod Binding
mod Reducing
