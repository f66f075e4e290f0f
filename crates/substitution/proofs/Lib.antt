-- What the proofs of several functions use.
mod Finding
mod Spanning
mod Sifting
mod Adding
mod Collecting
