-- What the proofs of several functions use.
mod ByteLaws
mod PrintLaws
mod PushLaws
