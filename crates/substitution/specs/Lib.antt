-- The free variables over node tables that are asked for: each once, by first occurrence from left to right; a block takes its variables out
-- of its body's list.
pub mod Runs
pub mod Slices
pub mod Arguments
pub mod Unions
pub mod Spelled
pub mod Keeping
