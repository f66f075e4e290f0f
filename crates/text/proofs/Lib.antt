pub mod Comparing
pub mod Copies
