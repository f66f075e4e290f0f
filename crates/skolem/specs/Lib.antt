pub mod Pass
pub mod Counting
pub mod Naming
pub mod Filling
pub mod Shape
pub mod Parts
pub mod Stage
