pub mod Pieces
pub mod Loops
pub mod Same
