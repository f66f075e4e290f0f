pub mod Fields
pub mod Keywords
pub mod Lines
pub mod Pieces
pub mod Runs
pub mod Steps
