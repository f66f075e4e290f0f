pub mod Lines
pub mod Levels
pub mod Reader
