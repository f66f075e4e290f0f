pub mod Shown
pub mod Tame
pub mod Passed
pub mod Joining
pub mod Shaping
