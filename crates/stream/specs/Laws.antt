pub mod Enough
pub mod Rules
pub mod Held
pub mod Labels
pub mod Told
pub mod Fed
pub mod Moving
