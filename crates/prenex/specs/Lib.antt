-- Prenex form (source document 000, stage 2) over node tables; the form itself is `outward` of the definitions. What the stage promises is in Stage.
pub mod Walk
pub mod Tables
pub mod Renaming
pub mod Weights
pub mod Writing
pub mod Outward
pub mod Stage
