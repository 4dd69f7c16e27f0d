pub mod LevelText
pub mod Told
pub mod Sums
pub mod Levelling
