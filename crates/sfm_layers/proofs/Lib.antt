pub mod Levels
pub mod Layers
pub mod Ones
pub mod Kept
