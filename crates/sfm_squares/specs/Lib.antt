pub mod Level
pub mod LevelLaws
