pub mod Squares
pub mod LevelLaw
pub mod LevelBack
