pub mod Counted
pub mod Labels
pub mod Marks
pub mod Optimum
pub mod Run
pub mod Spread
