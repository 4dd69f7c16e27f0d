pub mod Placing
pub mod Together
