pub mod Spreads
pub mod Telling
pub mod Gathering
pub mod Remembered
