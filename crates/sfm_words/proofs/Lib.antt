pub mod Numbers
pub mod Turns
pub mod Levels
pub mod Places
pub mod Forms
pub mod Lines
pub mod Found
