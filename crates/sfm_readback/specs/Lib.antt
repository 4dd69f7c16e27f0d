pub mod Reading
pub mod Lists
pub mod Lines
pub mod Parts
pub mod Slots
