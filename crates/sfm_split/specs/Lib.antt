pub mod Search
pub mod Pours
pub mod Lowers
pub mod Changes
pub mod Ends
pub mod Grown
pub mod Sides
