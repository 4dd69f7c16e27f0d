pub mod Deficits
pub mod Orders
pub mod Listings
pub mod Classes
pub mod Groups
pub mod Weights
pub mod Generating
pub mod Tellings
