pub mod Members
pub mod Ranks
pub mod Terms
pub mod Growing
pub mod Bases
