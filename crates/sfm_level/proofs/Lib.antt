pub mod Values
pub mod Bounds
pub mod Chains
pub mod FirstSums
pub mod Kept
pub mod Forms
