pub mod Passes
pub mod GroupPasses
