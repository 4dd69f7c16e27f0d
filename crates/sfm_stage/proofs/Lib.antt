pub mod Times
pub mod Serving
pub mod Chains
pub mod Aiming
pub mod Moving
