pub mod Penalties
pub mod Values
pub mod Pinning
pub mod Telling
pub mod Pieces
