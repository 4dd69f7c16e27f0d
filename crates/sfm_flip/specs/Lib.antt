pub mod Flipped
pub mod FlipLaws
pub mod Known
pub mod Flips
