pub mod Reading
pub mod Certified
pub mod Pulls
pub mod Blocks
