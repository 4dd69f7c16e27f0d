pub mod Pair
pub mod Sides
pub mod Passing
