pub mod Summing
pub mod ReadLemmas
pub mod Demos
pub mod Rows
pub mod Moved
pub mod Slopes
pub mod Solves
pub mod Feeds
