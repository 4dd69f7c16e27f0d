pub mod Task
pub mod Files
pub mod Tasks
pub mod Headline
pub mod Preparing
