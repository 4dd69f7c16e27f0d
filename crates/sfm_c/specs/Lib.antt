pub mod Calls
pub mod Making
