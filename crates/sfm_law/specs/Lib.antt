pub mod Room
pub mod Walk
pub mod Rest
pub mod Values
pub mod Based
