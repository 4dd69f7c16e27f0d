pub mod Made
pub mod Masked
pub mod Bases
pub mod Exchanges
pub mod Fits
pub mod Listed
pub mod Kept
pub mod Leasts
pub mod Ends
mod Holders
mod Counted
pub mod Cut
mod Repeats
mod Slacking
