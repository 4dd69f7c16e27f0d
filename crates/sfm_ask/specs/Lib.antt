pub mod Pinned
pub mod Shifts
pub mod Asking
