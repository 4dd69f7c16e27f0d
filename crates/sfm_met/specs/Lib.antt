pub mod MetText
pub mod MetVerdict
pub mod Sums
pub mod MetSlots
pub mod MetFindings
pub mod MetReading
