pub mod Framing
pub mod Putting
pub mod Keeping
pub mod SizeReasons
pub mod Pinning
pub mod PinReasons
pub mod OneReading
pub mod OneSaying
