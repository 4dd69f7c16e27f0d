pub mod Side
pub mod Frame
pub mod Sizes
pub mod Passes
pub mod SizeLines
pub mod Pins
pub mod PinLines
