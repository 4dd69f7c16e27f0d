pub mod AnswerLines
pub mod Labels
pub mod AnyHeader
pub mod Pieces
pub mod Lengths
pub mod InstanceLengths
mod Widths
mod DigitTexts
