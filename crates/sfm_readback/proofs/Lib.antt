pub mod Tokens
mod FirstBytes
mod ShortNumbers
pub mod Needs
pub mod Names
pub mod LineForms
pub mod CleanLines
pub mod Labels
pub mod Rules
pub mod Machine
pub mod Beginnings
pub mod Ends
pub mod Slots
pub mod Parts
pub mod BadLines
pub mod Sections
pub mod First
pub mod AnyHeader
pub mod Whole
pub mod Unique
pub mod OneAnswer
