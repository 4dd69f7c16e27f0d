mod MatroidTests
mod SplitTests
mod Numbering
mod Tails
mod OneTest
mod GraphicBases
mod GraphicRooms
mod Noted
mod Freed
mod Passed
mod Kept
mod Labels
mod CutForms
mod Numbers
mod Multiples
pub mod Restricted
