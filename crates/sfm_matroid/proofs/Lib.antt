pub mod MatroidTests
pub mod SplitTests
mod Matched
pub mod Demands
mod TransversalBases
pub mod Lending
mod Options
pub mod Beside
mod SlotNotes
pub mod Exchanges
pub mod Fits
mod Frames
pub mod AnyRank
pub mod Passed
mod Kept
mod SlotForms
pub mod Multiples
pub mod KeptPlaces
pub mod Restricted
