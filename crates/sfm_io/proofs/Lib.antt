pub mod FaultLemmas
pub mod HeldLemmas
pub mod ShelfLemmas
pub mod SinkLemmas
mod Holding
