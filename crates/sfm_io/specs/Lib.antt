pub mod Faults
pub mod HeldShelf
pub mod HeldSink
pub mod MemoryShelf
pub mod Shelf
pub mod Sink
pub mod Transfer
