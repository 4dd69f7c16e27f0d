pub mod Sized
pub mod Weighing
