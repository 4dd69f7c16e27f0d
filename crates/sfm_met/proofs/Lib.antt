pub mod Short
pub mod MetLines
pub mod OneMet
pub mod Verdicts
pub mod Reading
pub mod Whole
pub mod Told
pub mod Rows
