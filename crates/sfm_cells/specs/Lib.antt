pub mod Splits
pub mod Cells
pub mod Groups
pub mod Left
pub mod Lenders
