pub mod Spread
pub use Rattle.sfm_cells.specs.Splits
pub use Rattle.sfm_split.specs.Ends
pub use Rattle.sfm_cells.specs.Lenders
