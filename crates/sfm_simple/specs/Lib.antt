pub mod Breaches
pub mod CoverLaws
pub mod CutLaws
pub mod NeedLaws
pub mod Pairs
pub mod Subsets
pub mod TableLaws
pub mod WeightLaws
