pub mod ConcaveLaws
pub mod Counts
pub mod Rankings
pub mod Thresholds
pub mod UniformLaws
