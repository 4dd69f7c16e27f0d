pub mod Served
pub mod Aims
pub mod Kept
pub mod Courses
