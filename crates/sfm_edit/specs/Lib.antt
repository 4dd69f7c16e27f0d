pub mod Edits
pub mod Origins
pub mod EditLines
pub mod Resuming
