pub mod Widths
pub mod Numbered
pub mod LineLengths
pub mod Reasons
pub mod Keeping
pub mod Alike
pub mod OneEditing
pub mod FirstBases
