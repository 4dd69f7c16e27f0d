pub mod Tokens
pub mod Entries
pub mod Texts
pub mod Lines
