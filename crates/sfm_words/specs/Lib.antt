pub mod Subcommand
pub mod Line
pub mod Command
