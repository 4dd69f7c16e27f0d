pub mod Draws
pub mod DemoText
pub mod Names
