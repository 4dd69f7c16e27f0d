pub mod SideNotes
pub mod Sides
