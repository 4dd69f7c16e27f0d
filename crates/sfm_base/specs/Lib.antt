pub mod Lending
pub mod NumberText
pub mod Page
pub mod Rows
pub mod Words
