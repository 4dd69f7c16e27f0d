pub mod Common
pub mod Met
pub mod Meetable
pub mod Told
pub mod Both
