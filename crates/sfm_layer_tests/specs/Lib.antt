pub mod Weighed
