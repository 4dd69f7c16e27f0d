pub mod Matroids
pub mod Growth
pub mod Terms
pub mod Laws
