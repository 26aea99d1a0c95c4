pub mod Sqrt
pub mod Nearest
pub mod Parts
