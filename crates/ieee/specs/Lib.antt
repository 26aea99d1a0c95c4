pub mod Sum
pub mod Bounds
