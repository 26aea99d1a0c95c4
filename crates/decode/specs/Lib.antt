pub mod Decode
pub mod Work
