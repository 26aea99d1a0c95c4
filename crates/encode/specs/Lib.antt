pub mod Encode
pub mod Work
pub mod Search
