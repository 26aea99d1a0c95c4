pub mod Isqrt
pub mod Steps
pub mod Rounded
pub mod Bounds
pub mod Nearest
pub mod Examples
