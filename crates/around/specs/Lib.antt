pub mod Around
pub mod Reach
