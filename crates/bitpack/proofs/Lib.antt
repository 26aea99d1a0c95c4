pub mod Checks
pub mod Fields
pub mod Packing
pub mod Steps
