pub mod Fields
pub mod Checks
pub mod Paper
pub mod Valid
