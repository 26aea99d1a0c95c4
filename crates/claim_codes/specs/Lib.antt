pub mod Codes
pub mod Norms
pub mod Converted
pub mod OneFrame
