pub mod Distance
pub mod Nearest
pub mod Choice
pub mod Four
pub mod Shape
pub mod Finite
