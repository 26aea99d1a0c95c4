pub mod Refine
pub mod Report
pub mod Standing
pub mod Pauses
