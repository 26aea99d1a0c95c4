pub mod Bytes
pub mod Width
pub mod Rate
pub mod Facts
pub mod Default
