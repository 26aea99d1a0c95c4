pub mod Format
pub mod Pack
