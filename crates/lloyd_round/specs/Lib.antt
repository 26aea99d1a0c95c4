pub mod Adding
pub mod Round
