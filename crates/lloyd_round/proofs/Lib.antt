pub mod AddLaw
pub mod BeginLaw
