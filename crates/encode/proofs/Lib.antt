pub mod EncodeLaw
pub mod CheckLaw
pub mod AcceptLaw
mod IndexLaw
mod TurnLaw
