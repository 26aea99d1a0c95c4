pub mod CheckLaw
pub mod EventLaw
pub mod TurnLaw
