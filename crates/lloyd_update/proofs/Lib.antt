pub mod CheckLaw
pub mod AddLaw
pub mod RepairsLaw
pub mod BeginLaw
pub mod CountLaw
