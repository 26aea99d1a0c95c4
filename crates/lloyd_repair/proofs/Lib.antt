pub mod NumberLaw
pub mod TurnLaw
pub mod DonorFacts
pub mod RepairLaw
