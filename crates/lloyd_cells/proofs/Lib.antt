pub mod CellsLaw
pub mod DonorLaw
pub mod FitLaw
pub mod WorkLaw
pub mod TallyLaw
pub mod ClearLaw
