pub mod NormLaw
pub mod ShiftLaw
pub mod GatherLaw
pub mod WordsLaw
pub mod StepLaw
pub mod UpdateLaw
