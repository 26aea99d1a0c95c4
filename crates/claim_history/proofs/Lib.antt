pub mod ChecksLaw
pub mod TalliesLaw
pub mod HistoryLaw
