mod SmallLaw
mod PairLaw
mod WatchLaw
mod TotalsLaw
pub mod AnswersLaw
