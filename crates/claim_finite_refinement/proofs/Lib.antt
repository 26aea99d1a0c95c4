pub mod RatesLaw
pub mod BestLaw
pub mod FiniteRefinementLaw
pub mod ReportLaw
